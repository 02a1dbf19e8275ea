-- The loop that takes an entity's components of the staged kinds out and writes their bytes, one kind after another. Assumes nothing.
use mathlib.Core.Path.{◌≡◌, ap, ap₂, sym, ◌∙◌}
use mathlib.Core.Bool.{true, false}
use mathlib.Core.List.{List, [], ◌∷◌, ◌++◌, append-nil, append_assoc}
use Prim.Native.Nat.{ℕ, suc, ◌+◌, ◌*◌, ◌≤◌, ◌<◌}
use native.Mathlib.Omega.{arith}
use native.Mathlib.Numerals.{add-one}
use native.Mathlib.Nat.{mul-le-mul_left, mul-suc}
use lib.ListN.{length, get_or, take, length-map}
use lib.Seq.{sets, length-sets, take_all, take-suc, length-take-le}
use Rattle.model.specs.Model.{Entity, SparseSet, Storage, no_row, set_of, at, held, kind_of}
use Rattle.model.specs.Store.{Store, staged_kinds, bytes_of}
use Rattle.model.specs.Commands.{taken_bytes, held_bytes}
use Rattle.model.proofs.Lengths.{held_length}
use Rattle.model.proofs.ListLaws.{sets_join}
use Rattle.memory.specs.Meaning.{meaning}
use Rattle.world.specs.Remove.{Staged}
use Rattle.command_take.specs.Take.{TakesKind, TakesStaged}
use Rattle.world.proofs.Removing.{Gone, each_gone, gone_next, gone_turn, gone_all, staged_kept, staged_small}

pub bytes_none : (v : ℕ) (e : Entity) (rows : SparseSet) → held e rows ≡ false → 0 ∷ bytes_of v 0 ≡ taken_bytes v e rows
bytes_none v e rows h = rw h

pub bytes_held : (v : ℕ) (e : Entity) (rows : SparseSet) (x : ℕ) → held e rows ≡ true → x ≡ (get_or rows (at e rows) no_row).value → 1 ∷ bytes_of v x ≡ taken_bytes v e rows
bytes_held v e rows x h q = rw h (ap {B = List ℕ} (λ (y : ℕ). 1 ∷ bytes_of v y) q)

held_snoc : (v : ℕ) (e : Entity) (ks : List ℕ) (k : ℕ) (p : Storage) → held_bytes v e (ks ++ (k ∷ [])) p ≡ held_bytes v e ks p ++ taken_bytes v e (set_of p.sets k)
held_snoc v e [] k p = append-nil (taken_bytes v e (set_of p.sets k))
held_snoc v e (j ∷ ks) k p =
    ap (λ (l : List ℕ). taken_bytes v e (set_of p.sets j) ++ l) (held_snoc v e ks k p)
    ∙ sym (append_assoc (taken_bytes v e (set_of p.sets j)) (held_bytes v e ks p) (taken_bytes v e (set_of p.sets k)))

-- one kind more
held_turn : (v : ℕ) (e : Entity) (p : Storage) (ks out₀ : List ℕ) (a : ℕ) (out out' : List ℕ) (i : ℕ) → i < length ks → out ≡ sets out₀ a (held_bytes v e (take i ks) p)
    → out' ≡ sets out (a + (1 + v) * i) (taken_bytes v e (set_of p.sets (get_or ks i 0))) → out' ≡ sets out₀ a (held_bytes v e (take (i + 1) ks) p)
held_turn v e p ks out₀ a out out' i h b q =
    let one : List ℕ = taken_bytes v e (set_of p.sets (get_or ks i 0)) in
    let had : List ℕ = held_bytes v e (take i ks) p in
    let len : (1 + v) * i ≡ length had = sym (held_length v e (take i ks) p ∙ ap (λ (n : ℕ). (1 + v) * n) (length-take-le i ks (omega arith))) in
    let more : take (i + 1) ks ≡ take i ks ++ (get_or ks i 0 ∷ []) = ap (λ (n : ℕ). take n ks) (add-one i) ∙ take-suc ks i 0 h in
    q
    ∙ ap (λ (l : List ℕ). sets l (a + (1 + v) * i) one) b
    ∙ ap (λ (n : ℕ). sets (sets out₀ a had) (a + n) one) len
    ∙ sets_join out₀ a had one
    ∙ ap (sets out₀ a) (sym (ap (λ (l : List ℕ). held_bytes v e l p) more ∙ held_snoc v e (take i ks) (get_or ks i 0) p))

-- ---- the loop: the first i staged kinds are gone, and their bytes written

module _ (w₀ out₀ : List ℕ) (e : Entity) (a : ℕ) where
  abbrev kinds : List ℕ
  kinds = staged_kinds (meaning w₀)

  abbrev v : ℕ
  v = (meaning w₀).settings.value_bytes

  pub record Taken (w out : List ℕ) (i : ℕ) : Type 0 where
    pub gone : Gone w₀ e (staged_kinds (meaning w₀)) w i
    pub bytes : out ≡ sets out₀ a (held_bytes (meaning w₀).settings.value_bytes e (take i (staged_kinds (meaning w₀))) (meaning w₀).storage)

  module _ (w out : List ℕ) (i : ℕ) where
    pub taken_staged : Staged w₀ → Taken w out i → Staged w
    taken_staged S T = staged_kept w₀ w (each_gone e (take i kinds)) S T.gone

    pub taken_count : Taken w out i → length (meaning w).control.staged ≡ length (meaning w₀).control.staged
    taken_count T = ap (λ (m : Store). length m.control.staged) T.gone.means

    pub taken_length : Taken w out i → length out ≡ length out₀
    taken_length T = ap length T.bytes ∙ length-sets out₀ a (held_bytes v e (take i kinds) (meaning w₀).storage)

    -- a component's bytes are len, which is 1 and the value's
    pub taken_turn : Staged w₀ → i < length (meaning w₀).control.staged → Taken w out i → (len : ℕ) → len ≡ 1 + v → (w' out' : List ℕ)
        → TakesKind w w' out out' e (get_or (staged_kinds (meaning w)) i 0) (a + len * i) → Taken w' out' (i + 1)
    taken_turn S h T len el w' out' K =
        let l : i < length kinds = omega (arith, length-map (meaning w₀).control.staged kind_of) in
        let same : get_or (staged_kinds (meaning w)) i 0 ≡ get_or kinds i 0 = ap (λ (m : Store). get_or (staged_kinds m) i 0) T.gone.means in
        let rows : set_of (meaning w).storage.sets (get_or (staged_kinds (meaning w)) i 0) ≡ set_of (meaning w₀).storage.sets (get_or kinds i 0) =
        ap (set_of (meaning w).storage.sets) same ∙ gone_next w₀ e kinds w i l S.once T.gone in
        let width : (meaning w).settings.value_bytes ≡ v = ap (λ (m : Store). m.settings.value_bytes) T.gone.means in
        record {
          gone = gone_turn w₀ e kinds w w' i (get_or (staged_kinds (meaning w)) i 0) l same T.gone K.becomes;
          bytes =
              held_turn v e (meaning w₀).storage kinds out₀ a out out' i l T.bytes
              (K.bytes ∙ ap (λ (n : ℕ). sets out (a + n * i) (taken_bytes (meaning w).settings.value_bytes e (set_of (meaning w).storage.sets (get_or (staged_kinds (meaning w)) i 0)))) el
              ∙ ap₂ (λ (u : ℕ) (rs : SparseSet). sets out (a + (1 + v) * i) (taken_bytes u e rs)) width rows);
        }

    pub taken_all : Staged w₀ → length (meaning w₀).control.staged ≤ i → Taken w out i → (len n : ℕ) → len ≡ 1 + v → n ≡ length (meaning w₀).control.staged → TakesStaged w₀ w out₀ out e a (len * n)
    taken_all S h T len n el en =
        let l : length kinds ≤ i = omega (arith, length-map (meaning w₀).control.staged kind_of) in
        record {
          becomes = gone_all w₀ e kinds w i l S.once (staged_small w₀ S) T.gone;
          bytes = T.bytes ∙ ap (λ (ks : List ℕ). sets out₀ a (held_bytes v e ks (meaning w₀).storage)) (take_all i kinds l);
          count = ap₂ (λ (x y : ℕ). x * y) el (en ∙ sym (length-map (meaning w₀).control.staged kind_of)) ∙ sym (held_length v e kinds (meaning w₀).storage);
        }

-- ---- the room for it

-- at len bytes each, n of them have room; so have i of them and one more
pub turn_room : (at len i n total : ℕ) → i < n → at + len * n ≤ total → at + len * i + len ≤ total
turn_room at len i n total h r = let q : len * suc i ≤ len * n = mul-le-mul_left len h in omega (arith, mul-suc len i)
