-- The registered kinds, rising, and the components of one entity, kind by kind. Assumes nothing.
use mathlib.Core.Path.{◌≡◌, refl, ap, sym, ◌∙◌}
use mathlib.Core.Bool.{Bool, true, false, cond}
use mathlib.Core.Option.{Option, some, none}
use mathlib.Core.List.{List, [], ◌∷◌, ◌++◌, append_assoc}
use Prim.Native.Nat.{ℕ, zero, suc, ◌+◌, ◌-◌, ◌≤◌, ◌<◌}
use native.Mathlib.Omega.{arith}
use native.Mathlib.Numerals.{add-one}
use lib.ListN.{length, get_or, set, drop, drop_of_length-le}
use lib.Seq.{sets, drop-cons}
use Rattle.model.specs.Numbers.{MAX_KINDS}
use Rattle.model.specs.Model.{Entity, SparseSet, Component, no_row, mem, at, held, set_of}
use Rattle.model.specs.Listed.{rising_from, rising_kinds}
use Rattle.model.specs.Sound.{In}
use Rattle.model.specs.Store.{bytes_of}
use Rattle.model.specs.Snapshot.{value_at, add_component, components_of, component_bytes}
use Rattle.model.proofs.Lengths.{bytes_of_length}
use Rattle.snapshot.specs.Wrote.{one_bytes, WrittenUntil}

-- ---- the list of registered kinds

module _ (ks : List ℕ) where
  -- what is left to list from kind k on
  abbrev pub later : ℕ → List ℕ
  later k = rising_from ks (MAX_KINDS - k) k

  later_turn : (k : ℕ) → k < MAX_KINDS → later k ≡ cond (mem k ks) (k ∷ later (k + 1)) (later (k + 1))
  later_turn k h =
      let e : MAX_KINDS - k ≡ suc (MAX_KINDS - (k + 1)) = omega arith in
      ap (λ (n : ℕ). rising_from ks n k) e ∙ ap (λ (j : ℕ). cond (mem k ks) (k ∷ rising_from ks (MAX_KINDS - (k + 1)) j) (rising_from ks (MAX_KINDS - (k + 1)) j)) (sym (add-one k))

  pub lists_none : (l : List ℕ) (k : ℕ) → k < MAX_KINDS → mem k ks ≡ false → l ++ later k ≡ l ++ later (k + 1)
  lists_none l k h f = ap (λ (r : List ℕ). l ++ r) (later_turn k h ∙ rw f)

  pub lists_one : (l : List ℕ) (k : ℕ) → k < MAX_KINDS → mem k ks ≡ true → l ++ later k ≡ (l ++ (k ∷ [])) ++ later (k + 1)
  lists_one l k h t = ap (λ (r : List ℕ). l ++ r) (later_turn k h ∙ rw t) ∙ sym (append_assoc l (k ∷ []) (later (k + 1)))

  -- only registered kinds are listed
  from_in : (n k i : ℕ) → i < length (rising_from ks n k) → In ks (get_or (rising_from ks n k) i 0)
  from_in zero k i h = absurd (omega arith)
  from_in (suc n) k i h = go (mem k ks) refl (from_in n (suc k)) i h
    where
      r : List ℕ
      r = rising_from ks n (suc k)

      go : (b : Bool) → mem k ks ≡ b → ((i : ℕ) → i < length r → In ks (get_or r i 0)) → (i : ℕ) → i < length (cond b (k ∷ r) r) → In ks (get_or (cond b (k ∷ r) r) i 0)
      go true t f zero h = t
      go true t f (suc i) h = f i (omega arith)
      go false t f i h = f i h

  pub rising_in : (l : List ℕ) → l ≡ rising_kinds ks → (i : ℕ) → i < length l → In ks (get_or l i 0)
  unfolding rising_kinds
  rising_in l e i h = rw e (from_in MAX_KINDS 0 i (rw e at h))

-- ---- one kind

pub value_held : (e : Entity) (rows : SparseSet) (p a : ℕ) → held e rows ≡ true → p ≡ at e rows → a ≡ (get_or rows p no_row).value → value_at e rows ≡ some a
value_held e rows p a t q v =
    let n : (get_or rows (at e rows) no_row).value ≡ a = sym (v ∙ ap (λ (i : ℕ). (get_or rows i no_row).value) q) in
    rw (t, n)

value_bare : (e : Entity) (rows : SparseSet) → rows ≡ [] → value_at e rows ≡ none
value_bare e rows h = rw h

pub one_room : {x n : ℕ} {y : Option ℕ} (v p k : ℕ) → y ≡ some x → p + length (one_bytes v y k) ≤ n → p + 1 + v ≤ n
one_room {x} {n} v p k e h =
    let z : p + length (one_bytes v (some x) k) ≤ n = rw e at h in
    omega (arith, bytes_of_length v x)

pub one_written : {o' : List ℕ} {x : ℕ} {y : Option ℕ} (v : ℕ) (o : List ℕ) (p k : ℕ) → y ≡ some x → o' ≡ sets (set o p k) (p + 1) (bytes_of v x) → WrittenUntil o o' p (p + 1 + v) (one_bytes v y k)
one_written {x = x} v o p k e q = rw e (record { bytes = q ∙ ap (λ (i : ℕ). sets (set o p k) i (bytes_of v x)) (add-one p); next = omega (arith, bytes_of_length v x) })

-- ---- the kinds of one entity

bytes_add : (v : ℕ) (y : Option ℕ) (k : ℕ) (ps : List Component) → component_bytes v (add_component y k ps) ≡ one_bytes v y k ++ component_bytes v ps
bytes_add v none k ps = refl
bytes_add v (some x) k ps = refl

components_few : (e : Entity) (k : ℕ) (ss : List SparseSet) → length (components_of e k ss) ≤ length ss
components_few e k [] = omega arith
components_few e k (c ∷ cs) = go (value_at e c) (components_few e (suc k) cs)
  where
    go : (v : Option ℕ) → length (components_of e (suc k) cs) ≤ length cs → length (add_component v k (components_of e (suc k) cs)) ≤ suc (length cs)
    go none h = omega arith
    go (some x) h = omega arith

pub few_components : (e : Entity) (ss : List SparseSet) → length ss ≡ MAX_KINDS → length (components_of e 0 ss) ≤ MAX_KINDS
few_components e ss h = omega (arith, components_few e 0 ss)

-- the bytes of the components of these kinds
abbrev pub kinds_bytes : ℕ → Entity → List SparseSet → List ℕ → List ℕ
kinds_bytes v e ss [] = []
kinds_bytes v e ss (k ∷ ks) = one_bytes v (value_at e (set_of ss k)) k ++ kinds_bytes v e ss ks

pub bytes_turn : (v : ℕ) (e : Entity) (ss : List SparseSet) (l : List ℕ) (i : ℕ) → i < length l
    → kinds_bytes v e ss (drop i l) ≡ one_bytes v (value_at e (set_of ss (get_or l i 0))) (get_or l i 0) ++ kinds_bytes v e ss (drop (i + 1) l)
bytes_turn v e ss l i h = ap (kinds_bytes v e ss) (drop-cons l i 0 h ∙ ap (λ (j : ℕ). get_or l i 0 ∷ drop j l) (sym (add-one i)))

pub bytes_end : (v : ℕ) (e : Entity) (ss : List SparseSet) (l : List ℕ) (i : ℕ) → length l ≤ i → kinds_bytes v e ss (drop i l) ≡ []
bytes_end v e ss l i h = ap (kinds_bytes v e ss) (drop_of_length-le l h)

module _ (v : ℕ) (e : Entity) (ks : List ℕ) (ss : List SparseSet) (wide : length ss ≡ MAX_KINDS) (bare : (k : ℕ) → k < MAX_KINDS → mem k ks ≡ false → set_of ss k ≡ []) where
  from_bytes : (n k : ℕ) → n + k ≡ MAX_KINDS → component_bytes v (components_of e k (drop k ss)) ≡ kinds_bytes v e ss (rising_from ks n k)
  from_bytes zero k q = let h : length ss ≤ k = omega (arith, wide) in ap (λ (l : List SparseSet). component_bytes v (components_of e k l)) (drop_of_length-le ss h)
  from_bytes (suc n) k q =
      let h : k < length ss = omega (arith, wide) in
      ap (λ (l : List SparseSet). component_bytes v (components_of e k l)) (drop-cons ss k [] h)
      ∙ bytes_add v (value_at e (set_of ss k)) k (components_of e (suc k) (drop (suc k) ss))
      ∙ ap (λ (l : List ℕ). one_bytes v (value_at e (set_of ss k)) k ++ l) (from_bytes n (suc k) (omega arith))
      ∙ go (mem k ks) refl
    where
      r : List ℕ
      r = rising_from ks n (suc k)

      go : (b : Bool) → mem k ks ≡ b → one_bytes v (value_at e (set_of ss k)) k ++ kinds_bytes v e ss r ≡ kinds_bytes v e ss (cond b (k ∷ r) r)
      go true t = refl
      go false t = rw (value_bare e (set_of ss k) (bare k (omega arith) t))

  -- an entity's components are those of the registered kinds
  pub bytes_all : (l : List ℕ) → l ≡ rising_kinds ks → component_bytes v (components_of e 0 ss) ≡ kinds_bytes v e ss l
  unfolding rising_kinds
  bytes_all l q = from_bytes MAX_KINDS 0 refl ∙ ap (kinds_bytes v e ss) (sym q)
