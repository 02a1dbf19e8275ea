-- The loops that take an entity's components out, one kind after another. Assumes nothing.
use mathlib.Core.Path.{◌≡◌, refl, ap, sym, ◌∙◌, subst}
use mathlib.Core.Bool.{false}
use mathlib.Core.List.{List, [], ◌∷◌, ◌++◌, map}
use Prim.Native.Nat.{ℕ, ◌+◌, ◌≤◌, ◌<◌}
use native.Mathlib.Omega.{arith}
use native.Mathlib.Numerals.{add-one}
use borrow.Author.Tests.{eqb-false}
use lib.Dec.{eqb}
use lib.ListN.{length, get_or, set, take, length-map, get_or-map}
use lib.Seq.{take_all, take-suc, get_or-set_other}
use Rattle.model.specs.Numbers.{MAX_KINDS}
use Rattle.model.specs.Model.{Entity, Component, SparseSet, Storage, mem, kind_of, set_of, on_kinds, remove_row}
use Rattle.model.specs.Store.{Store, staged_kinds, on_set, on_storage}
use Rattle.model.specs.Sound.{In, Distinct, no_component}
use Rattle.model.proofs.BoolLaws.{or_false, or_false_right}
use Rattle.model.proofs.KindLists.{at_in, distinct_new}
use Rattle.words.proofs.Tables.{get_d_table}
use Rattle.words.specs.Shape.{shape_of}
use Rattle.words.specs.declared.Shape.{Shape}
use Rattle.component.specs.Changes.{Only, Lent}
use Rattle.component.proofs.Parts.{lent}
use Rattle.memory.specs.Header.{kind_capacity_of, registered_of}
use Rattle.memory.specs.Meaning.{kind_at, kinds_in, meaning}
use Rattle.memory.specs.Arranged.{Arranged, Becomes}
use Rattle.memory.proofs.Becomes.{one_becomes, stays, sets_wide, kinds_count}
use Rattle.kinds.proofs.Slot.{known_small}
use Rattle.group.proofs.EachKind.{each_kind, each_append, each_kinds}
use Rattle.world.specs.Remove.{Staged, removed}
use Rattle.group.proofs.Storing.{becomes_then, shape_kept}

abbrev pub each_gone : Entity → List ℕ → Storage → Storage
each_gone e ks s = record { sets = each_kind (remove_row e) ks s.sets; layout = s.layout }

-- a kind that is not among ks
each_other : (f : SparseSet → SparseSet) (ks : List ℕ) (sets : List SparseSet) (j : ℕ) → mem j ks ≡ false → set_of (each_kind f ks sets) j ≡ set_of sets j
each_other f [] sets j n = refl
each_other f (k ∷ ks) sets j n =
    each_other f ks (set sets k (f (set_of sets k))) j (or_false_right (eqb j k) (mem j ks) n)
    ∙ get_or-set_other sets k j (f (set_of sets k)) [] (eqb-false j k (or_false (eqb j k) (mem j ks) n))

-- of the kinds of ks the first i are done
module _ (w₀ : List ℕ) (e : Entity) (ks : List ℕ) where
  abbrev pub Gone : List ℕ → ℕ → Type 0
  Gone w i = Becomes w₀ w (on_storage (each_gone e (take i ks)) (meaning w₀))

  pub gone_none : Arranged w₀ → Gone w₀ 0
  gone_none A = stays A

  pub gone_shape : (w : List ℕ) (i : ℕ) → Gone w i → shape_of w₀ ≡ shape_of w
  gone_shape w i B = sym (shape_kept w₀ w (each_gone e (take i ks)) B)

  pub gone_turn : (w w' : List ℕ) (i k : ℕ) → i < length ks → k ≡ get_or ks i 0 → Gone w i → Becomes w w' (on_storage (on_set k (remove_row e)) (meaning w)) → Gone w' (i + 1)
  gone_turn w w' i k h q B C =
      let was : List SparseSet = each_kind (remove_row e) (take i ks) (meaning w₀).storage.sets in
      let more : take (i + 1) ks ≡ take i ks ++ (get_or ks i 0 ∷ []) = ap (λ (n : ℕ). take n ks) (add-one i) ∙ take-suc ks i 0 h in
      let ss : set was k (remove_row e (set_of was k)) ≡ each_kind (remove_row e) (take (i + 1) ks) (meaning w₀).storage.sets =
      ap (λ (x : ℕ). set was x (remove_row e (set_of was x))) q
      ∙ sym (ap (λ (l : List ℕ). each_kind (remove_row e) l (meaning w₀).storage.sets) more ∙ each_append (remove_row e) (take i ks) (get_or ks i 0 ∷ []) (meaning w₀).storage.sets) in
      subst (λ (l : List SparseSet). Becomes w₀ w' (on_storage (λ (s : Storage). record { sets = l; layout = s.layout }) (meaning w₀))) ss
      (becomes_then w₀ w w' (each_gone e (take i ks)) (on_storage (on_set k (remove_row e))) B C)

  -- the next kind's rows are still as they were
  pub gone_next : (w : List ℕ) (i : ℕ) → i < length ks → Distinct ks → Gone w i → set_of (meaning w).storage.sets (get_or ks i 0) ≡ set_of (meaning w₀).storage.sets (get_or ks i 0)
  gone_next w i h d B =
      ap (λ (m : Store). set_of m.storage.sets (get_or ks i 0)) B.means
      ∙ each_other (remove_row e) (take i ks) (meaning w₀).storage.sets (get_or ks i 0) (distinct_new ks d i h)

  pub gone_all : (w : List ℕ) (i : ℕ) → length ks ≤ i → Distinct ks → ((k : ℕ) → In ks k → k < MAX_KINDS) → Gone w i → Becomes w₀ w (on_storage (removed e ks) (meaning w₀))
  gone_all w i h d lt B =
      let ss : each_kind (remove_row e) (take i ks) (meaning w₀).storage.sets ≡ on_kinds ks (remove_row e) (meaning w₀).storage.sets =
      ap (λ (l : List ℕ). each_kind (remove_row e) l (meaning w₀).storage.sets) (take_all i ks h)
      ∙ each_kinds (remove_row e) refl ks (meaning w₀).storage.sets d (λ k n. omega (arith, lt k n, sets_wide w₀)) in
      subst (λ (l : List SparseSet). Becomes w₀ w (on_storage (λ (s : Storage). record { sets = l; layout = s.layout }) (meaning w₀))) ss B

-- ---- the staged kinds

-- a staged component's kind, as the list of staged kinds has it
pub kind_at_law : (l : List Component) (i : ℕ) → (get_or l i no_component).kind ≡ get_or (map kind_of l) i 0
kind_at_law l i = sym (get_or-map kind_of l i no_component)

-- it is registered
pub staged_in_law : (s : Store) → ((k : ℕ) → In (staged_kinds s) k → In s.kinds k) → (i k : ℕ) → i < length s.control.staged → k ≡ (get_or s.control.staged i no_component).kind → In s.kinds k
staged_in_law s known i k h q =
    known k (subst (In (staged_kinds s)) (sym (q ∙ kind_at_law s.control.staged i)) (at_in (staged_kinds s) i (omega (arith, length-map s.control.staged kind_of))))

module _ (w : List ℕ) (S : Staged w) where
  pub staged_small : (k : ℕ) → In (staged_kinds (meaning w)) k → k < MAX_KINDS
  staged_small k i = known_small w S.arranged k (S.known k i)

-- words that have become others of the same kinds and staged components
pub staged_kept : (w₀ w : List ℕ) (f : Storage → Storage) → Staged w₀ → Becomes w₀ w (on_storage f (meaning w₀)) → Staged w
staged_kept w₀ w f S B =
    record {
      arranged = B.arranged;
      once = subst (λ (m : Store). Distinct (staged_kinds m)) (sym B.means) S.once;
      known = subst (λ (m : Store). (k : ℕ) → In (staged_kinds m) k → In m.kinds k) (sym B.means) S.known;
    }

-- ---- every slot's kind

module _ (w : List ℕ) (A : Arranged w) where
  kind_of_slot : (s : ℕ) → s < registered_of w → get_or (meaning w).kinds s 0 ≡ kind_at w s
  unfolding meaning kinds_in
  kind_of_slot s h = get_d_table (registered_of w) (kind_at w) s 0 h

  module _ (z : Shape) (s : ℕ) (e : z ≡ shape_of w) (h : s < length (meaning w).kinds) where
    below : s < registered_of w
    below = omega (arith, kinds_count w)

    pub slot_lent : Lent z s w
    slot_lent = rw e (lent (shape_of w) (kind_capacity_of w) s w A.columns (omega (arith, below, A.table.few)))

    pub slot_becomes : (w' : List ℕ) (f : SparseSet → SparseSet) → Only z s f w w' → Becomes w w' (on_storage (on_set (get_or (meaning w).kinds s 0) f) (meaning w))
    slot_becomes w' f o =
        let few : s < kind_capacity_of w = omega (arith, below, A.table.few) in
        subst (λ (k : ℕ). Becomes w w' (on_storage (on_set k f) (meaning w))) (sym (kind_of_slot s below))
        (one_becomes w w' A s below f ((rw e at o) (kind_capacity_of w) few A.columns))
