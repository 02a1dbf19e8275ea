-- A change of the sparse sets of some kinds, made one kind after another. Assumes nothing.
use mathlib.Core.Path.{◌≡◌, refl, ap, sym, ◌∙◌}
use mathlib.Core.Bool.{false, cond, ◌||◌, or-true}
use mathlib.Core.List.{List, [], ◌∷◌, ◌++◌}
use Prim.Native.Nat.{ℕ, ◌<◌}
use native.Mathlib.Nat.{zero-add}
use native.Mathlib.Decide.{ℕ_discrete}
use borrow.Author.Tests.{eq-eqb, ne_eqb}
use lib.Dec.{eqb}
use lib.ListN.{length, set, length-set}
use lib.Seq.{ext_get_or, get_or-set_same, get_or-set_other}
use Rattle.model.specs.Model.{SparseSet, mem, set_of, on_kinds}
use Rattle.model.specs.Sound.{In, Distinct}
use Rattle.model.proofs.BoolLaws.{bool_cases}
use Rattle.model.proofs.SparseSets.{set_of_map_on}
use Rattle.model.proofs.Invariant.{length_map_on}
use Rattle.model.proofs.KindLists.{distinct_right, distinct_apart}

abbrev pub each_kind : (SparseSet → SparseSet) → List ℕ → List SparseSet → List SparseSet
each_kind f [] sets = sets
each_kind f (k ∷ ks) sets = each_kind f ks (set sets k (f (set_of sets k)))

pub length_each : (f : SparseSet → SparseSet) (ks : List ℕ) (sets : List SparseSet) → length (each_kind f ks sets) ≡ length sets
length_each f [] sets = refl
length_each f (k ∷ ks) sets = length_each f ks (set sets k (f (set_of sets k))) ∙ length-set sets k (f (set_of sets k))

pub each_append : (f : SparseSet → SparseSet) (ks js : List ℕ) (sets : List SparseSet) → each_kind f (ks ++ js) sets ≡ each_kind f js (each_kind f ks sets)
each_append f [] js sets = refl
each_append f (k ∷ ks) js sets = each_append f ks js (set sets k (f (set_of sets k)))

-- kind j's sparse set is changed once if j is one of the kinds, and else is as it was
pub set_of_each : (f : SparseSet → SparseSet) (ks : List ℕ) (sets : List SparseSet) → Distinct ks → ((k : ℕ) → In ks k → k < length sets) → (j : ℕ)
    → set_of (each_kind f ks sets) j ≡ cond (mem j ks) (f (set_of sets j)) (set_of sets j)
set_of_each f [] sets d lt j = refl
set_of_each f (k ∷ ks) sets d lt j = go (ℕ_discrete j k) (set_of_each f ks next (distinct_right (k ∷ []) ks d) (λ i h. rw (length-set sets k (f (set_of sets k))) (lt i (rw h (or-true (eqb i k))))) j)
  where
    next : List SparseSet
    next = set sets k (f (set_of sets k))

    go : Dec (j ≡ k) → set_of (each_kind f ks next) j ≡ cond (mem j ks) (f (set_of next j)) (set_of next j) → set_of (each_kind f ks next) j ≡ cond (eqb j k || mem j ks) (f (set_of sets j)) (set_of sets j)
    go (yes q) r =
        let inside : In (k ∷ ks) k = rw (eq-eqb k k refl) in
        let gone : mem k ks ≡ false = distinct_apart (k ∷ []) ks d k (rw (eq-eqb k k refl)) in
        r ∙ rw (q, gone, eq-eqb k k refl) (get_or-set_same sets k (f (set_of sets k)) [] (lt k inside))
    go (no q) r = r ∙ rw (ne_eqb j k q, get_or-set_other sets k j (f (set_of sets k)) [] q)

pub each_kinds : (f : SparseSet → SparseSet) → f [] ≡ [] → (ks : List ℕ) (sets : List SparseSet) → Distinct ks → ((k : ℕ) → In ks k → k < length sets) → each_kind f ks sets ≡ on_kinds ks f sets
each_kinds f z ks sets d lt =
    ext_get_or [] (each_kind f ks sets) (on_kinds ks f sets) (length_each f ks sets ∙ sym (length_map_on ks f 0 sets))
    (λ j h. set_of_each f ks sets d lt j ∙ sym (set_of_map_on ks f z 0 sets j ∙ ap (λ (n : ℕ). cond (mem n ks) (f (set_of sets j)) (set_of sets j)) (zero-add j)))

-- a change that leaves each of the kinds' sparse sets as it is
pub kinds_idle : (f : SparseSet → SparseSet) → f [] ≡ [] → (ks : List ℕ) (sets : List SparseSet) → ((k : ℕ) → In ks k → f (set_of sets k) ≡ set_of sets k) → on_kinds ks f sets ≡ sets
kinds_idle f z ks sets h =
    ext_get_or [] (on_kinds ks f sets) sets (length_map_on ks f 0 sets)
    (λ j l. set_of_map_on ks f z 0 sets j
    ∙ ap (λ (n : ℕ). cond (mem n ks) (f (set_of sets j)) (set_of sets j)) (zero-add j)
    ∙ bool_cases (mem j ks) (λ t. rw t (h j t)) (λ t. rw t))
