-- Sparse sets read by kind: what a walk's swap does to the entities of each. Assumes nothing.
use mathlib.Core.Path.{◌≡◌, refl, ap, sym, ◌∙◌}
use mathlib.Core.Bool.{true, false, cond}
use mathlib.Core.List.{List, [], ◌∷◌}
use Prim.Native.Nat.{ℕ, zero, suc, ◌+◌}
use native.Mathlib.Nat.{zero-add, add-zero, suc-add, add-suc}
use borrow.Author.Tests.{eqb-true, eq-eqb}
use lib.Dec.{eqb}
use lib.ListN.{get_or, set, get_or-map}
use Rattle.model.specs.Lists.{swap, place}
use Rattle.model.specs.Sound.{key}
use Rattle.model.specs.Model.{Entity, SparseSet, same_entity, no_entity, no_row, mem, set_of, keys, entity_of, at, swap_to, map_on, on_kinds}
use Rattle.model.proofs.BoolLaws.{cond_same, and_left, and_right}
use Rattle.model.proofs.ListLaws.{map_set}

pub entity_eq : (a b : Entity) → same_entity a b ≡ true → a ≡ b
entity_eq a b h =
    let p : a.index ≡ b.index = eqb-true _ _ (and_left _ (eqb a.version b.version) h) in
    let q : a.version ≡ b.version = eqb-true _ _ (and_right (eqb a.index b.index) _ h) in
    λ i. record { index = p i; version = q i }

pub entity_same : (a : Entity) → same_entity a a ≡ true
entity_same a = rw (eq-eqb a.index a.index refl, eq-eqb a.version a.version refl)

pub keys_swap : (i j : ℕ) (l : SparseSet) → keys (swap no_row i j l) ≡ swap no_entity i j (keys l)
keys_swap i j l =
    let a : get_or (keys l) i no_entity ≡ entity_of (get_or l i no_row) = get_or-map entity_of l i no_row in
    let b : get_or (keys l) j no_entity ≡ entity_of (get_or l j no_row) = get_or-map entity_of l j no_row in
    map_set entity_of (set l i (get_or l j no_row)) j (get_or l i no_row) ∙ rw (map_set entity_of l i (get_or l j no_row), a, b)

pub set_of_map_on : (ks : List ℕ) (f : SparseSet → SparseSet) → f [] ≡ [] → (i : ℕ) (sets : List SparseSet) (n : ℕ) → get_or (map_on ks f i sets) n [] ≡ cond (mem (i + n) ks) (f (get_or sets n [])) (get_or sets n [])
set_of_map_on ks f z i [] n = rw z (sym (cond_same (mem (i + n) ks) []))
set_of_map_on ks f z i (c ∷ cs) zero = rw add-zero
set_of_map_on ks f z i (c ∷ cs) (suc n) = rw (add-suc, ← suc-add) (set_of_map_on ks f z (suc i) cs n)

pub key_swapped : (ks : List ℕ) (e : Entity) (c : ℕ) (sets : List SparseSet) (k : ℕ) → mem k ks ≡ true → key (on_kinds ks (swap_to e c) sets) k ≡ swap no_entity (place same_entity e (key sets k)) c (key sets k)
key_swapped ks e c sets k h =
    ap keys (set_of_map_on ks (swap_to e c) refl 0 sets k) ∙ rw (zero-add, h) (keys_swap (at e (set_of sets k)) c (set_of sets k))

pub key_kept : (ks : List ℕ) (e : Entity) (c : ℕ) (sets : List SparseSet) (k : ℕ) → mem k ks ≡ false → key (on_kinds ks (swap_to e c) sets) k ≡ key sets k
key_kept ks e c sets k h = ap keys (set_of_map_on ks (swap_to e c) refl 0 sets k) ∙ rw (zero-add, h)
