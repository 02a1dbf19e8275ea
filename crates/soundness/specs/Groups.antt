-- The groups' clause as one pass over the columns tells it. 01, a sound store: "groups as demand 3 says". Assumes nothing.
use Rattle.std.specs.Prelude.{◌≡◌, false, List, [], ◌∷◌, ℕ, ◌≤◌, ◌<◌, length, get_or}
use Rattle.model.specs.Model.{SparseSet, Family, no_entity, head_kind, kinds_of, all_held}
use Rattle.model.specs.Sound.{In, key}

-- a group of count c whose next smaller group has count b (the smallest group's: h's whole length); new are its new kinds, h the family's first kind.
-- Each new kind's first c places are h's, and past them, up to b, each entity of h lacks a new kind.
pub record GroupOk (sets : List SparseSet) (h : ℕ) (new : List ℕ) (b c : ℕ) : Type 0 where
  pub less : c ≤ b
  pub fits : (k : ℕ) → In new k → c ≤ length (key sets k)
  pub even : (k : ℕ) → In new k → (i : ℕ) → i < c → get_or (key sets k) i no_entity ≡ get_or (key sets h) i no_entity
  pub past : (i : ℕ) → c ≤ i → i < b → all_held (get_or (key sets h) i no_entity) new sets ≡ false

-- the groups of a family, smallest first; b is the count before
abbrev pub GroupsOk : List SparseSet → ℕ → ℕ → Family → Type 0
GroupsOk sets h b [] = Unit {0}
GroupsOk sets h b (r ∷ rs) = GroupOk sets h r.new_kinds b r.count × GroupsOk sets h r.count rs

abbrev pub FamilyOk : List SparseSet → Family → Type 0
FamilyOk sets f = GroupsOk sets (head_kind (kinds_of f)) (length (key sets (head_kind (kinds_of f)))) f

abbrev pub FamiliesOk : List SparseSet → List Family → Type 0
FamiliesOk sets [] = Unit {0}
FamiliesOk sets (f ∷ fs) = FamilyOk sets f × FamiliesOk sets fs
