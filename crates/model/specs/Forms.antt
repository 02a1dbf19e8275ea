-- "A layout is families with no kind in common; a family is a chain of groups, each holding the one before", said of groups that are sets of kinds. Assumes nothing.
use Rattle.std.specs.Prelude.{◌≡◌, Bool, true, false, not, ◌&&◌, ◌||◌, ℕ}
use mathlib.Core.List.{List, [], ◌∷◌, ◌++◌, flatten}
use Rattle.model.specs.Model.{Family, within, meets, same_set, nested}

-- ---- the groups of a layout, each by all its kinds

-- of a family, smallest first; acc are the kinds of the group before
abbrev pub groups_in : List ℕ → Family → List (List ℕ)
groups_in acc [] = []
groups_in acc (r ∷ rs) = (acc ++ r.new_kinds) ∷ groups_in (acc ++ r.new_kinds) rs

-- of all families
abbrev pub all_groups : List Family → List (List ℕ)
all_groups [] = []
all_groups (f ∷ fs) = groups_in [] f ++ all_groups fs

-- ---- lists of groups, whose order and repeats say nothing, nor does the order of a group's kinds say anything

-- the group of kinds g is in the list
abbrev pub has_group : List ℕ → List (List ℕ) → Bool
has_group g [] = false
has_group g (h ∷ hs) = same_set g h || has_group g hs

-- the same groups are in both
abbrev pub SameGroups : List (List ℕ) → List (List ℕ) → Type 0
SameGroups gs hs = (g : List ℕ) → has_group g gs ≡ has_group g hs

-- ---- form a layout

-- "a chain of groups, each holding the one before"
abbrev pub IsChain : List (List ℕ) → Type 0
IsChain [] = Unit {0}
IsChain (g ∷ []) = Unit {0}
IsChain (g ∷ h ∷ gs) = (within g h ≡ true) × IsChain (h ∷ gs)

-- "families with no kind in common", each a chain; `flatten f` are the kinds of a family
abbrev pub AreFamilies : List (List (List ℕ)) → Type 0
AreFamilies [] = Unit {0}
AreFamilies (f ∷ fs) = IsChain f × (meets (flatten f) (flatten (flatten fs)) ≡ false) × AreFamilies fs

-- the groups form a layout: there are such families, and their groups are these
pub record Forms (gs : List (List ℕ)) : Type 0 where
  pub families : List (List (List ℕ))
  pub layout : AreFamilies families
  pub groups : SameGroups (flatten families) gs

-- ---- the same as a test on three groups

-- p holds of each group of the list
abbrev pub each_of : (List ℕ → Bool) → List (List ℕ) → Bool
each_of p [] = true
each_of p (g ∷ gs) = p g && each_of p gs

-- where b shares a kind with a and with c, one of a and c holds the other
abbrev pub is_layout : List (List ℕ) → Bool
is_layout gs = each_of (λ a. each_of (λ b. each_of (λ c. not (meets a b && meets b c) || nested a c) gs) gs) gs
