-- Computed: 02, No. 3's limits from both sides. Sixteen kinds are a group, seventeen are not; a sixty-fourth group is added, a sixty-fifth is not. Assumes
-- nothing.
use mathlib.Core.Path.{◌≡◌, refl}
use mathlib.Core.List.{List, [], ◌∷◌}
use Prim.Native.Nat.{ℕ, zero, suc}
use Rattle.model.specs.Numbers.{CLASH, MANY, MAX_GROUP_ARITY, MAX_GROUP_COUNT, WIDE}
use Rattle.model.specs.Model.{Family, new_group, groups_of}
use Rattle.model.specs.Adding.{nothing, added, refused, add_group}

-- n kinds from k on
abbrev kinds_from : ℕ → ℕ → List ℕ
kinds_from k zero = []
kinds_from k (suc n) = k ∷ kinds_from (suc k) n

-- n pairs of kinds from k on, each a family
abbrev pairs_from : ℕ → ℕ → List Family
pairs_from k zero = []
pairs_from k (suc n) = (new_group (k ∷ suc k ∷ []) ∷ []) ∷ pairs_from (suc (suc k)) n

pub example_sixteen_kinds : add_group (kinds_from 0 MAX_GROUP_ARITY) [] ≡ added ((new_group (kinds_from 0 16) ∷ []) ∷ [])
unfolding add_group
example_sixteen_kinds = refl

-- by the line of the table; no hand is such (`wide_never`)
pub example_seventeen_kinds : add_group (kinds_from 0 17) [] ≡ refused WIDE
unfolding add_group
example_seventeen_kinds = refl

-- the last pair of all 128 kinds
pub example_sixty_fourth : add_group (126 ∷ 127 ∷ []) (pairs_from 0 63) ≡ added (pairs_from 0 MAX_GROUP_COUNT)
unfolding add_group
example_sixty_fourth = refl

-- 64 groups: {0,1} and {0,1,2,3}, and 62 pairs

abbrev full : List Family
full = (new_group (0 ∷ 1 ∷ []) ∷ new_group (2 ∷ 3 ∷ []) ∷ []) ∷ pairs_from 4 62

example_full : groups_of full ≡ MAX_GROUP_COUNT
example_full = refl

-- between the two there is no room any more
pub example_sixty_fifth : add_group (0 ∷ 1 ∷ 2 ∷ []) full ≡ refused MANY
unfolding add_group
example_sixty_fifth = refl

-- small and equal hands add nothing there too, and one that clashes clashes

pub example_small : add_group (0 ∷ []) full ≡ nothing
unfolding add_group
example_small = refl

pub example_equal : add_group (127 ∷ 126 ∷ []) full ≡ nothing
unfolding add_group
example_equal = refl

pub example_clash : add_group (3 ∷ 4 ∷ []) full ≡ refused CLASH
unfolding add_group
example_clash = refl
