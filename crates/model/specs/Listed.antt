-- The list of a layout's groups in one order, that of 02's No. 11: it says which groups there are and nothing else. By going through the kinds, never by
-- sorting. Assumes nothing.
use Rattle.std.specs.Prelude.{Bool, cond, ◌&&◌, List, [], ◌∷◌, ◌++◌, map, ℕ, zero, suc, leb}
use Rattle.model.specs.Numbers.{MAX_KINDS}
use Rattle.model.specs.Model.{Family, mem, all_of, kinds_of}
use Rattle.model.specs.Forms.{all_groups}

-- of the n kinds from k on, those in the list ks
abbrev pub rising_from : List ℕ → ℕ → ℕ → List ℕ
rising_from ks zero k = []
rising_from ks (suc n) k = let r = rising_from ks n (suc k) in cond (mem k ks) (k ∷ r) r

-- 01, roll: "each part by rising kind"; 02, No. 11: "its kinds, rising"
unfoldable pub rising_kinds : List ℕ → List ℕ
rising_kinds ks = rising_from ks MAX_KINDS 0

-- k is the family's smallest kind
abbrev pub starts_at : ℕ → Family → Bool
starts_at k f = mem k (kinds_of f) && all_of (leb k) (kinds_of f)

-- the families of which that is so
abbrev pub starting_at : ℕ → List Family → List Family
starting_at k [] = []
starting_at k (f ∷ fs) = let r = starting_at k fs in cond (starts_at k f) (f ∷ r) r

-- 02, No. 11: "Families stand by their smallest kind": those whose smallest is one of the n kinds from k on
abbrev pub ordered_from : List Family → ℕ → ℕ → List Family
ordered_from fs zero k = []
ordered_from fs (suc n) k = starting_at k fs ++ ordered_from fs n (suc k)

-- the layout with its families in that order
unfoldable pub ordered : List Family → List Family
ordered fs = ordered_from fs MAX_KINDS 0

-- "Families stand by their smallest kind, groups in a family by size", each group by its kinds, rising
unfoldable pub listed : List Family → List (List ℕ)
listed fs = map rising_kinds (all_groups (ordered fs))
