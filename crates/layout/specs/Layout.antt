-- What a layout's arrays mean, and when they are well formed. The struct and a block of words share these definitions. Assumes nothing.
use Rattle.std.specs.Prelude.{◌≡◌, List, [], ◌∷◌, ℕ, zero, suc, ◌+◌, ◌-◌, ◌≤◌, ◌<◌, eqb, get_or, take}
use Rattle.model.specs.Numbers.{MAX_GROUP_ARITY, MAX_GROUP_COUNT, MAX_KINDS}
use Rattle.words.specs.Offsets.{ARITIES, BLOCK_LEN, ENDS, KIND_ENDS}
use Rattle.model.specs.Lists.{count_of}
use Rattle.model.specs.Model.{Family}
use Rattle.words.specs.Part.{between}
use Rattle.words.specs.Table.{table}

-- the families one after another: their kinds in order, their groups' arities, and where each family's kinds and groups end
pub record Arrays : Type 0 where
  pub kinds : List ℕ
  pub arities : List ℕ
  pub kind_ends : List ℕ
  pub ends : List ℕ
  pub families : ℕ

abbrev pub arrays_in : List ℕ → List ℕ → List ℕ → List ℕ → ℕ → Arrays
arrays_in ks ars kes ges n = record { kinds = ks; arities = ars; kind_ends = kes; ends = ges; families = n }

-- a block of 320 words
abbrev pub block_arrays : List ℕ → ℕ → Arrays
block_arrays w n = arrays_in (between 0 ARITIES w) (between ARITIES KIND_ENDS w) (between KIND_ENDS ENDS w) (between ENDS BLOCK_LEN w) n

-- ---- the meaning

-- where number f starts: where the one before ends
abbrev pub start_of : List ℕ → ℕ → ℕ
start_of es zero = 0
start_of es (suc f) = get_or es f 0

-- how many kinds and groups there are
abbrev pub width_of : Arrays → ℕ
width_of a = start_of a.kind_ends a.families

abbrev pub group_count : Arrays → ℕ
group_count a = start_of a.ends a.families

abbrev pub kinds_at : Arrays → ℕ → List ℕ
kinds_at a f = between (start_of a.kind_ends f) (get_or a.kind_ends f 0) a.kinds

abbrev pub arities_at : Arrays → ℕ → List ℕ
arities_at a f = between (start_of a.ends f) (get_or a.ends f 0) a.arities

-- the groups of a family with kinds ks: each is the first so many of them, so its new kinds (01: its ring) are those past the arity b before;
-- the counts are those from number g on, 0 past the list's end
unfoldable pub groups_from : List ℕ → ℕ → List ℕ → ℕ → List ℕ → Family
groups_from counts g ks b [] = []
groups_from counts g ks b (a ∷ rest) = record { new_kinds = between b a ks; count = get_or counts g 0 } ∷ groups_from counts (suc g) ks a rest

abbrev pub family_at : List ℕ → Arrays → ℕ → Family
family_at counts a f = groups_from counts (start_of a.ends f) (kinds_at a f) 0 (arities_at a f)

-- the families that the arrays list, with these counts; a draft has none
abbrev pub families_of : List ℕ → Arrays → List Family
families_of counts a = table a.families (family_at counts a)

-- ---- well formed: such as commands can build (01, "sound")

-- kinds, once each, all below 128
pub record KindSet (l : List ℕ) : Type 0 where
  pub once : (k : ℕ) → count_of eqb k l ≤ 1
  pub known : (k : ℕ) → MAX_KINDS ≤ k → count_of eqb k l ≡ 0

-- the arities rise strictly, from above b to n
unfoldable pub AritiesRising : ℕ → ℕ → List ℕ → Type 0
AritiesRising b n [] = b ≡ n
AritiesRising b n (a ∷ rest) = (b < a) × AritiesRising a n rest

-- 2 to 16 kinds; the first group has 2 or more, the last has all
pub record FamilyFormed (a : Arrays) (f : ℕ) : Type 0 where
  pub least : start_of a.kind_ends f + 2 ≤ get_or a.kind_ends f 0
  pub most : get_or a.kind_ends f 0 ≤ start_of a.kind_ends f + MAX_GROUP_ARITY
  pub some : start_of a.ends f < get_or a.ends f 0
  pub rising : AritiesRising 1 (get_or a.kind_ends f 0 - start_of a.kind_ends f) (arities_at a f)

pub record WellFormed (a : Arrays) : Type 0 where
  pub few : a.families ≤ MAX_GROUP_COUNT
  pub wide : width_of a ≤ MAX_KINDS
  pub many : group_count a ≤ MAX_GROUP_COUNT
  pub kinds : KindSet (take (width_of a) a.kinds)
  pub family : (f : ℕ) → f < a.families → FamilyFormed a f
