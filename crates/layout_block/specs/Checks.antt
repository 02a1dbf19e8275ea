-- What the check of a block decides. Assumes nothing.
use Rattle.std.specs.Prelude.{◌≡◌, ◌≢◌, List, ℕ, ◌+◌, ◌-◌, ◌≤◌, ◌<◌, eqb, length, get_or, take}
use Rattle.model.specs.Numbers.{MAX_GROUP_ARITY, MAX_GROUP_COUNT, MAX_KINDS}
use Rattle.words.specs.Offsets.{GROUP_PLACES, UNREGISTERED}
use Rattle.model.specs.Lists.{count_of}
use Rattle.words.specs.Part.{between}
use Rattle.layout.specs.Layout.{Arrays, width_of, group_count, block_arrays, KindSet, AritiesRising, FamilyFormed}
use Rattle.layout_block.specs.Blocks.{BlockFormed}

-- each kind of the list is registered: its word in the table of kinds is not 255
abbrev pub AllRegistered : List ℕ → List ℕ → Type 0
AllRegistered table ks = (k : ℕ) → 1 ≤ count_of eqb k ks → get_or table k 0 ≢ UNREGISTERED

-- "draft and layout of registered kinds, such as commands can build" (01, "sound")
pub record BlockSound (w table : List ℕ) (n g : ℕ) : Type 0 where
  pub formed : BlockFormed w n g
  pub registered : AllRegistered table (take (width_of (block_arrays w n)) (block_arrays w n).kinds)

-- ---- its parts

-- 01, "sound": "hand, bar, draft and layout of registered kinds"; no kind stands there twice
pub record KindsOk (table ks : List ℕ) : Type 0 where
  pub once : KindSet ks
  pub registered : AllRegistered table ks

-- a family from kind k to ke and group g to ge, inside the arrays
pub record FamilyInside (ars : List ℕ) (k ke g ge : ℕ) : Type 0 where
  pub least : k + 2 ≤ ke
  pub most : ke ≤ k + MAX_GROUP_ARITY
  pub wide : ke ≤ MAX_KINDS
  pub some : g < ge
  pub many : ge ≤ MAX_GROUP_COUNT
  pub rising : AritiesRising 1 (ke - k) (between g ge ars)

pub record FamiliesFormed (a : Arrays) : Type 0 where
  pub wide : width_of a ≤ MAX_KINDS
  pub many : group_count a ≤ MAX_GROUP_COUNT
  pub family : (f : ℕ) → f < a.families → FamilyFormed a f

pub record EndsAsk (ars kes ges : List ℕ) (n : ℕ) : Type 0 where
  pub arities : length ars ≡ GROUP_PLACES
  pub kind_ends : length kes ≡ GROUP_PLACES
  pub ends : length ges ≡ GROUP_PLACES
  pub few : n ≤ MAX_GROUP_COUNT
