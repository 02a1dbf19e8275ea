-- A list of registered kinds, as the staged and the excluded kinds are. Assumes nothing.
use Rattle.std.specs.Prelude.{List, ℕ, ◌+◌, ◌≤◌}
use Rattle.model.specs.Numbers.{LIST_CAPACITY}
use Rattle.words.specs.Offsets.{STAGED_KINDS, TABLE}
use Rattle.words.specs.Part.{between}
use Rattle.layout_block.specs.Checks.{KindsOk}

-- 01, a sound store: "hand, bar, draft and layout of registered kinds": the words from a on are such a list, of 16 kinds at most
pub record ListOk (w : List ℕ) (a len : ℕ) : Type 0 where
  pub few : len ≤ LIST_CAPACITY
  pub listed : KindsOk (between TABLE STAGED_KINDS w) (between a (a + len) w)
