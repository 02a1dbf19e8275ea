-- A word that was read. Assumes nothing.
use Rattle.std.specs.Prelude.{◌≡◌, List, ℕ, ◌<◌, get_or}

pub record Word (w : List ℕ) (i r : ℕ) : Type 0 where
  pub is : r ≡ get_or w i 0
  pub small : r < 4294967296
