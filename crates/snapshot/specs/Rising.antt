-- The registered kinds in the order of a snapshot, and how many rows all sparse sets have. Assumes nothing.
use Rattle.std.specs.Prelude.{◌≡◌, List, [], ◌∷◌, ℕ, ◌+◌, ◌≤◌, length}
use Rattle.model.specs.Model.{SparseSet}

-- the rows of all sparse sets together
abbrev pub rows_in : List SparseSet → ℕ
rows_in [] = 0
rows_in (c ∷ cs) = length c + rows_in cs

-- a number is right, and small enough to go on counting with
pub record Counted (r n most : ℕ) : Type 0 where
  pub is : r ≡ n
  pub few : r ≤ most
