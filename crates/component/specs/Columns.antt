-- The sparse sets of a store, one in each slot, where they lie in the lent words; what a change of one leaves, and a change of several.
-- Assumes nothing.
use Rattle.std.specs.Prelude.{◌≡◌, List, ℕ, ◌+◌, ◌≤◌, ◌<◌, length}
use Rattle.model.specs.Numbers.{MAX_KINDS}
use Rattle.model.specs.Model.{SparseSet}
use Rattle.words.specs.Part.{between}
use Rattle.words.specs.declared.Shape.{Shape}
use Rattle.words.specs.Shape.{Shaped, column_len, column_start}
use Rattle.component.specs.SparseSet.{rows, ColumnSound}

-- the part of slot s in a store whose columns have shape z
unfoldable pub column_of : Shape → ℕ → List ℕ → List ℕ
column_of z s w = between (column_start z s) (column_start z s + column_len z) w

-- where that part starts and ends
pub record SlotBounds (z : Shape) (s : ℕ) (r : ℕ × ℕ) : Type 0 where
  pub starts : r.0 ≡ column_start z s
  pub ends : r.1 ≡ column_start z s + column_len z

-- its rows
abbrev pub rows_of : Shape → ℕ → List ℕ → SparseSet
rows_of z s w = rows z (column_of z s w)

-- the words hold m sound sparse sets
pub record Columns (z : Shape) (m : ℕ) (w : List ℕ) : Type 0 where
  pub shaped : Shaped z
  pub few : m ≤ MAX_KINDS
  pub size : column_start z m ≤ length w
  pub columns : (s : ℕ) → s < m → ColumnSound z (column_of z s w)
