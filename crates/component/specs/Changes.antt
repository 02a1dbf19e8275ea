-- What a function on one slot asks of the words, and what a change of one column leaves. Working vocabulary. Assumes nothing.
use Rattle.std.specs.Prelude.{◌≡◌, ◌≢◌, Option, List, ℕ, ◌+◌, ◌≤◌, ◌<◌, length, get_or, take, drop}
use Rattle.model.specs.Numbers.{MAX_KINDS}
use Rattle.model.specs.Model.{Entity, SparseSet, remove_row}
use Rattle.words.specs.Offsets.{ROWS}
use Rattle.words.specs.declared.Shape.{Shape}
use Rattle.words.specs.Shape.{Shaped, column_len, column_start}
use Rattle.component.specs.SparseSet.{ColumnSound}
use Rattle.component.specs.Answers.{Gives}
use Rattle.values.specs.declared.Value.{Value}
use Rattle.component.specs.Columns.{column_of, rows_of, Columns}

-- what a function on one slot asks of the words: the slot's part is there, and is sound
pub record Lent (z : Shape) (s : ℕ) (w : List ℕ) : Type 0 where
  pub shaped : Shaped z
  pub few : s < MAX_KINDS
  pub size : column_start z s + column_len z ≤ length w
  pub sound : ColumnSound z (column_of z s w)

-- words 1 to 7 of slot s, which are the storage's, are as they were
abbrev pub HeadKept : Shape → ℕ → List ℕ → List ℕ → Type 0
HeadKept z s w w' = (i : ℕ) → 1 ≤ i → i < ROWS → get_or (column_of z s w') i 0 ≡ get_or (column_of z s w) i 0

-- slot s's rows have become f of what they were, and nothing else has changed: not its words 1 to 7, not the other slots, not the words
-- before the columns (header and entities), not the words past them
pub record One (z : Shape) (m s : ℕ) (f : SparseSet → SparseSet) (w w' : List ℕ) : Type 0 where
  pub columns : Columns z m w'
  pub size : length w' ≡ length w
  pub becomes : rows_of z s w' ≡ f (rows_of z s w)
  pub head : HeadKept z s w w'
  pub others : (j : ℕ) → j < m → j ≢ s → column_of z j w' ≡ column_of z j w
  pub front : take (column_start z 0) w' ≡ take (column_start z 0) w
  pub past : drop (column_start z m) w' ≡ drop (column_start z m) w

-- the same, for any number of slots that has s among them
abbrev pub Only : Shape → ℕ → (SparseSet → SparseSet) → List ℕ → List ℕ → Type 0
Only z s f w w' = (m : ℕ) → s < m → Columns z m w → One z m s f w w'

-- a removal in slot s, and its answer
pub record RemovesIn (z : Shape) (s : ℕ) (e : Entity) (w w' : List ℕ) (r : Option Value) : Type 0 where
  pub change : Only z s (remove_row e) w w'
  pub answer : Gives z.stride e (rows_of z s w) r

-- every slot's rows have become g of what they were, slot by slot, and nothing else has changed
pub record Changes (z : Shape) (m : ℕ) (g : ℕ → SparseSet → SparseSet) (w w' : List ℕ) : Type 0 where
  pub columns : Columns z m w'
  pub size : length w' ≡ length w
  pub becomes : (s : ℕ) → s < m → rows_of z s w' ≡ g s (rows_of z s w)
  pub heads : (s : ℕ) → s < m → HeadKept z s w w'
  pub front : take (column_start z 0) w' ≡ take (column_start z 0) w
  pub past : drop (column_start z m) w' ≡ drop (column_start z m) w
