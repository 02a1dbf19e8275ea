-- What the private steps of a change store, and what they do to the rows. Assumes nothing.
use Rattle.std.specs.Prelude.{◌≡◌, ◌≢◌, List, [], ◌∷◌, ℕ, ◌+◌, ◌*◌, ◌-◌, ◌<◌, ◌≤◌, length, get_or, set, take}
use Rattle.model.specs.Lists.{swap}
use Rattle.model.specs.Model.{SparseSet, no_row}
use Rattle.words.specs.Offsets.{ROWS, ROWS_LEN}
use Rattle.words.specs.declared.Shape.{Shape}
use Rattle.words.specs.Shape.{Shaped, entity_place, lookup_place, column_len}
use Rattle.values.specs.Values.{value_at}
use Rattle.words.specs.declared.Entity.{Entity}
use Rattle.component.specs.SparseSet.{index_at, version_at, rows, ColumnSound}

-- the entity of row i
abbrev pub row_entity : List ℕ → ℕ → Entity
row_entity w i = record { index = index_at w i; version = version_at w i }

-- an entity put at row i, a lookup of x, and its place alone
abbrev pub entity_stores : ℕ → ℕ → ℕ → List (ℕ × ℕ)
entity_stores i x v = (entity_place i, x) ∷ (entity_place i + 1, v) ∷ []

abbrev pub lookup_stores : Shape → ℕ → ℕ → ℕ → List (ℕ × ℕ)
lookup_stores z x p v = (lookup_place z x, p) ∷ (lookup_place z x + 1, v) ∷ []

abbrev pub place_stores : Shape → ℕ → ℕ → List (ℕ × ℕ)
place_stores z x p = (lookup_place z x, p) ∷ []

-- index x not held, and k rows left
abbrev pub clear_stores : Shape → ℕ → ℕ → List (ℕ × ℕ)
clear_stores z x k = (lookup_place z x + 1, 0) ∷ (ROWS_LEN, k) ∷ []

-- no row has the index x
abbrev pub Absent : ℕ → SparseSet → Type 0
Absent x rs = (i : ℕ) → i < length rs → (get_or rs i no_row).entity.index ≡ x → ⊥

-- another value in row p
abbrev pub valued : ℕ → ℕ → SparseSet → SparseSet
valued p v rs = set rs p (record { entity = (get_or rs p no_row).entity; value = v })

-- the last row gone
abbrev pub popped : SparseSet → SparseSet
popped rs = take (length rs - 1) rs

-- the words of a part of shape z, whatever they hold
pub record ColumnSized (z : Shape) (w : List ℕ) : Type 0 where
  pub size : length w ≡ column_len z
  pub shaped : Shaped z

-- the words before the values are as they were
pub record FrontKept (z : Shape) (w w' : List ℕ) : Type 0 where
  pub size : length w' ≡ length w
  pub same : (j : ℕ) → j < ROWS + 4 * z.capacity → get_or w' j 0 ≡ get_or w j 0

-- the value of row i is v, and no other word has changed
pub record PutsValue (z : Shape) (i v : ℕ) (w w' : List ℕ) : Type 0 where
  pub front : FrontKept z w w'
  pub here : value_at z w' i ≡ v
  pub others : (j : ℕ) → j < z.capacity → j ≢ i → value_at z w' j ≡ value_at z w j

-- the values of rows a and b are exchanged, and no other word has changed
pub record SwapsValues (z : Shape) (a b : ℕ) (w w' : List ℕ) : Type 0 where
  pub front : FrontKept z w w'
  pub first : value_at z w' a ≡ value_at z w b
  pub second : value_at z w' b ≡ value_at z w a
  pub others : (j : ℕ) → j < z.capacity → j ≢ a → j ≢ b → value_at z w' j ≡ value_at z w j

-- a sound part whose rows have become f of what they were; words 1 to 7 are as they were
pub record RowsChanged (z : Shape) (f : SparseSet → SparseSet) (w w' : List ℕ) : Type 0 where
  pub sound : ColumnSound z w'
  pub size : length w' ≡ length w
  pub becomes : rows z w' ≡ f (rows z w)
  pub kept : (i : ℕ) → 1 ≤ i → i < ROWS → get_or w' i 0 ≡ get_or w i 0

-- the model's swap, on rows
abbrev pub swap_rows : ℕ → ℕ → SparseSet → SparseSet
swap_rows a b rs = swap no_row a b rs

-- a row of the index x has the version v: no two versions of an index live at once
abbrev pub Current : ℕ → ℕ → SparseSet → Type 0
Current x v rs = (i : ℕ) → i < length rs → (get_or rs i no_row).entity.index ≡ x → (get_or rs i no_row).entity.version ≡ v
