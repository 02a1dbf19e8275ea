-- A component sparse set (01: a column) over its part of the lent words: what the words mean, when they are sound.
-- The part (docs/WORDS.md) has how many rows there are, then words that are the storage's (the rest of the head); then, at two words each, the
-- rows' entities (index, version) and the lookups by index (place, version; version 0 where the index is not held); then the rows' values.
-- Assumes nothing.
use Rattle.std.specs.Prelude.{◌≡◌, List, ℕ, ◌+◌, length, get_or}
use Rattle.words.specs.Offsets.{ROWS_LEN}
use Rattle.words.specs.declared.Shape.{Shape}
use Rattle.words.specs.Shape.{Shaped, entity_place, lookup_place, column_len}
use Rattle.words.specs.Table.{table}
use Rattle.words.specs.Links.{Linked}
use Rattle.values.specs.Values.{value_at}
use Rattle.model.specs.Model.{Row, SparseSet, entity}

-- ---- the words of a part

abbrev pub length_of : List ℕ → ℕ
length_of w = get_or w ROWS_LEN 0

-- row i
abbrev pub index_at : List ℕ → ℕ → ℕ
index_at w i = get_or w (entity_place i) 0

abbrev pub version_at : List ℕ → ℕ → ℕ
version_at w i = get_or w (entity_place i + 1) 0

-- index x's lookup
abbrev pub place_of : Shape → List ℕ → ℕ → ℕ
place_of z w x = get_or w (lookup_place z x) 0

abbrev pub held_of : Shape → List ℕ → ℕ → ℕ
held_of z w x = get_or w (lookup_place z x + 1) 0

-- ---- what they mean

abbrev pub row : ℕ → ℕ → ℕ → Row
row x v a = record { entity = entity x v; value = a }

abbrev pub row_at : Shape → List ℕ → ℕ → Row
row_at z w i = row (index_at w i) (version_at w i) (value_at z w i)

-- 01: "A column is a kind's dense list of cards with their values"
unfoldable pub rows : Shape → List ℕ → SparseSet
rows z w = table (length_of w) (row_at z w)

-- ---- soundness

-- 01, a sound store: "each column with its own lookups" agrees
pub record ColumnSound (z : Shape) (w : List ℕ) : Type 0 where
  pub size : length w ≡ column_len z
  pub shaped : Shaped z
  pub linked : Linked z.capacity (length_of w) (index_at w) (version_at w) (place_of z w) (held_of z w)
