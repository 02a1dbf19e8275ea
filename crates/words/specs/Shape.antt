-- What a column is made for, and where things stand in it (docs/WORDS.md). Only the values depend on how many words a value has, and they stand at the
-- column's end. Assumes nothing.
use Rattle.std.specs.Prelude.{◌≡◌, ◌≢◌, List, ℕ, ◌+◌, ◌*◌, ◌≤◌, ◌<◌, get_or}
use Rattle.model.specs.Numbers.{ENTITY_LEN, HEADER_LEN, LINKS_LEN, MAX_ENTITIES, stride_of}
use Rattle.words.specs.declared.Shape.{Shape}
use Rattle.words.specs.declared.Width.{Width}
use Rattle.words.specs.declared.Width.TheVariants.{Short, Long}
use Rattle.words.specs.Offsets.{CAPACITY, ROWS, VALUE_WIDTH}

-- a value has two words or four. A record and not a sum, so that omega reads it
pub record TwoOrFour (d : ℕ) : Type 0 where
  pub least : 2 ≤ d
  pub most : d ≤ 4
  pub even : d ≢ 3

-- and so has a value of each width
abbrev pub words_in : Width → ℕ
words_in Short = 2
words_in Long = 4

-- what columns may be made for
pub record Shaped (z : Shape) : Type 0 where
  pub small : z.capacity ≤ MAX_ENTITIES
  pub words : TwoOrFour z.stride

-- of n entities and values of v bytes
abbrev pub shape : ℕ → ℕ → Shape
shape n v = record { capacity = n; stride = stride_of v }

-- that of a store, by its words
abbrev pub shape_of : List ℕ → Shape
shape_of w = shape (get_or w CAPACITY 0) (get_or w VALUE_WIDTH 0)

-- ---- in a column: its head, then two words for each row's entity, then two for each index's lookup, then the values

abbrev pub entity_place : ℕ → ℕ
entity_place i = ROWS + 2 * i

abbrev pub lookup_place : Shape → ℕ → ℕ
lookup_place z x = ROWS + 2 * z.capacity + 2 * x

-- the words of i values at d words each: a product of two variables, shut, with its laws in proofs/Offsets
unfoldable pub values_len : ℕ → ℕ → ℕ
values_len d i = d * i

abbrev pub value_place : Shape → ℕ → ℕ
value_place z i = ROWS + LINKS_LEN * z.capacity + values_len z.stride i

abbrev pub column_len : Shape → ℕ
column_len z = value_place z z.capacity

-- ---- among all words: the columns follow the header and the entity part, one for each slot

unfoldable pub column_start : Shape → ℕ → ℕ
column_start z s = HEADER_LEN + ENTITY_LEN * z.capacity + s * column_len z

-- ---- what the code finds

-- the shape of a store's columns
pub record Shapes (w : List ℕ) (z : Shape) : Type 0 where
  pub is : z ≡ shape_of w
  pub small : z.capacity < 4294967296
  pub narrow : z.stride < 4294967296

-- a place in a column: the next few words' places are small numbers too
pub record InColumn (place r : ℕ) : Type 0 where
  pub is : r ≡ place
  pub small : r ≤ 40000

-- a place among all words
pub record InWords (place r : ℕ) : Type 0 where
  pub is : r ≡ place
  pub small : r ≤ 4300000
