-- Where a kind's rows stand among the words, and the part of the words that they are. Assumes nothing.
use Rattle.std.specs.Prelude.{◌≡◌, Bool, true, false, List, ℕ, ◌+◌, ◌*◌, ◌≤◌, length, take, drop}
use Rattle.std.specs.Borrow.{Bor}
use Rattle.model.specs.Entries.{column}
use Rattle.words.specs.Shape.{column_start, shape_of, entity_place, value_place}
use Rattle.memory.specs.Header.{slot_of}
use Rattle.memory.specs.Meaning.{meaning}

-- where row a's words stand among all words (docs/WORDS.md): "cards (index word, version word) or values
-- (low word, high word)"; 02, No. 13: "value columns (four words)"
abbrev pub row_place : Bool → List ℕ → ℕ → ℕ → ℕ
row_place false w k a = column_start (shape_of w) (slot_of w k) + entity_place a
row_place true w k a = column_start (shape_of w) (slot_of w k) + value_place (shape_of w) a

-- the code's place of that row; the words of all rows more stay a small number
pub record RowStart (values : Bool) (w : List ℕ) (k a r : ℕ) : Type 0 where
  pub is : r ≡ row_place values w k a
  pub small : r ≤ 4340000

-- r is a part of the words v, `size` words from place `at` on: it lies in v's memory, at four bytes a word from v's start, and is the words there
pub record PartOf (v r : Bor (List ℕ)) (at size : ℕ) : Type 0 where
  pub block : r.ref_ptr.0 ≡ v.ref_ptr.0
  pub offset : r.ref_ptr.1 ≡ at * 4 + v.ref_ptr.1
  pub inside : at + size ≤ length v.now
  pub words : r.now ≡ take size (drop at v.now)

-- "the part of the lent store holding a kind's cards .. or values .. from start to end", where column accepts them
pub record RowsPart (v r : Bor (List ℕ)) (values : Bool) (k a e : ℕ) : Type 0 where
  pub words : r.now ≡ column values k a e (meaning v.now)
  pub part : PartOf v r (row_place values v.now k a) (length r.now)
