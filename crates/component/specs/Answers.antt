-- What a search and a removal answer, for each case of what they hand back. Assumes nothing.
use Rattle.std.specs.Prelude.{◌≡◌, true, false, Option, Some, None, List, ℕ, ◌<◌, length, get_or}
use Rattle.model.specs.Model.{Entity, SparseSet, no_row, at, held, remove_row}
use Rattle.words.specs.declared.Found.{Found}
use Rattle.words.specs.declared.Found.TheVariants as found
use Rattle.words.specs.declared.Shape.{Shape}
use Rattle.values.specs.declared.Value.{Value}
use Rattle.values.specs.Values.{value_of}
use Rattle.component.specs.SparseSet.{rows}
use Rattle.component.specs.Stored.{RowsChanged}

-- the entity is held, at p
pub record HeldAt (z : Shape) (e : Entity) (rs : SparseSet) (p : ℕ) : Type 0 where
  pub holds : held e rs ≡ true
  pub place : p ≡ at e rs
  pub inside : p < length rs
  pub below : p < z.capacity

-- 01: "A lookup finds a card only with equal version"
abbrev pub Finds : Shape → Entity → SparseSet → Found → Type 0
Finds z e rs (found.At p) = HeldAt z e rs p
Finds z e rs found.Nothing = held e rs ≡ false

-- the entity was held with this value, of d words
pub record Gave (d : ℕ) (e : Entity) (rs : SparseSet) (x : Value) : Type 0 where
  pub holds : held e rs ≡ true
  pub value : value_of d x ≡ (get_or rs (at e rs) no_row).value

-- 01, TAKE: "1 byte held, value 8 (zeros if not held)"
abbrev pub Gives : ℕ → Entity → SparseSet → Option Value → Type 0
Gives d e rs (Some x) = Gave d e rs x
Gives d e rs None = held e rs ≡ false

-- 01: "Removal puts the last row in the gap"
pub record Removes (z : Shape) (e : Entity) (w w' : List ℕ) (r : Option Value) : Type 0 where
  pub change : RowsChanged z (remove_row e) w w'
  pub answer : Gives z.stride e (rows z w) r
