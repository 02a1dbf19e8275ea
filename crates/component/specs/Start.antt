-- A column by where it starts, whatever its slot. Assumes nothing.
use Rattle.std.specs.Prelude.{◌≡◌, true, List, ℕ, ◌<◌, length}
use Rattle.model.specs.Model.{Entity, held}
use Rattle.words.specs.declared.Shape.{Shape}
use Rattle.words.specs.Shape.{column_start}
use Rattle.component.specs.Columns.{rows_of}
use Rattle.component.specs.Changes.{Lent}

-- a slot's part starts at base; it is there, and is sound
pub record LentFrom (z : Shape) (base : ℕ) (w : List ℕ) : Type 0 where
  pub slot : ℕ
  pub starts : base ≡ column_start z slot
  pub lent : Lent z slot w

-- its rows have the entity, and a row at place
pub record SwapsFrom (z : Shape) (base : ℕ) (e : Entity) (place : ℕ) (w : List ℕ) : Type 0 where
  pub from : LentFrom z base w
  pub holds : held e (rows_of z from.slot w) ≡ true
  pub room : place < length (rows_of z from.slot w)
