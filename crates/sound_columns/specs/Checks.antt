-- A column's part of the words, by itself, and the entity part e. Assumes nothing.
use Rattle.std.specs.Prelude.{◌≡◌, true, List, ℕ}
use Rattle.model.specs.Model.{entity, is_live}
use Rattle.words.specs.Decides.{Each}
use Rattle.words.specs.Links.{Tied}
use Rattle.words.specs.declared.Shape.{Shape}
use Rattle.component.specs.SparseSet.{ColumnSound, length_of, index_at, version_at, place_of, held_of}
use Rattle.entity.specs.Meaning.{entities_of}

-- row i and its index's lookup agree
abbrev pub RowTied : Shape → List ℕ → ℕ → Type 0
RowTied z w i = Tied z.capacity (index_at w) (version_at w) (place_of z w) (held_of z w) i

-- and its entity is live
pub record RowOk (z : Shape) (e w : List ℕ) (i : ℕ) : Type 0 where
  pub tied : RowTied z w i
  pub live : is_live (entity (index_at w i) (version_at w i)) (entities_of z.capacity e) ≡ true

-- a sound sparse set whose entities are live
pub record LiveSet (z : Shape) (e w : List ℕ) : Type 0 where
  pub sound : ColumnSound z w
  pub rows : Each (length_of w) (RowOk z e w)
