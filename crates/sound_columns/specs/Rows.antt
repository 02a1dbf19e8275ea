-- The columns: each with its own lookups, of live entities only. Assumes nothing.
use Rattle.std.specs.Prelude.{◌≡◌, true, List, ℕ, ◌+◌, ◌*◌, ◌≤◌, get_or}
use Rattle.model.specs.Model.{Entity, no_entity, keys, is_live, entity}
use Rattle.words.specs.Offsets.{ROWS}
use Rattle.component.specs.SparseSet.{ColumnSound, length_of}
use Rattle.words.specs.Decides.{Each}
use Rattle.words.specs.Shape.{column_start}
use Rattle.words.specs.declared.Shape.{Shape}
use Rattle.component.specs.Columns.{column_of, rows_of}
use Rattle.entity.specs.Meaning.{entities_in}

-- the entity whose index is the word at a
abbrev pub entity_in : List ℕ → ℕ → Entity
entity_in w a = entity (get_or w a 0) (get_or w (a + 1) 0)

-- the entity in row i of slot s
abbrev pub key_at : Shape → List ℕ → ℕ → ℕ → Entity
key_at z w s i = get_or (keys (rows_of z s w)) i no_entity

-- the entity of row i is live; the rows' entities start at word a
abbrev pub RowLive : ℕ → List ℕ → ℕ → ℕ → Type 0
RowLive n w a i = is_live (entity_in w (a + 2 * i)) (entities_in n w) ≡ true

-- 01, a sound store: "each column with its own lookups", "columns holding live cards only"; a slot that no kind has is empty
pub record ColumnOk (z : Shape) (reg : ℕ) (w : List ℕ) (s : ℕ) : Type 0 where
  pub sound : ColumnSound z (column_of z s w)
  pub vacant : reg ≤ s → length_of (column_of z s w) ≡ 0
  pub alive : Each (length_of (column_of z s w)) (RowLive z.capacity w (column_start z s + ROWS))
