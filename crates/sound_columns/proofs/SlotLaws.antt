-- Where a slot's column stands among the words, and the entities of its rows. Assumes nothing.
use mathlib.Core.Path.{◌≡◌, sym, ap, ◌∙◌}
use mathlib.Core.List.{List}
use Prim.Native.Nat.{ℕ, ◌+◌, ◌*◌, ◌≤◌, ◌<◌}
use native.Mathlib.Omega.{arith}
use lib.ListN.{length, get_or, get_or-map}
use Rattle.model.specs.Model.{Row, no_row, entity, entity_of}
use Rattle.words.specs.Offsets.{ENTITIES, ROWS}
use Rattle.words.proofs.Offsets.{column_start_apart, column_start_mono, column_start_first}
use Rattle.words.specs.declared.Shape.{Shape}
use Rattle.words.specs.Shape.{column_start}
use Rattle.component.specs.SparseSet.{length_of, index_at, version_at}
use Rattle.component.proofs.Meaning.{length_rows, get_d_rows}
use Rattle.component.specs.Columns.{column_of, rows_of}
use Rattle.component.specs.Changes.{Lent}
use Rattle.component.proofs.Parts.{get_d_column}
use Rattle.sound_columns.specs.Slots.{Slot, Room, head_at}
use Rattle.sound_columns.specs.Rows.{entity_in, key_at}

-- ---- slots

module _ (z : Shape) (k : ℕ) (w : List ℕ) (R : Room z k w) where
  pub slot_of_law : (s : ℕ) → s < k → Slot z s w
  slot_of_law s h = record { shaped = R.shaped; few = omega (arith, R.few); size = omega (arith, column_start_apart z s k h, R.size) }

  pub room_long : ENTITIES ≤ length w
  room_long = omega (arith, R.size, column_start_first z, column_start_mono z 0 k (omega arith))

  pub room_less : (r : ℕ) → r ≤ k → Room z r w
  room_less r h = record { shaped = R.shaped; few = omega (arith, R.few); size = omega (arith, column_start_mono z r k h, R.size) }

pub slot_long : (z : Shape) (s : ℕ) (w : List ℕ) → Slot z s w → ENTITIES ≤ length w
slot_long z s w S = omega (arith, S.size, column_start_first z, column_start_mono z 0 s (omega arith))

-- ---- words of a column

pub head_read : (z : Shape) (s i b : ℕ) (w : List ℕ) → i < ROWS → b ≡ column_start z s → get_or w (b + i) 0 ≡ head_at z w s i
head_read z s i b w h e = ap (λ (x : ℕ). get_or w (x + i) 0) e ∙ sym (get_d_column z s i w (omega arith))

pub length_read : (z : Shape) (s b : ℕ) (w : List ℕ) → b ≡ column_start z s → get_or w b 0 ≡ length_of (column_of z s w)
length_read z s b w e = ap (λ (x : ℕ). get_or w x 0) (omega arith) ∙ head_read z s 0 b w (omega arith) e

-- the entity of row i, in the column and among all words
pub row_entity_law : (z : Shape) (s i : ℕ) (w : List ℕ) → i < z.capacity → entity (index_at (column_of z s w) i) (version_at (column_of z s w) i) ≡ entity_in w (column_start z s + ROWS + 2 * i)
row_entity_law z s i w h =
    let x : index_at (column_of z s w) i ≡ get_or w (column_start z s + ROWS + 2 * i) 0 = get_d_column z s (ROWS + 2 * i) w (omega arith) ∙ ap (λ (a : ℕ). get_or w a 0) (omega arith) in
    let v : version_at (column_of z s w) i ≡ get_or w (column_start z s + ROWS + 2 * i + 1) 0 = get_d_column z s (ROWS + 2 * i + 1) w (omega arith) ∙ ap (λ (a : ℕ). get_or w a 0) (omega arith) in
    λ j. record { index = x j; version = v j }

module _ (z : Shape) (s : ℕ) (w : List ℕ) (L : Lent z s w) where
  abbrev col : List ℕ
  col = column_of z s w

  pub rows_most : length (rows_of z s w) ≤ z.capacity
  rows_most = omega (arith, length_rows z col, L.sound.linked.room)

  pub key_word : (i : ℕ) → i < length (rows_of z s w) → key_at z w s i ≡ entity_in w (column_start z s + ROWS + 2 * i)
  key_word i h =
      let len = length_rows z col in
      let m = rows_most in
      get_or-map entity_of (rows_of z s w) i no_row ∙ ap (λ (r : Row). r.entity) (get_d_rows z col i (omega arith)) ∙ row_entity_law z s i w (omega arith)
