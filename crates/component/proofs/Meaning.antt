-- What a part's words mean: its rows one by one, an empty part, and rows that are apart. Assumes nothing.
use mathlib.Core.Path.{◌≡◌, ap, ◌∙◌}
use mathlib.Core.Logic.{◌≢◌}
use mathlib.Core.List.{List, []}
use Prim.Native.Nat.{ℕ, ◌+◌, ◌*◌, ◌≤◌, ◌<◌}
use native.Mathlib.Omega.{arith}
use native.Mathlib.Decide.{ℕ_discrete}
use lib.ListN.{length, get_or}
use Rattle.model.specs.Model.{Row, no_row}
use Rattle.words.specs.declared.Shape.{Shape}
use Rattle.words.specs.Offsets.{ROWS}
use Rattle.words.specs.Table.{table}
use Rattle.values.specs.Values.{value_at}
use Rattle.values.proofs.Places.{value_same}
use Rattle.words.proofs.Tables.{length_table, get_d_table, table_same}
use Rattle.words.proofs.Links.{apart, linked_same}
use Rattle.words.proofs.Pigeon.{pigeon_free}
use Rattle.component.specs.SparseSet.{length_of, index_at, version_at, place_of, held_of, row, row_at, rows, ColumnSound}
use Rattle.component.specs.Stored.{ColumnSized, FrontKept, Absent}

pub length_rows : (z : Shape) (w : List ℕ) → length (rows z w) ≡ length_of w
unfolding rows
length_rows z w = length_table (length_of w) (row_at z w)

pub get_d_rows : (z : Shape) (w : List ℕ) (i : ℕ) → i < length_of w → get_or (rows z w) i no_row ≡ row_at z w i
unfolding rows
get_d_rows z w i h = get_d_table (length_of w) (row_at z w) i no_row h

pub index_rows : (z : Shape) (w : List ℕ) (i : ℕ) → i < length_of w → (get_or (rows z w) i no_row).entity.index ≡ index_at w i
index_rows z w i h = ap (λ (r : Row). r.entity.index) (get_d_rows z w i h)

-- the row of an index, a version and a value
pub row_is : (z : Shape) (w : List ℕ) (i x v a : ℕ) → index_at w i ≡ x → version_at w i ≡ v → value_at z w i ≡ a → row_at z w i ≡ row x v a
row_is z w i x v a ex ev ea = λ k. row (ex k) (ev k) (ea k)

pub sized : (z : Shape) (w : List ℕ) → ColumnSound z w → ColumnSized z w
sized z w s = record { size = s.size; shaped = s.shaped }

-- ---- an empty part: no rows, and no index held; what words 1 to 7 hold, and rows and places past the end, does not matter

pub empty_rows : (z : Shape) (w : List ℕ) → length_of w ≡ 0 → rows z w ≡ []
unfolding rows table
empty_rows z w e = rw e

pub fresh_sound : (z : Shape) (w : List ℕ) → ColumnSized z w → length_of w ≡ 0 → ((x : ℕ) → x < z.capacity → held_of z w x ≡ 0) → ColumnSound z w
fresh_sound z w l e free =
    record {
      size = l.size;
      shaped = l.shaped;
      linked =
          record {
            room = omega arith;
            tied = λ i hi. absurd (omega arith);
            inside = λ x hx hh. absurd (omega (arith, free x hx));
            back = λ x hx hh. absurd (omega (arith, free x hx));
          };
    }

-- ---- rows of a sound part

module _ (z : Shape) (w : List ℕ) (s : ColumnSound z w) where
  -- no two rows have one index
  pub rows_apart : (i j : ℕ) → i < length_of w → j < length_of w → i ≢ j → index_at w i ≢ index_at w j
  rows_apart = apart z.capacity (length_of w) (index_at w) (version_at w) (place_of z w) (held_of z w) s.linked

  module _ (x : ℕ) (hx : x < z.capacity) (f : Absent x (rows z w)) where
    -- an index that no row has is not held
    pub absent_free : held_of z w x ≡ 0
    absent_free =
        elim (ℕ_discrete (held_of z w x) 0) [
          | yes h ↦ h
          | no h ↦ absurd (
              let q : 1 ≤ held_of z w x = omega arith in
              let p = s.linked.inside x hx q in
              f (place_of z w x) (omega (arith, length_rows z w)) (index_rows z w (place_of z w x) p ∙ s.linked.back x hx q))
        ]

    -- and then there is room
    pub absent_room : length_of w < z.capacity
    absent_room =
        pigeon_free z.capacity (length_of w) x (index_at w) hx (λ i hi. (s.linked.tied i hi).below) rows_apart
        (λ i hi e. f i (omega (arith, length_rows z w)) (index_rows z w i hi ∙ e))

-- ---- other words in the place of some that the rows do not depend on

-- entities and lookups as they were
pub links_sound : (z : Shape) (w w' : List ℕ) → ColumnSound z w → length w' ≡ length w → length_of w' ≡ length_of w
    → ((j : ℕ) → 8 ≤ j → j < ROWS + 4 * z.capacity → get_or w' j 0 ≡ get_or w j 0) → ColumnSound z w'
links_sound z w w' s size first rest =
    let r = s.linked.room in
    record {
      size = size ∙ s.size;
      shaped = s.shaped;
      linked =
          rw first
          (linked_same z.capacity (length_of w) (index_at w) (version_at w) (place_of z w) (held_of z w) s.linked
          (index_at w') (version_at w') (place_of z w') (held_of z w')
          (λ i hi. rest _ (omega arith) (omega arith))
          (λ i hi. rest _ (omega arith) (omega arith))
          (λ x hx. rest _ (omega arith) (omega arith))
          (λ x hx. rest _ (omega arith) (omega arith)));
    }

pub front_sound : (z : Shape) (w w' : List ℕ) → ColumnSound z w → FrontKept z w w' → ColumnSound z w'
front_sound z w w' s f = links_sound z w w' s f.size (f.same 0 (omega arith)) (λ j h k. f.same j k)

-- words 1 to 7 are the storage's: other words there leave the rows as they were
module _ (z : Shape) (w w' : List ℕ) (s : ColumnSound z w) (size : length w' ≡ length w) (first : length_of w' ≡ length_of w)
    (rest : (i : ℕ) → 8 ≤ i → get_or w' i 0 ≡ get_or w i 0) where
  pub head_sound : ColumnSound z w'
  head_sound = links_sound z w w' s size first (λ j h k. rest j h)

  pub head_rows : rows z w' ≡ rows z w
  unfolding rows
  head_rows =
      let r = s.linked.room in
      rw first
      (table_same no_row (length_of w) (row_at z w) (row_at z w')
      (λ i hi. row_is z w' i _ _ _ (rest _ (omega arith)) (rest _ (omega arith)) (value_same z w w' i size (λ q h. rest q (omega arith)))))
