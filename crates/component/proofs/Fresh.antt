-- Words whose columns are all empty: each length and each lookup's version is 0, whatever else they hold. Assumes nothing.
use mathlib.Core.Path.{◌≡◌, ap, ◌∙◌}
use mathlib.Core.List.{List, []}
use Prim.Native.Nat.{ℕ, ◌+◌, ◌≤◌, ◌<◌}
use native.Mathlib.Omega.{arith}
use native.Mathlib.Nat.{add-zero}
use lib.ListN.{length, get_or}
use Rattle.model.specs.Numbers.{MAX_KINDS}
use Rattle.words.proofs.Part.{length_between}
use Rattle.words.specs.declared.Shape.{Shape}
use Rattle.words.specs.Shape.{Shaped, lookup_place, column_len, column_start}
use Rattle.words.proofs.Offsets.{column_start_apart}
use Rattle.component.proofs.Meaning.{empty_rows, fresh_sound}
use Rattle.component.specs.Columns.{column_of, rows_of, Columns}
use Rattle.component.proofs.Parts.{get_d_column}

pub length_column : (z : Shape) (s : ℕ) (w : List ℕ) → column_start z s + column_len z ≤ length w → length (column_of z s w) ≡ column_len z
unfolding column_of
length_column z s w h = omega (arith, length_between (column_start z s) (column_start z s + column_len z) w h)

fresh_length : (z : Shape) (s : ℕ) (w : List ℕ) → get_or w (column_start z s) 0 ≡ 0 → get_or (column_of z s w) 0 0 ≡ 0
fresh_length z s w e = get_d_column z s 0 w (omega arith) ∙ ap (λ (i : ℕ). get_or w i 0) (add-zero (column_start z s)) ∙ e

pub fresh_rows : (z : Shape) (s : ℕ) (w : List ℕ) → get_or w (column_start z s) 0 ≡ 0 → rows_of z s w ≡ []
fresh_rows z s w e = empty_rows z (column_of z s w) (fresh_length z s w e)

pub fresh_columns : (z : Shape) (m : ℕ) (w : List ℕ) → Shaped z → m ≤ MAX_KINDS → column_start z m ≤ length w
    → ((s : ℕ) → s < m → get_or w (column_start z s) 0 ≡ 0)
    → ((s x : ℕ) → s < m → x < z.capacity → get_or w (column_start z s + (lookup_place z x + 1)) 0 ≡ 0) → Columns z m w
fresh_columns z m w hn hm size none free =
    record {
      shaped = hn;
      few = hm;
      size = size;
      columns =
          λ s h.
          fresh_sound z (column_of z s w)
          (record { size = length_column z s w (omega (arith, column_start_apart z s m h)); shaped = hn })
          (fresh_length z s w (none s h))
          (λ x hx. get_d_column z s (lookup_place z x + 1) w (omega arith) ∙ free s x h hx);
    }
