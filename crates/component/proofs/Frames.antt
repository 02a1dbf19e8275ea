-- Changes of other words than the rows': of those before the columns, and of a slot's words 1 to 7. Assumes nothing.
use mathlib.Core.Path.{◌≡◌, ap, ◌∙◌}
use mathlib.Core.Logic.{◌≢◌}
use mathlib.Core.List.{List}
use Prim.Native.Nat.{ℕ, ◌+◌, ◌-◌, ◌≤◌, ◌<◌}
use native.Mathlib.Omega.{arith}
use lib.ListN.{length, get_or, set, take, drop, length-set}
use lib.Seq.{take-set-le, take-set-lt, drop-set-lt, drop-set-add, get_or-set_same, get_or-set_other}
use Rattle.model.proofs.BoolLaws.{by-eq}
use Rattle.words.proofs.Part.{between_rest}
use Rattle.words.specs.Offsets.{ROWS, ROWS_LEN}
use Rattle.words.specs.declared.Shape.{Shape}
use Rattle.words.specs.Shape.{column_len, column_start}
use Rattle.words.proofs.Offsets.{column_start_mono}
use Rattle.component.specs.SparseSet.{rows}
use Rattle.component.proofs.Meaning.{head_sound, head_rows}
use Rattle.component.specs.Columns.{column_of, rows_of, Columns}
use Rattle.component.proofs.Parts.{others_kept, front_kept, past_kept, columns_kept}

-- ---- words that agree from the first column on

module _ (z : Shape) (w w' : List ℕ) (same : drop (column_start z 0) w' ≡ drop (column_start z 0) w) where
  pub front_column : (s : ℕ) → column_of z s w' ≡ column_of z s w
  unfolding column_of
  front_column s =
      between_rest (column_start z 0) (column_start z s) (column_start z s + column_len z) w w' (column_start_mono z 0 s (omega arith)) same

  pub front_columns : (m : ℕ) → length w' ≡ length w → Columns z m w → Columns z m w'
  front_columns m size c =
      record { shaped = c.shaped; few = c.few; size = omega (arith, size, c.size); columns = λ s h. rw (front_column s) (c.columns s h) }

-- ---- one of slot s's words 1 to 7 set

pub record Headed (z : Shape) (m s i v : ℕ) (w w' : List ℕ) : Type 0 where
  pub columns : Columns z m w'
  pub size : length w' ≡ length w
  pub same : (j : ℕ) → j < m → rows_of z j w' ≡ rows_of z j w
  pub word : get_or (column_of z s w') i 0 ≡ v
  pub words : (k : ℕ) → k ≢ i → get_or (column_of z s w') k 0 ≡ get_or (column_of z s w) k 0
  pub others : (j : ℕ) → j < m → j ≢ s → column_of z j w' ≡ column_of z j w
  pub front : take (column_start z 0) w' ≡ take (column_start z 0) w
  pub past : drop (column_start z m) w' ≡ drop (column_start z m) w

set_column : (z : Shape) (s i v : ℕ) (w : List ℕ) → i < ROWS → column_of z s (set w (column_start z s + i) v) ≡ set (column_of z s w) i v
unfolding column_of
set_column z s i v w h =
    let b = column_start z s in
    ap (take (b + column_len z - b)) (drop-set-add b w i v) ∙ take-set-lt (b + column_len z - b) (drop b w) i v (omega arith)

pub headed : (z : Shape) (m s i v : ℕ) (w : List ℕ) → Columns z m w → s < m → 1 ≤ i → i < ROWS → Headed z m s i v w (set w (column_start z s + i) v)
headed z m s i v w c h lo hi =
    let b = column_start z s in
    let w' = set w (b + i) v in
    let q = column_of z s w in
    let mid : column_of z s w' ≡ set q i v = set_column z s i v w hi in
    let at : get_or (set q i v) ROWS_LEN 0 ≡ get_or q ROWS_LEN 0 = get_or-set_other q i ROWS_LEN v 0 (omega arith) in
    let later : (k : ℕ) → 8 ≤ k → get_or (set q i v) k 0 ≡ get_or q k 0 = λ k hk. get_or-set_other q i k v 0 (omega arith) in
    let size : length w' ≡ length w = length-set w (b + i) v in
    let front : take b w' ≡ take b w = take-set-le b w (b + i) v (omega arith) in
    let rest : drop (b + column_len z) w' ≡ drop (b + column_len z) w = drop-set-lt (b + column_len z) w (b + i) v (omega arith) in
    let others : (j : ℕ) → j < m → j ≢ s → column_of z j w' ≡ column_of z j w = λ j hj ne. others_kept z s w w' front rest j ne in
    let sound = head_sound z q (set q i v) (c.columns s h) (length-set q i v) at later in
    let same = head_rows z q (set q i v) (c.columns s h) (length-set q i v) at later in
    record {
      columns = columns_kept z m s w w' c size (rw mid sound) others;
      size = size;
      same = λ j hj. by-eq j s (λ e. rw e (ap (rows z) mid ∙ same)) (λ ne. ap (rows z) (others j hj ne));
      word = ap (λ (u : List ℕ). get_or u i 0) mid ∙ get_or-set_same q i v 0 (omega (arith, (c.columns s h).size));
      words = λ k ne. ap (λ (u : List ℕ). get_or u k 0) mid ∙ get_or-set_other q i k v 0 ne;
      others = others;
      front = front_kept z s w w' front;
      past = past_kept z m s w w' h rest;
    }
