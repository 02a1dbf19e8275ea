use lib.ListN.{length}
use mir.Facts.{Fits-le}
use mir.Val.{Fits}
use mir.Syntax.{w64}
use Prim.Native.Nat.{ℕ, ◌+◌, ◌*◌, ◌-◌, ◌≤◌, ◌<◌}
use Rattle.replay.proofs.Agreeing.{cut_stepped, column_agrees}
use native.Mathlib.Nat.{le-add_right, mul-le-mul}
use native.Mathlib.Omega.{arith}
use Rattle.replay.proofs.cases.replay_column.Goals as goal

-- a column's head, and then its entities and its values, lie in the file
head_in : (a l : ℕ) → a ≤ l → 3 ≤ l - a → (a + 3 ≤ l) × (a < l) × (a + 1 ≤ l) × (a + 1 + 2 ≤ l)
head_in a l h p = (omega arith, omega arith, omega arith, omega arith)

rows_fit : (v n : ℕ) → v ≤ 255 → n < 65536 → Fits w64 (v * n) × Fits w64 (8 * n) × Fits w64 (8 * n + v * n) × (n ≤ 65535)
rows_fit v n l h =
    let few : n ≤ 65535 = omega arith in
    let size : v * n ≤ 16711425 = mul-le-mul l few in
    (omega arith, omega arith, omega arith, few)

rows_in : (a n size l : ℕ) → a + 3 ≤ l → 8 * n + size ≤ l - (a + 3) → (a + 3 + 8 * n ≤ l) × (a + 3 + 8 * n + size ≤ l)
rows_in a n size l h p = (omega arith, omega arith)

pub overflow_sub-file : goal.overflow_sub-file
overflow_sub-file c = c.requires

pub returns-then-file-at-lt3 : goal.returns-then-file-at-lt3
returns-then-file-at-lt3 c = cut_stepped _ _ _ _ _ c.cut.ensures

pub overflow_add-start : goal.overflow_add-start
overflow_add-start c =
    let file-fits : Fits w64 (length c.args.file.now) = omega arith in
    Fits-le (head_in _ _ c.requires c.if-file-at-lt3.false).0 (file-fits)

pub bounds-file-at : goal.bounds-file-at
bounds-file-at c = (head_in _ _ c.requires c.if-file-at-lt3.false).1

pub overflow_add-at : goal.overflow_add-at
overflow_add-at c =
    let file-fits : Fits w64 (length c.args.file.now) = omega arith in
    Fits-le (head_in _ _ c.requires c.if-file-at-lt3.false).2 (file-fits)

pub short_at-length-requires : goal.short_at-length-requires
short_at-length-requires c = (head_in _ _ c.requires c.if-file-at-lt3.false).3

pub overflow_mul-size : goal.overflow_mul-size
overflow_mul-size c =
    let width_small : c.args.width ≤ 255 = omega arith in
    (rows_fit _ _ (width_small) c.short_at-length.ensures.1).0

pub overflow_sub-file-2 : goal.overflow_sub-file-2
overflow_sub-file-2 c = (head_in _ _ c.requires c.if-file-at-lt3.false).0

pub overflow_mul-length : goal.overflow_mul-length
overflow_mul-length c =
    let width_small : c.args.width ≤ 255 = omega arith in
    (rows_fit _ _ (width_small) c.short_at-length.ensures.1).1

pub overflow_add-length : goal.overflow_add-length
overflow_add-length c =
    let width_small : c.args.width ≤ 255 = omega arith in
    (rows_fit _ _ (width_small) c.short_at-length.ensures.1).2

pub returns-then-file-start : goal.returns-then-file-start
returns-then-file-start c = cut_stepped _ _ _ _ _ c.cut-then-file-start.ensures

pub overflow_mul-middle : goal.overflow_mul-middle
overflow_mul-middle c =
    let width_small : c.args.width ≤ 255 = omega arith in
    (rows_fit _ _ (width_small) c.short_at-length.ensures.1).1

pub overflow_add-middle : goal.overflow_add-middle
overflow_add-middle c =
    let file-fits : Fits w64 (length c.args.file.now) = omega arith in
    Fits-le (rows_in c.args.at _ _ _ (head_in _ _ c.requires c.if-file-at-lt3.false).0 c.if-file-start.false).0 (file-fits)

pub overflow_add-end : goal.overflow_add-end
overflow_add-end c =
    let file-fits : Fits w64 (length c.args.file.now) = omega arith in
    Fits-le (rows_in c.args.at _ _ _ (head_in _ _ c.requires c.if-file-at-lt3.false).0 c.if-file-start.false).1 (file-fits)

pub slice_bounds-is_same_column-count : goal.slice_bounds-is_same_column-count
slice_bounds-is_same_column-count c = le-add_right _ _

pub slice_bounds-is_same_column-start : goal.slice_bounds-is_same_column-start
slice_bounds-is_same_column-start c = le-add_right _ _

pub slice_bounds-is_same_column-end : goal.slice_bounds-is_same_column-end
slice_bounds-is_same_column-end c = (rows_in c.args.at _ _ _ (head_in _ _ c.requires c.if-file-at-lt3.false).0 c.if-file-start.false).0

pub is_same_column-entities-requires : goal.is_same_column-entities-requires
is_same_column-entities-requires c =
    let width_small : c.args.width ≤ 255 = omega arith in
    (rows_fit _ _ (width_small) c.short_at-length.ensures.1).3

pub slice_bounds-is_same_column-count-2 : goal.slice_bounds-is_same_column-count-2
slice_bounds-is_same_column-count-2 c = le-add_right _ _

pub slice_bounds-is_same_column-start-2 : goal.slice_bounds-is_same_column-start-2
slice_bounds-is_same_column-start-2 c = le-add_right _ _

pub slice_bounds-is_same_column-end-2 : goal.slice_bounds-is_same_column-end-2
slice_bounds-is_same_column-end-2 c = (rows_in c.args.at _ _ _ (head_in _ _ c.requires c.if-file-at-lt3.false).0 c.if-file-start.false).1

pub is_same_column-values-requires : goal.is_same_column-values-requires
is_same_column-values-requires c =
    let width_small : c.args.width ≤ 255 = omega arith in
    (rows_fit _ _ (width_small) c.short_at-length.ensures.1).3

pub returns : goal.returns
returns c =
    let a = c.args in
    column_agrees a.file.now a.words.now a.at a.width c.short_at-length.result c.is_same_column-entities.result c.is_same_column-values.result
    c.short_at-length.ensures.0 (rows_in a.at _ _ _ (head_in _ _ c.requires c.if-file-at-lt3.false).0 c.if-file-start.false).1 c.is_same_column-entities.ensures c.is_same_column-values.ensures
