use mathlib.Core.Path.{◌≡◌, sym, ap, ◌∙◌, subst}
use Prim.Native.Nat.{ℕ, ◌+◌, ◌*◌}
use native.Mathlib.Omega.{arith}
use Rattle.words.specs.Offsets.{ROWS}
use Rattle.sound_columns.proofs.SlotLaws.{rows_most, key_word}
use Rattle.sound_groups.proofs.CountLaws.{decides_not}
use Rattle.words.specs.Decides.{Decides}
use Rattle.sound_columns.specs.Rows.{entity_in, key_at}
use Rattle.sound_groups.specs.Counts.{HoldsAll}
use Rattle.sound_groups.proofs.counts.lacks.Goals as goal

pub overflow_mul-at : goal.overflow_mul-at
overflow_mul-at c = let a = c.args in let m = rows_most a.z a.h a.words.now c.requires.in_bounds.1 in omega (arith, m, c.requires.in_bounds)

pub overflow_add-at-2 : goal.overflow_add-at-2
overflow_add-at-2 c = let a = c.args in let m = rows_most a.z a.h a.words.now c.requires.in_bounds.1 in omega (arith, m, c.requires.in_bounds, c.column_start.ensures.is)

pub offset_bounds-words-at : goal.offset_bounds-words-at
offset_bounds-words-at c = let a = c.args in let m = rows_most a.z a.h a.words.now c.requires.in_bounds.1 in omega (arith, m, c.requires.in_bounds, c.column_start.ensures.is)

pub bounds-words-at : goal.bounds-words-at
bounds-words-at c = let a = c.args in let m = rows_most a.z a.h a.words.now c.requires.in_bounds.1 in omega (arith, m, c.requires.in_bounds, c.column_start.ensures.is)

pub overflow_add-e : goal.overflow_add-e
overflow_add-e c = let a = c.args in let m = rows_most a.z a.h a.words.now c.requires.in_bounds.1 in omega (arith, m, c.requires.in_bounds, c.column_start.ensures.is)

pub offset_bounds-words-at-2 : goal.offset_bounds-words-at-2
offset_bounds-words-at-2 c = let a = c.args in let m = rows_most a.z a.h a.words.now c.requires.in_bounds.1 in omega (arith, m, c.requires.in_bounds, c.column_start.ensures.is)

pub bounds-words-at-2 : goal.bounds-words-at-2
bounds-words-at-2 c = let a = c.args in let m = rows_most a.z a.h a.words.now c.requires.in_bounds.1 in omega (arith, m, c.requires.in_bounds, c.column_start.ensures.is)

pub returns : goal.returns
returns c =
    let a = c.args in
    let w = a.words.now in
    let k : key_at a.z w a.h a.i ≡ entity_in w (c.column_start.result + ROWS + 2 * a.i) = key_word a.z a.h w c.requires.in_bounds.1 a.i c.requires.in_bounds.2 ∙ ap (λ (b : ℕ). entity_in w (b + ROWS + 2 * a.i)) (sym c.column_start.ensures.is) in
    decides_not _ c.holds_all.result (subst (λ x. Decides c.holds_all.result (HoldsAll a.z w a.from a.to x)) (sym k) c.holds_all.ensures)
