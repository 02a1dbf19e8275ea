use lib.ListN.{length}
use mir.Facts.{Fits-le}
use mir.Val.{Fits}
use mir.Syntax.{w64}
use Rattle.replay.proofs.Agreeing.{cut_case, case_agrees}
use Prim.Native.Nat.{◌+◌, ℕ, ◌-◌, ◌≤◌, ◌<◌}
use native.Mathlib.Omega.{arith}
use Rattle.replay.proofs.cases.replay_case.Goals as goal

-- a case's head lies in the file
head_in : (a l : ℕ) → a ≤ l → 5 ≤ l - a → (a + 5 ≤ l) × (a + 4 ≤ l) × (a + 4 < l) × (a + 3 ≤ l) × (a + 3 < l)
head_in a l h p = (omega arith, omega arith, omega arith, omega arith, omega arith)

pub overflow_sub-file : goal.overflow_sub-file
overflow_sub-file c = c.requires.at_in_bounds

pub returns-then-file-at-lt5 : goal.returns-then-file-at-lt5
returns-then-file-at-lt5 c = cut_case _ _ _ c.cut.ensures

pub start_case-number-requires : goal.start_case-number-requires
start_case-number-requires c = (head_in _ _ c.requires.at_in_bounds c.if-file-at-lt5.false).0

pub overflow_add-at : goal.overflow_add-at
overflow_add-at c =
    let file-fits : Fits w64 (length c.args.file.now) = omega arith in
    Fits-le (head_in _ _ c.requires.at_in_bounds c.if-file-at-lt5.false).0 (file-fits)

pub overflow_add-at-2 : goal.overflow_add-at-2
overflow_add-at-2 c =
    let file-fits : Fits w64 (length c.args.file.now) = omega arith in
    Fits-le (head_in _ _ c.requires.at_in_bounds c.if-file-at-lt5.false).1 (file-fits)

pub bounds-file-at : goal.bounds-file-at
bounds-file-at c = (head_in _ _ c.requires.at_in_bounds c.if-file-at-lt5.false).2

pub replay_runs-runs-requires : goal.replay_runs-runs-requires
replay_runs-runs-requires c = (head_in _ _ c.requires.at_in_bounds c.if-file-at-lt5.false).0

pub replay_roll-roll-requires : goal.replay_roll-roll-requires
replay_roll-roll-requires c = c.replay_runs-runs.ensures.within

pub overflow_add-at-3 : goal.overflow_add-at-3
overflow_add-at-3 c =
    let file-fits : Fits w64 (length c.args.file.now) = omega arith in
    Fits-le (head_in _ _ c.requires.at_in_bounds c.if-file-at-lt5.false).3 (file-fits)

pub bounds-file-at-2 : goal.bounds-file-at-2
bounds-file-at-2 c = (head_in _ _ c.requires.at_in_bounds c.if-file-at-lt5.false).4

pub replay_columns-columns-requires : goal.replay_columns-columns-requires
replay_columns-columns-requires c = c.replay_roll-roll.ensures.within

pub returns : goal.returns
returns c =
    let begun = c.start_case-number in
    let ran = c.replay_runs-runs in
    let rolled = c.replay_roll-roll in
    let shown = c.replay_columns-columns in
    case_agrees c.args.file.now c.args.words.now begun.new.words ran.new.words c.args.at begun.result ran.result rolled.result shown.result
    c.requires.words_len begun.ensures ran.ensures rolled.ensures shown.ensures
