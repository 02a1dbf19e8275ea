use Rattle.replay.proofs.Agreeing.{cut_stepped, rolled_few, roll_agrees}
use native.Mathlib.Omega.{arith}
use Rattle.replay.proofs.cases.replay_roll.Goals as goal

pub returns-then-file-at-lt2 : goal.returns-then-file-at-lt2
returns-then-file-at-lt2 c = cut_stepped _ _ _ _ _ c.cut.ensures

pub returns-then-file-start : goal.returns-then-file-start
returns-then-file-start c = cut_stepped _ _ _ _ _ c.cut-then-file-start.ensures

pub is_same_roll-requires : goal.is_same_roll-requires
is_same_roll-requires c = rolled_few _ _ _ c.roll-rolled.result c.roll-rolled.ensures

pub returns : goal.returns
returns c =
    let a = c.args in
    roll_agrees a.file.now a.words.now a.out.now c.roll-rolled.new.out a.at c.short_at-length.result c.roll-rolled.result c.is_same_roll.result
    c.short_at-length.ensures.0 (omega (arith, c.if-file-start.false, c.if-file-at-lt2.false)) c.roll-rolled.ensures c.is_same_roll.ensures
