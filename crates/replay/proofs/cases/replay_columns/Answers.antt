use native.Mathlib.Omega.{arith}
use Rattle.replay.proofs.Agreeing.{cut_stepped, no_columns_law, more_columns_law, all_columns}
use Rattle.replay.proofs.cases.replay_columns.Goals as goal

pub returns-then-file-at : goal.returns-then-file-at
returns-then-file-at c = cut_stepped _ _ _ _ _ c.cut.ensures

pub loop-done-init : goal.loop-done-init
loop-done-init c = no_columns_law _ _ _ _ (omega (arith, c.if-file-at.false, c.requires))

pub loop-done-preserved : goal.loop-done-preserved
loop-done-preserved c = more_columns_law _ _ _ _ _ _ c.loop-done.agrees c.replay_column-step.result c.loop-done.invariant c.replay_column-step.ensures

pub returns : goal.returns
returns c = all_columns _ _ _ _ _ _ _ (omega (arith, c.loop-done-test.false)) c.loop-done.invariant
