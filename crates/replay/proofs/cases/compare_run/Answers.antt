use Rattle.replay.proofs.Agreeing.{cut_compared, compared}
use native.Mathlib.Omega.{arith}
use Rattle.replay.proofs.cases.compare_run.Goals as goal

pub returns-then-file-at-lt7 : goal.returns-then-file-at-lt7
returns-then-file-at-lt7 c = cut_compared _ _ _ _ _ c.cut.ensures

pub returns-then-file-at : goal.returns-then-file-at
returns-then-file-at c = cut_compared _ _ _ _ _ c.cut-then-file-at.ensures

pub returns : goal.returns
returns c = compared _ _ _ _ _ c.is_same_run.result c.is_same_run.ensures c.short_at-written.ensures.0 (omega (arith, c.if-file-at.false, c.if-file-at-lt7.false))
