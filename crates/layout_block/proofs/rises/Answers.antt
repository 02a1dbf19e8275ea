use native.Mathlib.Omega.{arith}
use Rattle.layout_block.proofs.Checking.{rises_more, rises_stop, rises_decided}
use Rattle.layout_block.proofs.rises.Goals as goal

pub returns-then-a-before : goal.returns-then-a-before
returns-then-a-before c = let l = c.loop-arity in rises_stop c.args.arities.now c.args.n l.before l.arity-index (omega arith) c.if-a-before.true l.invariant

pub loop-arity-preserved : goal.loop-arity-preserved
loop-arity-preserved c = let l = c.loop-arity in rises_more c.args.arities.now c.args.n l.before l.arity-index (omega arith) c.if-a-before.false l.invariant

pub returns : goal.returns
returns c = let l = c.loop-arity in rises_decided c.args.arities.now c.args.n l.before l.arity-index (omega (arith, l.invariant.below)) l.invariant
