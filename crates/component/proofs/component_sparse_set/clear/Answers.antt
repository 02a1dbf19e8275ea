use native.Mathlib.Omega.{arith}
use Rattle.component.proofs.Moves.{clear_none, clear_more}
use Rattle.component.proofs.component_sparse_set.clear.Goals as goal

pub loop-done-init : goal.loop-done-init
loop-done-init c = (omega arith, clear_none c.args.z c.args.part.now c.requires)

pub loop-done-preserved : goal.loop-done-preserved
loop-done-preserved c =
    let l = c.loop-done in
    let m = clear_more c.args.z c.args.part.now l.part c.pop.new.part (omega arith) l.invariant.1 c.pop.ensures in
    (omega (arith, m.0), m.1)
