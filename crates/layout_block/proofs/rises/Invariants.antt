use Rattle.layout_block.proofs.Checking.{RisesSoFar}
use Rattle.layout_block.proofs.rises.Given as goal

abbrev pub invariant-loop-arity : goal.invariant-loop-arity
invariant-loop-arity l = RisesSoFar l.arities l.n l.before l.arity-index
