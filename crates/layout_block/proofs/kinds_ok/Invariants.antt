use Rattle.layout_block.proofs.Checking.{SeenSoFar}
use Rattle.layout_block.proofs.kinds_ok.Given as goal

abbrev pub invariant-loop-kind : goal.invariant-loop-kind
invariant-loop-kind l = SeenSoFar l.table l.kinds l.seen l.kind-index
