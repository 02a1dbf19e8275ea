use Rattle.layout_block.proofs.Copying.{Putting}
use Rattle.layout_block.proofs.put.Given as goal

abbrev pub invariant-loop-i : goal.invariant-loop-i
invariant-loop-i l = Putting l.initial.dst l.at l.src l.dst l.i
