use Rattle.layout_block.proofs.Copying.{Fetching}
use Rattle.layout_block.proofs.fetch.Given as goal

abbrev pub invariant-loop-i : goal.invariant-loop-i
invariant-loop-i l = Fetching l.initial.dst l.src l.dst l.i
