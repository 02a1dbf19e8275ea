use Rattle.layout.proofs.Raising.{Raising}
use Rattle.layout.proofs.group_layout.raise.Given as goal

abbrev pub invariant-loop-end : goal.invariant-loop-end
invariant-loop-end l = Raising l.initial.ends l.by l.ends l.end-index
