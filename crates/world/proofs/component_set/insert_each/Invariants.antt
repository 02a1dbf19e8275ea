use Rattle.world.proofs.Columns.{FillingAll}
use Rattle.world.proofs.component_set.insert_each.Given as goal

abbrev pub invariant-loop-i : goal.invariant-loop-i
invariant-loop-i l = FillingAll l.initial.words l.start l.words l.i
