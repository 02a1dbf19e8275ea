use Rattle.group_tables.proofs.Filling.{Filled}
use Rattle.group_tables.proofs.fill.fill_starts.Given as goal

abbrev pub invariant-loop-place : goal.invariant-loop-place
invariant-loop-place l = Filled l.words l.z l.initial.starts l.starts l.place
