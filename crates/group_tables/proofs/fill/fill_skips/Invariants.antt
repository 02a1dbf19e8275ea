use Rattle.group_tables.proofs.Filling.{Skipping}
use Rattle.group_tables.proofs.fill.fill_skips.Given as goal

abbrev pub invariant-loop-g : goal.invariant-loop-g
invariant-loop-g l = Skipping l.words l.initial.skips l.skips l.g
