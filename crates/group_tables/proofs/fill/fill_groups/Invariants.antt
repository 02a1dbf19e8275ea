use Rattle.group_tables.proofs.Filling.{Listed}
use Rattle.group_tables.proofs.fill.fill_groups.Given as goal

abbrev pub invariant-loop-g : goal.invariant-loop-g
invariant-loop-g l = Listed l.words l.initial.groups l.groups l.g
