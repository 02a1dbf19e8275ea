use Rattle.layout_apply.proofs.HeadLoops.{Familywise}
use Rattle.layout_apply.proofs.put_family.Given as goal

abbrev pub invariant-loop-g : goal.invariant-loop-g
invariant-loop-g l = Familywise l.initial.words l.words l.f l.g l.prior
