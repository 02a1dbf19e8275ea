use Rattle.layout_apply.proofs.HeadLoops.{Groupwise}
use Rattle.layout_apply.proofs.put_group.Given as goal

abbrev pub invariant-loop-j : goal.invariant-loop-j
invariant-loop-j l = Groupwise l.initial.words l.z l.f l.g l.start l.arity l.words l.j
