use Prim.Native.Nat.{◌-◌}
use Rattle.world.proofs.Extending.{Creating}
use Rattle.world.proofs.create_each.Given as goal

abbrev pub invariant-loop-done : goal.invariant-loop-done
invariant-loop-done l = Creating l.initial.words l.count l.words (l.count - l.done)
