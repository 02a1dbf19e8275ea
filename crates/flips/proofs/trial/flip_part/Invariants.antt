use Rattle.std.proofs.Common.{◌-◌, ◌*◌}
use Rattle.flips.specs.Trial.{Most}
use Rattle.flips.proofs.trial.flip_part.Given as goal

abbrev pub invariant-loop-at : goal.invariant-loop-at
invariant-loop-at l = Most l.counts (8 * (l.at - l.from))
