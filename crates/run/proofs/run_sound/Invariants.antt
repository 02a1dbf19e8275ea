use Rattle.run.proofs.Runs.{Going}
use lib.ListN.{length}
use mathlib.Core.Path.{◌≡◌}
use Rattle.model.specs.Commands.{widths}
use Rattle.memory.specs.Meaning.{meaning}
use Prim.Native.Nat.{◌-◌}
use Rattle.run.proofs.run_sound.Given as goal

abbrev pub invariant-loop-at : goal.invariant-loop-at
invariant-loop-at l = Going l.initial.words l.tape l.initial.out l.words l.out l.at l.to l.done × (l.lengths ≡ widths (meaning l.initial.words).settings.value_bytes)

abbrev pub decreases-loop-at : goal.decreases-loop-at
decreases-loop-at l = length l.tape - l.at
