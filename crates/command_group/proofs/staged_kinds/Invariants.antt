use mathlib.Core.Path.{◌≡◌}
use lib.ListN.{take}
use Rattle.model.specs.Store.{staged_kinds}
use Rattle.memory.specs.Meaning.{meaning}
use Rattle.command_group.proofs.staged_kinds.Given as goal

abbrev pub invariant-loop-i : goal.invariant-loop-i
invariant-loop-i l = l.kinds ≡ take l.i (staged_kinds (meaning l.words))
