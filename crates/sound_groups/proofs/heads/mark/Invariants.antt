use mathlib.Core.Path.{◌≡◌}
use lib.ListN.{length}
use Rattle.model.specs.Numbers.{MAX_KINDS}
use Rattle.sound_groups.proofs.Marking.{Marks}
use Rattle.sound_groups.proofs.heads.mark.Given as goal

abbrev pub invariant-loop-kind : goal.invariant-loop-kind
invariant-loop-kind l = (length l.seen ≡ MAX_KINDS) × Marks l.seen l.kinds l.kind-index
