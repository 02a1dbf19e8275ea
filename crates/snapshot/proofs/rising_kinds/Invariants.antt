use mathlib.Core.Path.{◌≡◌}
use mathlib.Core.List.{◌++◌}
use Prim.Native.Nat.{◌≤◌}
use lib.ListN.{length}
use Rattle.model.specs.Numbers.{MAX_KINDS}
use Rattle.model.specs.Listed.{rising_kinds}
use Rattle.memory.specs.Meaning.{meaning}
use Rattle.snapshot.proofs.Listed.{later}
use Rattle.snapshot.proofs.rising_kinds.Given as goal

abbrev pub invariant-loop-kind : goal.invariant-loop-kind
invariant-loop-kind l = (rising_kinds (meaning l.words).kinds ≡ l.list ++ later (meaning l.words).kinds l.kind) × (length l.list ≤ l.kind) × (l.kind ≤ MAX_KINDS)
