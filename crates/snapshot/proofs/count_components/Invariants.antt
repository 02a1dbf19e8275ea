use mathlib.Core.Path.{◌≡◌}
use Prim.Native.Nat.{◌+◌, ◌*◌, ◌≤◌}
use lib.ListN.{drop}
use Rattle.model.specs.Numbers.{MAX_ENTITIES, MAX_KINDS}
use Rattle.memory.specs.Meaning.{meaning}
use Rattle.snapshot.specs.Rising.{rows_in}
use Rattle.snapshot.proofs.count_components.Given as goal

abbrev pub invariant-loop-kind : goal.invariant-loop-kind
invariant-loop-kind l = (l.total + rows_in (drop l.kind (meaning l.words).storage.sets) ≡ rows_in (meaning l.words).storage.sets) × (l.total ≤ MAX_ENTITIES * l.kind) × (l.kind ≤ MAX_KINDS)
