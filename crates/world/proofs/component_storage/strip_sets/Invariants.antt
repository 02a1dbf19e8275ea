use mathlib.Core.Path.{◌≡◌}
use Prim.Native.Nat.{◌≤◌}
use lib.ListN.{length}
use Rattle.model.specs.Model.{entity}
use Rattle.memory.specs.Meaning.{meaning}
use Rattle.world.proofs.Removing.{Gone}
use Rattle.world.proofs.component_storage.strip_sets.Given as goal

abbrev pub invariant-loop-slot : goal.invariant-loop-slot
invariant-loop-slot l =
    (l.slot ≤ l.m) × (l.m ≡ length (meaning l.initial.words).kinds) × Gone l.initial.words (entity l.e.index l.e.version) (meaning l.initial.words).kinds l.words l.slot
