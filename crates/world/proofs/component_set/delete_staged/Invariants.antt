use mathlib.Core.Path.{◌≡◌}
use Prim.Native.Nat.{◌≤◌}
use lib.ListN.{length}
use Rattle.model.specs.Model.{entity}
use Rattle.model.specs.Store.{staged_kinds}
use Rattle.memory.specs.Meaning.{meaning}
use Rattle.world.proofs.Removing.{Gone}
use Rattle.world.proofs.component_set.delete_staged.Given as goal

abbrev pub invariant-loop-i : goal.invariant-loop-i
invariant-loop-i l =
    (l.i ≤ l.n) × (l.n ≡ length (staged_kinds (meaning l.initial.words))) × Gone l.initial.words (entity l.e.index l.e.version) (staged_kinds (meaning l.initial.words)) l.words l.i
