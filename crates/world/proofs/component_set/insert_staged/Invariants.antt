use mathlib.Core.Path.{◌≡◌}
use Prim.Native.Nat.{◌≤◌}
use lib.ListN.{length, take}
use Rattle.memory.specs.Meaning.{meaning}
use Rattle.model.specs.Store.{on_storage}
use Rattle.model.specs.Model.{entity}
use Rattle.memory.specs.Arranged.{Becomes}
use Rattle.world.specs.Insert.{inserted}
use Rattle.world.proofs.component_set.insert_staged.Given as goal

abbrev pub invariant-loop-i : goal.invariant-loop-i
invariant-loop-i l =
    (l.i ≤ l.n) × (l.n ≡ length (meaning l.initial.words).control.staged) × Becomes l.initial.words l.words (on_storage (inserted (entity l.e.index l.e.version) (take l.i (meaning l.initial.words).control.staged)) (meaning l.initial.words))
