use mathlib.Core.Path.{◌≡◌}
use Prim.Native.Nat.{◌+◌, ◌*◌, ◌≤◌}
use lib.ListN.{length}
use Rattle.model.specs.Numbers.{LIST_CAPACITY}
use Rattle.model.specs.Model.{entity}
use Rattle.words.specs.Shape.{shape_of}
use Rattle.memory.specs.Meaning.{meaning}
use Rattle.command_take.proofs.Taking.{Taken}
use Rattle.command_take.proofs.take_staged.Given as goal

abbrev pub invariant-loop-i : goal.invariant-loop-i
invariant-loop-i l =
    (l.i ≤ l.n) × (l.n ≤ LIST_CAPACITY) × (l.n ≡ length (meaning l.initial.words).control.staged) × Taken l.initial.words l.initial.out (entity l.e.index l.e.version) l.at l.words l.out l.i × (l.z ≡ shape_of l.initial.words) × (l.len ≡ 1 + 4 * l.z.stride)
