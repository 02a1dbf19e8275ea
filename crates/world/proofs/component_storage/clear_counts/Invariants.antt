use mathlib.Core.Path.{◌≡◌}
use Prim.Native.Nat.{◌≤◌}
use Rattle.model.specs.Numbers.{MAX_GROUP_COUNT}
use Rattle.model.specs.Model.{groups_of}
use Rattle.memory.specs.Meaning.{meaning}
use Rattle.world.proofs.Zeroing.{Zeroed}
use Rattle.world.proofs.component_storage.clear_counts.Given as goal

abbrev pub invariant-loop-g : goal.invariant-loop-g
invariant-loop-g l = (l.g ≤ l.n) × (l.n ≤ MAX_GROUP_COUNT) × (l.n ≡ groups_of (meaning l.initial.words).storage.layout) × Zeroed l.initial.words l.words l.g
