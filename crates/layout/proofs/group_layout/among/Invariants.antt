use mathlib.Core.Path.{◌≡◌}
use Prim.Native.Nat.{◌≤◌}
use lib.ListN.{length, drop}
use Rattle.model.specs.Model.{mem}
use Rattle.layout.proofs.group_layout.among.Given as goal

abbrev pub invariant-loop-k : goal.invariant-loop-k
invariant-loop-k l = (l.k-index ≤ length l.kinds) × (mem l.kind l.kinds ≡ mem l.kind (drop l.k-index l.kinds))
