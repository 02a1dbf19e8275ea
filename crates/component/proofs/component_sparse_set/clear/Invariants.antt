use mathlib.Core.Path.{◌≡◌}
use Prim.Native.Nat.{◌+◌}
use lib.ListN.{take}
use Rattle.component.specs.SparseSet.{length_of}
use Rattle.component.specs.Stored.{RowsChanged}
use Rattle.component.proofs.component_sparse_set.clear.Given as goal

abbrev pub invariant-loop-done : goal.invariant-loop-done
invariant-loop-done l = (l.done + length_of l.part ≡ length_of l.initial.part) × RowsChanged l.z (take (length_of l.part)) l.initial.part l.part
