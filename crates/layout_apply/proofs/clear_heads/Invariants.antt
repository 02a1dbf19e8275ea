use Prim.Native.Nat.{ℕ, ◌≤◌}
use Rattle.component.specs.Columns.{Columns}
use Rattle.layout_apply.specs.Heads.{Groupless}
use Rattle.layout_apply.proofs.clear_heads.Given as goal

abbrev pub invariant-loop-slot : goal.invariant-loop-slot
invariant-loop-slot l = (l.slot ≤ l.m) × ((k : ℕ) → l.m ≤ k → Columns l.z k l.initial.words → Groupless l.z k l.slot l.initial.words l.words)
