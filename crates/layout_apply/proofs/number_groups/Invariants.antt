use Prim.Native.Nat.{◌≤◌}
use Rattle.layout_apply.specs.Steps.{Numbered}
use Rattle.layout_apply.proofs.number_groups.Given as goal

abbrev pub invariant-loop-f : goal.invariant-loop-f
invariant-loop-f l = (l.f ≤ l.families) × Numbered l.initial.words l.f l.words
