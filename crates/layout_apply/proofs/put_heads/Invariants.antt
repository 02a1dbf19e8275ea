use Prim.Native.Nat.{◌≤◌}
use Rattle.layout.specs.Layout.{start_of}
use Rattle.memory.specs.Meaning.{layout_arrays}
use Rattle.layout_apply.specs.Heads.{HeadedUpto}
use Rattle.layout_apply.proofs.put_heads.Given as goal

abbrev pub invariant-loop-f : goal.invariant-loop-f
invariant-loop-f l = (l.f ≤ l.families) × HeadedUpto l.initial.words l.words (start_of (layout_arrays l.initial.words).kind_ends l.f)
