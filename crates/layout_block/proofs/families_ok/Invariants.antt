use mathlib.Core.List.{[]}
use Rattle.layout.specs.Layout.{arrays_in}
use Rattle.layout_block.proofs.Checking.{FormedSoFar}
use Rattle.layout_block.proofs.families_ok.Given as goal

abbrev pub invariant-loop-f : goal.invariant-loop-f
invariant-loop-f l = FormedSoFar (arrays_in [] l.arities l.kind_ends l.ends l.families) l.kind_start l.group_start l.f
