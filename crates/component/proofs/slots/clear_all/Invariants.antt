use mathlib.Core.List.{[]}
use Rattle.model.specs.Model.{SparseSet}
use Rattle.component.specs.Changes.{Changes}
use Rattle.component.proofs.Several.{up_to}
use Rattle.component.proofs.slots.clear_all.Given as goal

abbrev pub invariant-loop-slot : goal.invariant-loop-slot
invariant-loop-slot l = Changes l.z l.m (up_to l.slot (λ (rs : SparseSet). [])) l.initial.words l.words
