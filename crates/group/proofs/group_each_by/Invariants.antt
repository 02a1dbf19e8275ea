use Rattle.masks.specs.Masks.{bits_of}
use Rattle.group.specs.Places.{SameLayout}
use Rattle.group.proofs.Each.{Grouping}
use Rattle.group.proofs.group_each_by.Given as goal

abbrev pub invariant-loop-place : goal.invariant-loop-place
invariant-loop-place g l = Grouping l.initial.words (bits_of 64 l.mask.0) l.start l.words l.place × SameLayout l.initial.words l.words
