use lib.ListN.{length}
use Rattle.masks.specs.Masks.{bits_of}
use Rattle.model.specs.Model.{entity}
use Rattle.group.specs.Places.{SameLayout}
use Rattle.group.proofs.Walking.{Up}
use Rattle.group.proofs.group_by.Given as goal

abbrev pub invariant-loop-g : goal.invariant-loop-g
invariant-loop-g g l = Up (entity l.e.index l.e.version) l.initial.words (bits_of 64 l.initial.left.0) l.words (bits_of 64 l.left.0) × SameLayout l.initial.words l.words

abbrev pub decreases-loop-g : goal.decreases-loop-g
decreases-loop-g g l = length (bits_of 64 l.left.0)
