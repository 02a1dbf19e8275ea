use mathlib.Core.List.{reverse}
use Rattle.masks.specs.Masks.{bits_of}
use Rattle.group.proofs.Walking.{Down}
use Rattle.model.specs.Model.{entity}
use Rattle.group.proofs.ungroup.Given as goal

abbrev pub invariant-loop-g : goal.invariant-loop-g
invariant-loop-g l = Down (entity l.e.index l.e.version) l.initial.words (reverse (bits_of 64 l.initial.left.0)) l.words (reverse (bits_of 64 l.left.0))

abbrev pub decreases-loop-g : goal.decreases-loop-g
decreases-loop-g l = l.left.0
