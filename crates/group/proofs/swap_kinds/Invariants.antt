use Rattle.group.proofs.Swapping.{Swapping}
use Rattle.model.specs.Model.{entity}
use Rattle.group.proofs.swap_kinds.Given as goal

abbrev pub invariant-loop-place : goal.invariant-loop-place
invariant-loop-place g l = Swapping l.initial.words (entity l.e.index l.e.version) l.fn.metadata.storage_start l.fn.metadata.storage_end l.swap_index l.words l.place
