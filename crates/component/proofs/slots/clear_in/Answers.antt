use mathlib.Core.List.{[]}
use Rattle.model.specs.Model.{SparseSet}
use Rattle.component.proofs.Parts.{part_within, only_within}
use Rattle.component.proofs.slots.clear_in.Goals as goal

pub clear-requires : goal.clear-requires
clear-requires c = rw (part_within c.args.z c.args.slot c.bounds-start.result c.args.words.now c.bounds-start.ensures) c.requires.sound

pub returns : goal.returns
returns c =
    let a = c.args in
    only_within a.z a.slot c.bounds-start.result (λ (rs : SparseSet). []) a.words.now c.clear.new.part c.bounds-start.ensures c.requires c.clear.ensures
