use Rattle.model.specs.Model.{remove_row, entity}
use Rattle.component.proofs.Parts.{part_within, only_within}
use Rattle.component.proofs.slots.remove_in.Goals as goal

pub remove-requires : goal.remove-requires
remove-requires c = rw (part_within c.args.z c.args.slot c.bounds-start.result c.args.words.now c.bounds-start.ensures) c.requires.sound

pub returns : goal.returns
returns c =
    let a = c.args in
    record {
      change = only_within a.z a.slot c.bounds-start.result (remove_row (entity a.e.index a.e.version)) a.words.now c.remove.new.part c.bounds-start.ensures c.requires c.remove.ensures.change;
      answer = rw (part_within c.args.z c.args.slot c.bounds-start.result c.args.words.now c.bounds-start.ensures) at c.remove.ensures.answer;
    }
