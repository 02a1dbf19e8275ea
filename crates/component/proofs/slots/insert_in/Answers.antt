use Rattle.model.specs.Model.{insert_row, entity}
use Rattle.values.specs.Values.{value_of}
use Rattle.component.proofs.Parts.{part_within, only_within}
use Rattle.component.proofs.slots.insert_in.Goals as goal

pub insert-requires : goal.insert-requires
insert-requires c =
    rw (part_within c.args.z c.args.slot c.bounds-start.result c.args.words.now c.bounds-start.ensures) record { column_sound = c.requires.lent.sound; issued = c.requires.issued; current = c.requires.current }

pub returns : goal.returns
returns c =
    let a = c.args in
    only_within a.z a.slot c.bounds-start.result (insert_row (entity a.e.index a.e.version) (value_of a.z.stride a.x)) a.words.now c.insert.new.part c.bounds-start.ensures c.requires.lent c.insert.ensures
