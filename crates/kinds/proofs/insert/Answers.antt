use mathlib.Core.Path.{subst}
use Rattle.model.specs.Store.{on_set, on_storage}
use Rattle.memory.specs.Meaning.{meaning}
use Rattle.memory.specs.Arranged.{Becomes}
use Rattle.model.specs.Model.{insert_row, entity}
use Rattle.words.specs.declared.Shape.{Shape}
use Rattle.values.specs.Values.{value_of}
use Rattle.kinds.proofs.Slot.{lent_at, rows_at, only_becomes}
use Rattle.kinds.proofs.insert.Goals as goal

pub insert_in-requires : goal.insert_in-requires
insert_in-requires c =
    let a = c.args in
    let slot = c.slot_of-slot.result in
    record { lent = lent_at a.words.now a.z a.kind slot c.requires.shape_is c.slot_of-slot.ensures; issued = (rw c.requires.shape_is c.requires.issued.0, c.requires.issued.1); current = rw (rows_at a.words.now a.z a.kind slot c.requires.shape_is c.slot_of-slot.ensures) c.requires.current }

pub returns : goal.returns
returns c =
    let a = c.args in
    let w = a.words.now in
    let e = entity a.e.index a.e.version in
    let w' = c.insert_in.new.words in
    subst (λ (z : Shape). Becomes w w' (on_storage (on_set a.kind (insert_row e (value_of z.stride a.x))) (meaning w))) c.requires.shape_is
    (only_becomes w a.z a.kind c.slot_of-slot.result c.requires.shape_is c.slot_of-slot.ensures w' (insert_row e (value_of a.z.stride a.x)) c.requires.arranged c.insert_in.ensures)
