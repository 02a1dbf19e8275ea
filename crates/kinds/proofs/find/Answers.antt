use mathlib.Core.Path.{subst}
use Rattle.words.specs.declared.Shape.{Shape}
use Rattle.component.specs.Answers.{Finds}
use Rattle.kinds.specs.Kinds.{kind_set}
use Rattle.kinds.proofs.Slot.{lent_at, rows_at}
use Rattle.model.specs.Model.{entity}
use Rattle.kinds.proofs.find.Goals as goal

pub find_in-requires : goal.find_in-requires
find_in-requires c = lent_at c.args.words.now c.args.z c.args.kind c.slot_of-slot.result c.requires.shape_is c.slot_of-slot.ensures

pub returns : goal.returns
returns c =
    let a = c.args in
    let w = a.words.now in
    let e = entity a.e.index a.e.version in
    subst (λ (z : Shape). Finds z e (kind_set w a.kind) c.find_in.result) c.requires.shape_is
    (rw (rows_at w a.z a.kind c.slot_of-slot.result c.requires.shape_is c.slot_of-slot.ensures) at c.find_in.ensures)
