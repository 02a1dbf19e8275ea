use mathlib.Core.Path.{◌≡◌, subst}
use lib.ListN.{get_or}
use Rattle.model.specs.Model.{no_row}
use Rattle.kinds.specs.Kinds.{kind_set}
use Rattle.words.specs.declared.Shape.{Shape}
use Rattle.values.specs.Values.{value_of}
use Rattle.kinds.proofs.Slot.{lent_at, rows_at}
use Rattle.kinds.proofs.value_of.Goals as goal

pub value_in-requires : goal.value_in-requires
value_in-requires c =
    let a = c.args in
    let slot = c.slot_of-slot.result in record { lent = lent_at a.words.now a.z a.kind slot c.requires.shape_is c.slot_of-slot.ensures; place_in_bounds = rw (rows_at a.words.now a.z a.kind slot c.requires.shape_is c.slot_of-slot.ensures) c.requires.place_in_bounds }

pub returns : goal.returns
returns c =
    let a = c.args in
    let w = a.words.now in
    subst (λ (z : Shape). value_of z.stride c.value_in.result ≡ (get_or (kind_set w a.kind) a.place no_row).value) c.requires.shape_is
    (rw (rows_at w a.z a.kind c.slot_of-slot.result c.requires.shape_is c.slot_of-slot.ensures) at c.value_in.ensures)
