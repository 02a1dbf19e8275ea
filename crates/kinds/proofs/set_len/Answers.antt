use native.Mathlib.Omega.{arith}
use Rattle.words.specs.Offsets.{VALUE_WIDTH}
use Rattle.kinds.proofs.Slot.{header_long, lent_at, rows_at}
use Rattle.kinds.proofs.set_len.Goals as goal

pub shape_of-z-requires : goal.shape_of-z-requires
shape_of-z-requires c = header_long c.args.words.now c.requires.arranged VALUE_WIDTH (omega arith)

pub len_in-requires : goal.len_in-requires
len_in-requires c =
    let a = c.args in
    lent_at a.words.now c.shape_of-z.result a.kind c.slot_of-slot.result c.shape_of-z.ensures.is c.slot_of-slot.ensures

pub returns : goal.returns
returns c =
    let a = c.args in
    rw (rows_at a.words.now c.shape_of-z.result a.kind c.slot_of-slot.result c.shape_of-z.ensures.is c.slot_of-slot.ensures) at c.len_in.ensures
