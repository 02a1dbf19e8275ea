use Rattle.kinds.proofs.Slot.{lent_at, rows_at}
use Rattle.kinds.proofs.holds.Goals as goal

pub holds_in-requires : goal.holds_in-requires
holds_in-requires c = lent_at c.args.words.now c.args.z c.args.kind c.slot_of-slot.result c.requires.shape_is c.slot_of-slot.ensures

pub returns : goal.returns
returns c =
    rw (rows_at c.args.words.now c.args.z c.args.kind c.slot_of-slot.result c.requires.shape_is c.slot_of-slot.ensures) at c.holds_in.ensures
