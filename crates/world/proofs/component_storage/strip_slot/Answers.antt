use Rattle.model.specs.Model.{remove_row, entity}
use Rattle.world.proofs.Removing.{slot_lent, slot_becomes}
use Rattle.world.proofs.component_storage.strip_slot.Goals as goal

pub remove_in-requires : goal.remove_in-requires
remove_in-requires c = slot_lent c.args.words.now c.requires.arranged c.args.z c.args.slot c.requires.shape_is c.requires.slot_in_bounds

pub returns : goal.returns
returns c =
    let a = c.args in
    slot_becomes a.words.now c.requires.arranged a.z a.slot c.requires.shape_is c.requires.slot_in_bounds c.remove_in.new.words (remove_row (entity a.e.index a.e.version)) c.remove_in.ensures.change
