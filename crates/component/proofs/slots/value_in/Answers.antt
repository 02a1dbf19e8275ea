use Rattle.component.proofs.Parts.{part_within}
use Rattle.component.proofs.slots.value_in.Goals as goal

pub value_at-requires : goal.value_at-requires
value_at-requires c = rw (part_within c.args.z c.args.slot c.bounds-start.result c.args.words.now c.bounds-start.ensures) (c.requires.lent.sound, c.requires.place_in_bounds)

pub returns : goal.returns
returns c = rw (part_within c.args.z c.args.slot c.bounds-start.result c.args.words.now c.bounds-start.ensures) at c.value_at.ensures
