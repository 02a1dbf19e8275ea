use Rattle.component.proofs.Parts.{part_within}
use Rattle.component.proofs.slots.find_in.Goals as goal

pub find-requires : goal.find-requires
find-requires c = rw (part_within c.args.z c.args.slot c.bounds-start.result c.args.words.now c.bounds-start.ensures) c.requires.sound

pub returns : goal.returns
returns c = rw (part_within c.args.z c.args.slot c.bounds-start.result c.args.words.now c.bounds-start.ensures) at c.find.ensures
