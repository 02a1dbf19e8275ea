use Rattle.component.proofs.Parts.{part_within}
use Rattle.component.proofs.slots.len_in.Goals as goal

pub returns : goal.returns
returns c = rw (part_within c.args.z c.args.slot c.bounds-start.result c.args.words.now c.bounds-start.ensures) at (c.len.ensures c.args.z)
