use Rattle.component.proofs.Parts.{part_is}
use Rattle.component.proofs.at_start.find_from.Goals as goal

pub find_issued-requires : goal.find_issued-requires
find_issued-requires c =
    let a = c.args in
    let L = c.requires.lent_from in
    record { column_sound = rw (part_is a.z L.slot a.base c.column_len.result a.words.now L.starts c.column_len.ensures.is) L.lent.sound; issued = c.requires.issued }

pub returns : goal.returns
returns c = let a = c.args in λ s q. rw (part_is a.z s a.base c.column_len.result a.words.now q c.column_len.ensures.is) at c.find_issued.ensures
