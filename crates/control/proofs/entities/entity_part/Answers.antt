use Rattle.control.proofs.EntityPart.{entities_read}
use Rattle.control.proofs.entities.entity_part.Goals as goal

pub returns : goal.returns
returns c =
    let C = c.capacity-capacity in
    record { capacity = C.ensures.is; entities = entities_read c.args.words.now C.result C.ensures }
