use Rattle.entity.proofs.QueueSteps.{queued_changed}
use Rattle.entity.proofs.entity_allocator.push_back.Goals as goal

pub returns : goal.returns
returns c =
    let a = c.args in
    rw c.wrap-place.ensures.0 (queued_changed a.n a.part.now c.requires.sound a.e.index a.e.version c.requires.idle.0 c.requires.idle.1)
