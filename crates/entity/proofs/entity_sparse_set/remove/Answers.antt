use Rattle.entity.proofs.LiveSteps.{left_changed, left_idle}
use Rattle.entity.proofs.entity_sparse_set.remove.Goals as goal

pub returns : goal.returns
returns c =
    let a = c.args in
    rw c.put.ensures (left_changed a.n a.part.now c.requires.sound a.place c.requires.in_range, left_idle a.n a.part.now c.requires.sound a.place c.requires.in_range)
