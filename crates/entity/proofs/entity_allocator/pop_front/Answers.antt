use native.Mathlib.Omega.{arith}
use lib.ListN.{length-set}
use Rattle.entity.proofs.QueueSteps.{front_first, front_below, front_positive, unqueued_idle, unqueued_changed}
use Rattle.entity.proofs.entity_allocator.pop_front.Goals as goal

pub bounds-part-n : goal.bounds-part-n
bounds-part-n c = simp length-set (omega (arith, front_below c.args.n c.args.part.now c.requires.sound c.requires.waiting, c.requires.sound.few, c.requires.sound.sized))

pub returns : goal.returns
returns c =
    let a = c.args in
    rw c.wrap-next.ensures.0
    (record {
      changed = unqueued_changed a.n a.part.now c.requires.sound c.requires.waiting;
      entity = front_first a.n a.part.now c.requires.sound c.requires.waiting;
      idle = unqueued_idle a.n a.part.now c.requires.sound c.requires.waiting;
      positive = front_positive a.n a.part.now c.requires.sound c.requires.waiting;
    })
