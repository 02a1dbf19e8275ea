use native.Mathlib.Omega.{arith}
use Rattle.entity.proofs.LiveSteps.{live_room, joined_changed}
use Rattle.entity.proofs.entity_sparse_set.insert.Goals as goal

pub put-requires-clause-in_range : goal.put-requires-clause-in_range
put-requires-clause-in_range c =
    let a = c.args in
    let d = c.requires.idle.0 in
    (live_room a.n a.part.now c.requires.sound a.e.index a.e.version d c.requires.idle.1, omega (arith, d.below, c.requires.sound.few))

pub returns : goal.returns
returns c =
    let a = c.args in
    rw c.put.ensures (joined_changed a.n a.part.now c.requires.sound a.e.index a.e.version c.requires.idle.0 c.requires.idle.1)
