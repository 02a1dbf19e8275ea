use mathlib.Core.Path.{sym}
use native.Mathlib.Omega.{arith}
use Rattle.entity.proofs.Lookups.{length_live, get_d_live}
use Rattle.entity.proofs.entity_part.EntityPart.live_at.Goals as goal

pub returns : goal.returns
returns c =
    let p = c.args.self.now in
    sym (get_d_live p.capacity p.part.now c.args.place (omega (arith, length_live p.capacity p.part.now, c.requires)))
