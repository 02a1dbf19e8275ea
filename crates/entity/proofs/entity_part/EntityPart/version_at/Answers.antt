use Rattle.entity.proofs.Lookups.{version_is}
use Rattle.entity.proofs.entity_part.EntityPart.version_at.Goals as goal

pub returns : goal.returns
returns c =
    version_is c.args.self.now.capacity c.args.self.now.part.now c.args.self.now.sound c.args.index c.requires.in_range
