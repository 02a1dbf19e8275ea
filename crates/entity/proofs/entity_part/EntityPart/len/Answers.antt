use mathlib.Core.Path.{sym}
use Rattle.entity.proofs.Lookups.{length_live}
use Rattle.entity.proofs.entity_part.EntityPart.len.Goals as goal

pub returns : goal.returns
returns c = sym (length_live c.args.self.now.capacity c.args.self.now.part.now)
