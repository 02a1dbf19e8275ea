use mathlib.Core.Path.{sym}
use Rattle.entity.proofs.Lookups.{issued_is}
use Rattle.entity.proofs.entity_part.EntityPart.issued.Goals as goal

pub returns : goal.returns
returns c = sym (issued_is c.args.self.now.capacity c.args.self.now.part.now)
