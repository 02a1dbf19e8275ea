-- What a lent entity part means. Assumes nothing.
use Rattle.model.specs.Model.{Entities}
use Rattle.entity.specs.declared.entity_part.EntityPart.{EntityPart}
use Rattle.entity.specs.Meaning.{entities_of}

abbrev pub entities : EntityPart → Entities
entities p = entities_of p.capacity p.part.now
