use mathlib.Core.Path.{sym, ap, ◌∙◌}
use Rattle.model.specs.Model.{Entity, entity}
use Rattle.entity.proofs.ModelSteps.{create_steps}
use Rattle.entity.specs.Meaning.{entities_of}
use Rattle.entity.specs.Change.{joined, allocated}
use Rattle.entity.proofs.entity_storage.create.Goals as goal

pub returns : goal.returns
returns c =
    let a = c.args in
    let s = entities_of a.n a.part.now in
    let r = c.allocate-entity.ensures in
    let t = c.insert.ensures in
    record {
      changed =
          record {
            sound = t.sound;
            size = t.size ∙ r.changed.size;
            becomes = t.becomes ∙ ap (joined (entity c.allocate-entity.result.index c.allocate-entity.result.version)) r.changed.becomes ∙ ap (λ (e : Entity). joined e (allocated s)) r.entity ∙ sym (create_steps s);
          };
      entity = r.entity;
    }
