use Rattle.command.proofs.Acts.{refused_by_law, accepted_by, emptied}
use Rattle.entity.proofs.Lookups.{found_live, found_dead}
use Rattle.memory.specs.Meaning.{meaning}
use Rattle.model.proofs.Outcomes.{put_dead, put_live}
use Rattle.model.specs.Model.{entity}
use mathlib.Core.Path.{refl, sym, ◌∙◌}
use Rattle.command_entity.proofs.components.put.Goals as goal

pub returns-in_default : goal.returns-in_default
returns-in_default c =
    let a = c.args in
    let e = entity a.e.index a.e.version in
    let s = meaning a.words.now in
    refused_by_law (put_dead s e (found_dead e s.entities (sym c.get-found.ensures ∙ c.in_default.is))) c.refuse.ensures

pub returns : goal.returns
returns c =
    let a = c.args in
    let e = entity a.e.index a.e.version in
    let s = meaning a.words.now in
    accepted_by (put_live s e (found_live e s.entities _ (sym c.get-found.ensures ∙ c.in-At.is)).0) (emptied _ c.insert.ensures refl c.clear_staged.ensures) c.ack.ensures
