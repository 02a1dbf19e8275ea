use Rattle.command.proofs.Acts.{refused_by_law, accepted_by, emptied}
use Rattle.command_entity.proofs.Made.{new_made, told}
use Rattle.memory.specs.Meaning.{meaning}
use Rattle.model.proofs.Outcomes.{new_full}
use mathlib.Core.Path.{refl, sym, ◌∙◌}
use Rattle.command_entity.proofs.entities.new.Goals as goal

pub returns-then-is_full : goal.returns-then-is_full
returns-then-is_full c = refused_by_law (new_full (meaning c.args.words.now) (sym c.is_full.ensures ∙ c.if-is_full.true)) c.refuse.ensures

pub returns : goal.returns
returns c =
    let made = c.create-e in
    accepted_by (new_made (meaning c.args.words.now) (sym c.is_full.ensures ∙ c.if-is_full.false)) (emptied _ made.ensures.becomes refl c.clear_staged.ensures) (told made.result.index made.result.version made.ensures.entity c.ack_entity.ensures)
