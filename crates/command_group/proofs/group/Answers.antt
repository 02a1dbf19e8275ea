use mathlib.Core.Path.{◌≡◌}
use mathlib.Core.Bool.{true, false}
use Rattle.std.specs.Prelude.{Ok, Err}
use Rattle.memory.specs.Meaning.{meaning}
use Rattle.command.proofs.Acts.{refused_by_law, accepted_by}
use Rattle.command_group.proofs.Outcomes.{group_as, drafted_emptied}
use Rattle.command_group.proofs.group.Goals as goal

pub returns-in-Ok-false : goal.returns-in-Ok-false
returns-in-Ok-false c =
    let r = c.add_staged-answer in
    let unchanged : r.result.outcome ≡ Ok false = cc in
    accepted_by (group_as (meaning c.args.words.now) r.result (Ok false) r.ensures unchanged) c.clear_staged-in-Ok-false.ensures c.ack_byte-in-Ok-false.ensures

pub returns-in-Ok-true : goal.returns-in-Ok-true
returns-in-Ok-true c =
    let r = c.add_staged-answer in
    let added : r.result.outcome ≡ Ok true = cc in
    accepted_by (group_as (meaning c.args.words.now) r.result (Ok true) r.ensures added) (drafted_emptied r.result.layout c.set_draft.ensures c.clear_staged.ensures) c.ack_byte.ensures

pub returns-in-Err : goal.returns-in-Err
returns-in-Err c =
    let r = c.add_staged-answer in
    refused_by_law (group_as (meaning c.args.words.now) r.result (Err c.in-Err.refusal) r.ensures c.in-Err.is) c.refuse.ensures
