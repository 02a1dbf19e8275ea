use Rattle.command.proofs.Acts.{refused_by_law, accepted_by, emptied}
use Rattle.command_take.proofs.Told.{taken_written, held_room}
use Rattle.entity.proofs.Lookups.{found_live, found_dead}
use Rattle.memory.specs.Meaning.{meaning}
use Rattle.model.proofs.Outcomes.{take_dead, take_live}
use Rattle.model.specs.Model.{entity}
use lib.ListN.{length}
use native.Mathlib.Omega.{arith}
use mathlib.Core.Path.{refl, sym, ◌∙◌}
use Rattle.command_take.proofs.take.Goals as goal

pub returns-in_default : goal.returns-in_default
returns-in_default c =
    let a = c.args in
    let e = entity a.e.index a.e.version in
    let s = meaning a.words.now in
    refused_by_law (take_dead s e (found_dead e s.entities (sym c.get-found.ensures ∙ c.in_default.is))) c.refuse.ensures

pub overflow_add-result : goal.overflow_add-result
overflow_add-result c =
    let a = c.args in
    omega (arith, c.take_out-written.ensures.count, held_room a.at (length a.out.now) (entity a.e.index a.e.version) (meaning a.words.now) c.requires.room)

pub returns : goal.returns
returns c =
    let a = c.args in
    let e = entity a.e.index a.e.version in
    let s = meaning a.words.now in
    let live = (found_live e s.entities _ (sym c.get-found.ensures ∙ c.in-At.is)).0 in
    accepted_by (take_live s e live) (emptied _ c.take_out-written.ensures.becomes refl c.clear_staged.ensures)
    (taken_written a.out.now _ _ _ a.at _ c.ack.ensures.bytes c.take_out-written.ensures.bytes c.take_out-written.ensures.count)
