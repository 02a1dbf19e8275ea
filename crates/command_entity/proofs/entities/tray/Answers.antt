use Rattle.command.proofs.Acts.{refused_by_law, accepted_by, emptied}
use Rattle.command_entity.proofs.Made.{tray_refused, tray_extended}
use Rattle.memory.specs.Meaning.{meaning}
use mathlib.Core.Path.{refl}
use Rattle.command_entity.proofs.entities.tray.Goals as goal

pub returns-then-free_numbers-many : goal.returns-then-free_numbers-many
returns-then-free_numbers-many c =
    let a = c.args in
    let f = c.free_numbers in
    refused_by_law (tray_refused (meaning a.words.now) a.count f.result f.ensures c.if-free_numbers-many.true) c.refuse.ensures

pub returns : goal.returns
returns c =
    let a = c.args in
    let f = c.free_numbers in
    accepted_by (tray_extended (meaning a.words.now) a.count f.result f.ensures c.if-free_numbers-many.false) (emptied _ c.extend.ensures refl c.clear_staged.ensures) c.ack_count.ensures
