use mathlib.Core.Path.{sym}
use Rattle.command.proofs.Acts.{refused_by_law, accepted_by}
use Rattle.command_list.proofs.Known.{hold_refused, hold_taken}
use Rattle.memory.specs.Meaning.{meaning}
use Rattle.words.specs.Shape.{shape_of}
use Rattle.values.specs.Values.{value_of}
use Rattle.command_list.proofs.lists.hold.Goals as goal

pub returns-in-Some : goal.returns-in-Some
returns-in-Some c =
    let w = c.args.words.now in
    refused_by_law (hold_refused (meaning w) c.args.kind (value_of (shape_of w).stride c.args.x) _ (sym c.in-Some.ensures)) c.refuse.ensures

pub returns : goal.returns
returns c =
    let w = c.args.words.now in
    accepted_by (hold_taken (meaning w) c.args.kind (value_of (shape_of w).stride c.args.x) (sym c.in_default.ensures)) c.stage.ensures c.ack.ensures
