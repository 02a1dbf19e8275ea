use mathlib.Core.Path.{◌≡◌}
use native.Mathlib.Omega.{arith}
use Rattle.model.specs.Model.{none, found}
use Rattle.memory.specs.Meaning.{meaning}
use Rattle.command.proofs.Acts.{accepted_by}
use Rattle.command_range.proofs.Told.{range_told, range_told_law, range_fits}
use Rattle.command_range.proofs.range.Goals as goal

pub returns-in_default : goal.returns-in_default
returns-in_default c =
    let told : none ≡ range_told (meaning c.args.words.now) = c.in_default.ensures in
    accepted_by (range_told_law (meaning c.args.words.now) told) c.clear_lists.ensures c.ack_range.ensures

pub overflow_cast-rows : goal.overflow_cast-rows
overflow_cast-rows c =
    let rows = c.in-Some.rows in
    let fits = range_fits (meaning c.args.words.now) c.requires.sound.means rows.start rows.end c.in-Some.ensures in
    omega (arith, fits.0)

pub overflow_cast-rows-2 : goal.overflow_cast-rows-2
overflow_cast-rows-2 c =
    let rows = c.in-Some.rows in
    let fits = range_fits (meaning c.args.words.now) c.requires.sound.means rows.start rows.end c.in-Some.ensures in
    omega (arith, fits.1)

pub returns : goal.returns
returns c =
    let told : found c.in-Some.rows.start c.in-Some.rows.end ≡ range_told (meaning c.args.words.now) = c.in-Some.ensures in
    accepted_by (range_told_law (meaning c.args.words.now) told) c.clear_lists.ensures c.ack_range-2.ensures
