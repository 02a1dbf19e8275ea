use Rattle.std.specs.Prelude.{None}
use Rattle.command_range.specs.Query.{KindAdded}
use Rattle.command_range.proofs.Queries.{added_more, added_none}
use Rattle.command_range.proofs.query.add_kind.Goals as goal

pub returns-in_err-found : goal.returns-in_err-found
returns-in_err-found c =
    let none : KindAdded c.args.words.now c.args.found c.args.kind None = rw c.in_err-found.was (added_none c.args.words.now c.requires.arranged c.args.kind) in
    rw c.from_residual.ensures none

pub returns : goal.returns
returns c = rw c.in_ok-found.was (added_more c.args.words.now c.requires.arranged c.args.kind c.in_ok-found.field-0 c.view_of.result c.add_view.result c.view_of.ensures c.add_view.ensures)
