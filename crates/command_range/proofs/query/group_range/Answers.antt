use Rattle.model.specs.Store.{staged_kinds}
use Rattle.memory.specs.Meaning.{meaning}
use Rattle.memory.proofs.Frames.{long}
use Rattle.command_range.proofs.Queries.{query_inside, both_queries, no_staged, no_excluded}
use Rattle.command_range.proofs.query.group_range.Goals as goal
use native.Mathlib.Omega.{arith}

pub returns-in_err-listed_query : goal.returns-in_err-listed_query
returns-in_err-listed_query c =
    let w = c.args.words.now in
    rw c.from_residual.ensures (no_staged w c.requires.arranged (staged_kinds (meaning w)) (meaning w).control.excluded c.in_err-listed_query.ensures)

pub returns-in_err-listed_query-2 : goal.returns-in_err-listed_query-2
returns-in_err-listed_query-2 c =
    let w = c.args.words.now in
    rw c.from_residual-in_err-listed_query-2.ensures (no_excluded w c.requires.arranged (staged_kinds (meaning w)) (meaning w).control.excluded c.in_err-listed_query-2.ensures)

pub slice_bounds-group_range-end : goal.slice_bounds-group_range-end
slice_bounds-group_range-end c = omega (arith, long c.args.words.now c.requires.arranged)

pub slice_bounds-group_range-end-2 : goal.slice_bounds-group_range-end-2
slice_bounds-group_range-end-2 c = omega (arith, long c.args.words.now c.requires.arranged)

pub group_range-requires-clause-include_inside : goal.group_range-requires-clause-include_inside
group_range-requires-clause-include_inside c =
    query_inside c.args.words.now c.requires.arranged (staged_kinds (meaning c.args.words.now)) c.in_ok-listed_query.field-0 c.in_ok-listed_query.ensures

pub group_range-requires-clause-exclude_inside : goal.group_range-requires-clause-exclude_inside
group_range-requires-clause-exclude_inside c =
    query_inside c.args.words.now c.requires.arranged (meaning c.args.words.now).control.excluded c.in_ok-listed_query-2.field-0 c.in_ok-listed_query-2.ensures

pub returns : goal.returns
returns c =
    let w = c.args.words.now in
    both_queries w c.requires.arranged (staged_kinds (meaning w)) (meaning w).control.excluded c.in_ok-listed_query.field-0 c.in_ok-listed_query-2.field-0 c.group_range.result c.in_ok-listed_query.ensures c.in_ok-listed_query-2.ensures c.group_range.ensures
