use lib.Dec.{lit≤}
use mathlib.Core.Path.{refl, sym, ◌∙◌}
use Rattle.columns.specs.Refused.{refusal_number}
use Rattle.columns.proofs.Refused.{some_refused, none_accepted}
use Rattle.store.proofs.Handing.{Given, given_of, refused_part, given_part}
use Rattle.store.proofs.column.Goals as goal

pub slice_bounds-result-count : goal.slice_bounds-result-count
slice_bounds-result-count c = lit≤ tt

pub slice_bounds-result-start : goal.slice_bounds-result-start
slice_bounds-result-start c = lit≤ tt

pub returns-then-is_some : goal.returns-then-is_some
returns-then-is_some c =
    let a = c.args in
    refused_part a.words _ a.values a.kind a.start a.end (refusal_number c.column_number.result) c.column_number.ensures (some_refused c.column_number.result (sym c.is_some.ensures ∙ c.if-is_some.true)) refl refl refl

pub rows-requires : goal.rows-requires
rows-requires c =
    let a = c.args in
    let G : Given a.words.now a.kind a.start a.end = given_of a.words.now a.kind a.start a.end (refusal_number c.column_number.result) c.column_number.ensures (none_accepted c.column_number.result (sym c.is_some.ensures ∙ c.if-is_some.false)) in
    record { arranged = G.sound.arranged; accepted = G.taken }

pub returns : goal.returns
returns c =
    let a = c.args in
    let G : Given a.words.now a.kind a.start a.end = given_of a.words.now a.kind a.start a.end (refusal_number c.column_number.result) c.column_number.ensures (none_accepted c.column_number.result (sym c.is_some.ensures ∙ c.if-is_some.false)) in
    given_part a.words c.rows.result a.values a.kind a.start a.end G c.rows.ensures
