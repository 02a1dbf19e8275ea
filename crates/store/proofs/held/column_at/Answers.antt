use mathlib.Core.Path.{sym, ◌∙◌}
use native.Mathlib.Omega.{arith}
use Rattle.columns.proofs.Columns.{known_of}
use Rattle.columns.specs.Refused.{refusal_number}
use Rattle.columns.proofs.Refused.{some_refused, none_accepted}
use Rattle.store.proofs.Handing.{Given, given_of}
use Rattle.store.proofs.Linking.{refused_place, given_place}
use Rattle.store.proofs.held.column_at.Goals as goal

pub column_number-requires : goal.column_number-requires
column_number-requires c = c.requires

pub returns-then-is_some : goal.returns-then-is_some
returns-then-is_some c =
    let a = c.args in
    refused_place a.words.now a.values a.kind a.start a.end (refusal_number c.column_number.result) c.column_number.ensures (some_refused c.column_number.result (sym c.is_some.ensures ∙ c.if-is_some.true))

pub row_start-requires : goal.row_start-requires
row_start-requires c =
    let a = c.args in
    let G : Given a.words.now a.kind a.start a.end = given_of a.words.now a.kind a.start a.end (refusal_number c.column_number.result) c.column_number.ensures (none_accepted c.column_number.result (sym c.is_some.ensures ∙ c.if-is_some.false)) in
    let C = known_of a.words.now a.values a.kind a.start a.end G.sound.arranged G.taken in
    record { arranged = G.sound.arranged; kind_known = C.known; place_in_bounds = omega (arith, C.order, C.inside) }

pub returns : goal.returns
returns c =
    let a = c.args in
    given_place a.words.now a.values a.kind a.start a.end c.row_start.result (given_of a.words.now a.kind a.start a.end (refusal_number c.column_number.result) c.column_number.ensures (none_accepted c.column_number.result (sym c.is_some.ensures ∙ c.if-is_some.false)))
    (λ j. omega (arith, c.type_inv.words j)) c.row_start.ensures.is
