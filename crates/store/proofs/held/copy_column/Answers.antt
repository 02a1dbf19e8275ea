use mathlib.Core.Path.{refl, ap}
use native.Mathlib.Omega.{arith}
use Rattle.model.specs.Codes.{refusal_code}
use Rattle.columns.specs.Refused.{refusal_number}
use Rattle.columns.proofs.Refused.{code_least}
use Rattle.store.proofs.Handing.{Given, given_of}
use Rattle.store.proofs.Linking.{numbered_copy, short_copy, whole_copy}
use Rattle.store.proofs.held.copy_column.Goals as goal

pub column_number-requires : goal.column_number-requires
column_number-requires c = c.requires

pub returns-in-Some : goal.returns-in-Some
returns-in-Some c =
    let a = c.args in
    rw c.from.ensures
    (numbered_copy a.words.now a.out.now a.values a.kind a.start a.end (refusal_code c.in-Some.refusal) (rw c.in-Some.is at c.column_number.ensures) (λ z. omega (arith, z, code_least c.in-Some.refusal)))

pub rows-part-requires : goal.rows-part-requires
rows-part-requires c =
    let a = c.args in
    let G : Given a.words.now a.kind a.start a.end = given_of a.words.now a.kind a.start a.end (refusal_number c.column_number.result) c.column_number.ensures (ap refusal_number c.in_default.is) in
    record { arranged = G.sound.arranged; accepted = G.taken }

pub returns-then-out-count : goal.returns-then-out-count
returns-then-out-count c =
    let a = c.args in
    let G : Given a.words.now a.kind a.start a.end = given_of a.words.now a.kind a.start a.end (refusal_number c.column_number.result) c.column_number.ensures (ap refusal_number c.in_default.is) in
    rw c.from-then-out-count.ensures (short_copy a.words c.rows-part.result a.out.now a.values a.kind a.start a.end G c.rows-part.ensures c.if-out-count.true)

pub returns : goal.returns
returns c =
    let a = c.args in
    let G : Given a.words.now a.kind a.start a.end = given_of a.words.now a.kind a.start a.end (refusal_number c.column_number.result) c.column_number.ensures (ap refusal_number c.in_default.is) in
    whole_copy a.words c.rows-part.result a.out.now a.values a.kind a.start a.end G c.rows-part.ensures c.copy.new.to _ (omega (arith, c.if-out-count.false)) refl c.copy.ensures
