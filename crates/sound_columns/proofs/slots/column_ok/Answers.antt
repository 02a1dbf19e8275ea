use mathlib.Core.Logic.{inl, inr}
use native.Mathlib.Omega.{arith}
use borrow.Author.Rules.{rules}
use borrow.Author.Tests.{tests}
use Rattle.words.proofs.Decides.{decides_on}
use Rattle.sound_columns.specs.Rows.{ColumnOk}
use Rattle.sound_columns.proofs.Checking.{column_live, column_vacant}
use Rattle.sound_columns.proofs.slots.column_ok.Goals as goal

pub returns-then-rows-eq0 : goal.returns-then-rows-eq0
returns-then-rows-eq0 c =
    let a = c.args in
    let b = c.column_start-base in
    let m = c.column_len in
    decides_on _ (column_live a.z a.registered a.s b.result m.result a.words.now b.ensures.is m.ensures.is (λ h. elim c.if-rows-eq0.either [ inl l ↦ absurd (omega arith) | inr r ↦ r.1 ])) c.is_sound.ensures

pub returns-else-rows-eq0 : goal.returns-else-rows-eq0
returns-else-rows-eq0 c =
    let a = c.args in
    let b = c.column_start-base in
    let m = c.column_len in
    let no : ColumnOk a.z a.registered a.words.now a.s → ⊥ = λ C. c.if-rows-eq0.false.1 (column_vacant a.z a.registered a.s b.result m.result a.words.now b.ensures.is m.ensures.is C c.if-rows-eq0.false.0) in
    search (rules, tests)
