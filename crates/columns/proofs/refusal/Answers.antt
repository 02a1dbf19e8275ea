use mathlib.Core.Path.{◌≡◌, sym, ap, ◌∙◌}
use mathlib.Core.Bool.{true, false}
use native.Mathlib.Omega.{arith}
use Rattle.model.specs.Store.{is_kind}
use Rattle.model.specs.Refusals.{number_of}
use Rattle.memory.specs.Meaning.{meaning}
use Rattle.columns.proofs.Columns.{column_large, column_unknown, column_turned, column_beyond, column_within}
use Rattle.columns.proofs.refusal.Goals as goal

pub returns-then-kind-gt-LAST_KIND : goal.returns-then-kind-gt-LAST_KIND
returns-then-kind-gt-LAST_KIND c =
    let a = c.args in
    sym (ap number_of (column_large a.kind a.start a.end (meaning a.words.now) c.if-kind-gt-LAST_KIND.true))

pub is_registered-requires : goal.is_registered-requires
is_registered-requires c = record { arranged = c.requires; kind_bound = omega (arith, c.if-kind-gt-LAST_KIND.false) }

pub returns-then-not-is_registered : goal.returns-then-not-is_registered
returns-then-not-is_registered c =
    let a = c.args in
    let u : is_kind a.kind (meaning a.words.now) ≡ false = sym c.is_registered.ensures ∙ c.if-not-is_registered.true in
    sym (ap number_of (column_unknown a.kind a.start a.end (meaning a.words.now) (omega (arith, c.if-kind-gt-LAST_KIND.false)) u))

pub returns-then-end-start : goal.returns-then-end-start
returns-then-end-start c =
    let a = c.args in
    let u : is_kind a.kind (meaning a.words.now) ≡ true = sym c.is_registered.ensures ∙ c.if-not-is_registered.false in
    sym (ap number_of (column_turned a.kind a.start a.end (meaning a.words.now) (omega (arith, c.if-kind-gt-LAST_KIND.false)) u c.if-end-start.true))

pub set_len-requires : goal.set_len-requires
set_len-requires c =
    record { arranged = c.requires; kind_known = sym c.is_registered.ensures ∙ c.if-not-is_registered.false }

pub returns-then-set_len-end : goal.returns-then-set_len-end
returns-then-set_len-end c =
    let a = c.args in
    let u : is_kind a.kind (meaning a.words.now) ≡ true = sym c.is_registered.ensures ∙ c.if-not-is_registered.false in
    sym (ap number_of (column_beyond a.kind a.start a.end (meaning a.words.now) (omega (arith, c.if-kind-gt-LAST_KIND.false)) u (omega (arith, c.if-end-start.false)) (omega (arith, c.set_len.ensures, c.if-set_len-end.true))))

pub returns : goal.returns
returns c =
    let a = c.args in
    let u : is_kind a.kind (meaning a.words.now) ≡ true = sym c.is_registered.ensures ∙ c.if-not-is_registered.false in
    sym (ap number_of (column_within a.kind a.start a.end (meaning a.words.now) (omega (arith, c.if-kind-gt-LAST_KIND.false)) u (omega (arith, c.if-end-start.false)) (omega (arith, c.set_len.ensures, c.if-set_len-end.false))))
