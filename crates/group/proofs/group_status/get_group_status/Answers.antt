use mathlib.Core.Path.{refl, sym, ◌∙◌}
use native.Mathlib.Omega.{arith}
use Rattle.model.specs.Model.{entity}
use Rattle.words.specs.Shape.{shape_of}
use Rattle.group.proofs.Status.{status_first, status_others, status_in_law, status_out, listed_later}
use Rattle.group.proofs.group_status.get_group_status.Goals as goal

pub returns-in_default : goal.returns-in_default
returns-in_default g c =
    let a = c.args in
    status_first (entity a.e.index a.e.version) a.group_len c.requires.start_lt_end c.requires.places_known (shape_of a.words.now) refl c.find-found.ensures c.in_default.is

pub holds_all-requires-clause-places_known : goal.holds_all-requires-clause-places_known
holds_all-requires-clause-places_known g c = listed_later (omega arith) (omega (arith, c.requires.start_lt_end)) c.requires.places_known

pub returns-then-not-holds_all : goal.returns-then-not-holds_all
returns-then-not-holds_all g c =
    let a = c.args in
    status_others (entity a.e.index a.e.version) a.group_len c.requires.start_lt_end c.requires.places_known (sym c.holds_all.ensures ∙ c.if-not-holds_all.true)

pub returns-then-place-group_len : goal.returns-then-place-group_len
returns-then-place-group_len g c =
    let a = c.args in
    status_in_law (entity a.e.index a.e.version) a.group_len c.requires.start_lt_end c.requires.places_known (shape_of a.words.now) refl c.find-found.ensures
    c.in-At.is (sym c.holds_all.ensures ∙ c.if-not-holds_all.false) (omega (arith, c.if-place-group_len.true))

pub returns : goal.returns
returns g c =
    let a = c.args in
    status_out (entity a.e.index a.e.version) a.group_len c.requires.start_lt_end c.requires.places_known (shape_of a.words.now) refl c.find-found.ensures
    c.in-At.is (sym c.holds_all.ensures ∙ c.if-not-holds_all.false) (omega (arith, c.if-place-group_len.false))
