use mathlib.Core.Path.{refl, ◌∙◌}
use Prim.Native.Nat.{ℕ, ◌-◌, ◌<◌}
use native.Mathlib.Omega.{arith}
use lib.ListN.{length}
use borrow.Author.Rules.{rules}
use borrow.Author.Tests.{tests}
use Rattle.std.proofs.lemmas.Iterator.{YieldsList-from_range, serves_from_Range}
use Rattle.std.proofs.lemmas.Iterator.Search.{all_from_yields_List}
use Rattle.model.specs.Model.{held, entity}
use Rattle.kinds.specs.Kinds.{kind_set}
use Rattle.memory.specs.Meaning.{meaning}
use Rattle.group.specs.Metadata.{order_of}
use Rattle.group.specs.Places.{kind_no}
use Rattle.group.proofs.Status.{all_places}
use Rattle.group.proofs.group_status.holds_all.Goals as goal

pub all-requires-clause-callable : goal.all-requires-clause-callable
all-requires-clause-callable g c =
    let a = c.args in
    serves_from_Range (λ x q k. search rules) (λ x from below. let within : x < length (order_of (meaning a.words.now)) = omega (arith, below, c.requires.places_known.within) in search rules)

pub returns : goal.returns
returns g c =
    let a = c.args in
    let e = entity a.e.index a.e.version in
    all_from_yields_List (λ (p : ℕ). held e (kind_set a.words.now (kind_no a.words.now p))) _ _ c.all.result c.all.ensures.ran (YieldsList-from_range a.start a.end (a.end - a.start) (cc) refl) (λ x b q k. search (rules, tests))
    ∙ all_places e a.start a.end (a.end - a.start) c.requires.places_known refl
