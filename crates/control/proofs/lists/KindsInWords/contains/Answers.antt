use Rattle.std.proofs.Common.{◌∙◌, rules, tests}
use Rattle.std.proofs.lemmas.Iterator.{YieldsList-from_slice}
use Rattle.std.proofs.lemmas.Iterator.Search.{any_from_yields_List}
use mathlib.Core.Path.{◌≡◌, sym, ap}
use Prim.Native.Nat.{◌+◌}
use native.Mathlib.Omega.{arith}
use lib.Dec.{eqb}
use Rattle.model.specs.Model.{mem}
use Rattle.model.proofs.Members.{any_is_mem}
use Rattle.words.specs.Part.{between}
use Rattle.memory.specs.Meaning.{meaning}
use Rattle.memory.proofs.Frames.{long}
use Rattle.control.proofs.lists.KindsInWords.contains.Goals as goal

pub slice_bounds-iter-end : goal.slice_bounds-iter-end
slice_bounds-iter-end g c =
    omega (arith, c.KINDS_AT.ensures, c.len.ensures.few, g.Self.KindsInWords.kept.inside, long c.args.words.now c.requires)

pub returns : goal.returns
returns g c =
    let w = c.args.words.now in
    let k = c.args.kind in
    let kept = g.Self.KindsInWords.kept in
    let listed = between c.KINDS_AT-2.result (c.KINDS_AT.result + c.len.result) w in
    let is : listed ≡ g.Self.KindsInWords.kinds (meaning w) = rw (c.KINDS_AT-2.ensures, c.KINDS_AT.ensures, c.len.ensures.is, kept.counted w c.requires) (sym (kept.read w c.requires)) in
    any_from_yields_List (λ j. eqb j k) _ _ _ c.any.ensures.ran (YieldsList-from_slice listed cc) (λ x b q h. search (rules, tests)) ∙ any_is_mem k listed ∙ ap (mem k) is
