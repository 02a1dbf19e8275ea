use mathlib.Core.Path.{ap, ◌∙◌}
use Prim.Native.Nat.{zero-le}
use native.Mathlib.Nat.{sub-zero}
use native.Mathlib.Omega.{arith}
use Rattle.masks.specs.Masks.{bits_of, up_from}
use Rattle.memory.specs.Meaning.{meaning}
use Rattle.group.proofs.InWords.{groups_few}
use Rattle.layout_apply.proofs.Regrouping.{all_below, all_regrouped}
use Rattle.layout_apply.proofs.regroup.Goals as goal

pub from_to-mask-requires : goal.from_to-mask-requires
from_to-mask-requires c = record { rising = zero-le; inside = omega (arith, c.group_count-groups.ensures, groups_few c.args.words.now c.requires.arranged) }

pub group_each-requires-clause-below : goal.group_each-requires-clause-below
group_each-requires-clause-below c =
    all_below c.args.words.now (bits_of 64 c.from_to-mask.result.0) (c.from_to-mask.ensures ∙ ap (up_from 0) (sub-zero c.group_count-groups.result ∙ c.group_count-groups.ensures))

pub returns : goal.returns
returns c =
    let w = c.args.words.now in
    let ps = bits_of 64 c.from_to-mask.result.0 in
    let b = c.from_to-mask.ensures ∙ ap (up_from 0) (sub-zero c.group_count-groups.result ∙ c.group_count-groups.ensures) in
    all_regrouped w ps b (meaning w).entities.live c.group_each.new.words c.group_each.ensures
