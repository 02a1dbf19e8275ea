use Prim.Native.Nat.{◌+◌, ◌<◌}
use native.Mathlib.Omega.{arith}
use mathlib.Core.Path.{◌∙◌}
use Rattle.model.specs.Numbers.{MAX_GROUP_COUNT}
use Rattle.words.specs.Offsets.{GROUP_COUNTS}
use Rattle.kinds.proofs.Slot.{header_long}
use Rattle.group.proofs.InWords.{group_few, count_words}
use Rattle.group.proofs.group_metadata.count.Goals as goal

pub overflow_add-g : goal.overflow_add-g
overflow_add-g c =
    let few : c.args.g < MAX_GROUP_COUNT = group_few c.args.words.now c.requires.arranged c.args.g c.requires.g_bound in
    omega (arith, few)

pub word-requires : goal.word-requires
word-requires c =
    let few : c.args.g < MAX_GROUP_COUNT = group_few c.args.words.now c.requires.arranged c.args.g c.requires.g_bound in
    header_long c.args.words.now c.requires.arranged (GROUP_COUNTS + c.args.g) (omega (arith, few))

pub returns : goal.returns
returns c = c.word.ensures.is ∙ count_words c.args.words.now c.requires.arranged c.args.g c.requires.g_bound
