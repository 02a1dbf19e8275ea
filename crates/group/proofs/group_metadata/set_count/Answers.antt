use Prim.Native.Nat.{◌+◌, ◌<◌}
use native.Mathlib.Omega.{arith}
use Rattle.model.specs.Numbers.{MAX_GROUP_COUNT}
use Rattle.words.specs.Offsets.{GROUP_COUNTS}
use Rattle.kinds.proofs.Slot.{header_long}
use Rattle.group.proofs.InWords.{group_few, count_set}
use Rattle.group.proofs.group_metadata.set_count.Goals as goal

pub overflow_add-at : goal.overflow_add-at
overflow_add-at c =
    let few : c.args.g < MAX_GROUP_COUNT = group_few c.args.words.now c.requires.arranged c.args.g c.requires.g_bound in
    omega (arith, few)

pub offset_bounds-words-at : goal.offset_bounds-words-at
offset_bounds-words-at c =
    let few : c.args.g < MAX_GROUP_COUNT = group_few c.args.words.now c.requires.arranged c.args.g c.requires.g_bound in
    omega (arith, few)

pub bounds-words-at : goal.bounds-words-at
bounds-words-at c =
    let few : c.args.g < MAX_GROUP_COUNT = group_few c.args.words.now c.requires.arranged c.args.g c.requires.g_bound in
    header_long c.args.words.now c.requires.arranged (GROUP_COUNTS + c.args.g) (omega (arith, few))

pub returns : goal.returns
returns c = count_set c.args.words.now c.requires.arranged c.args.g c.requires.g_bound c.args.count
