use Prim.Native.Nat.{◌+◌}
use native.Mathlib.Omega.{arith}
use Rattle.words.specs.Offsets.{GROUP_FAMILIES}
use Rattle.memory.proofs.Frames.{long}
use Rattle.kinds.proofs.Slot.{header_long}
use Rattle.group.proofs.InWords.{group_few, family_few, read_describes}
use Rattle.group.proofs.group_metadata.metadata.Goals as goal

pub overflow_add-g : goal.overflow_add-g
overflow_add-g c = omega (arith, group_few c.args.words.now c.requires.arranged c.args.g c.requires.g_bound)

pub word-f-requires : goal.word-f-requires
word-f-requires c = header_long c.args.words.now c.requires.arranged (GROUP_FAMILIES + c.args.g) (omega (arith, group_few c.args.words.now c.requires.arranged c.args.g c.requires.g_bound))

pub read-requires : goal.read-requires
read-requires c =
    let w = c.args.words.now in
    (long w c.requires.arranged, omega (arith, group_few w c.requires.arranged c.args.g c.requires.g_bound), omega (arith, c.word-f.ensures.is, family_few w c.requires.arranged c.args.g c.requires.g_bound))

pub returns : goal.returns
returns c =
    read_describes c.args.words.now c.requires.arranged c.args.g c.requires.g_bound c.word-f.result c.read.result c.word-f.ensures c.read.ensures
