use native.Mathlib.Omega.{arith}
use Rattle.words.specs.Offsets.{REGISTERED, VALUE_WIDTH}
use Rattle.kinds.proofs.Slot.{header_long}
use Rattle.kinds.proofs.Clear.{clears, cleared}
use Rattle.kinds.proofs.clear_sets.Goals as goal

pub shape_of-z-requires : goal.shape_of-z-requires
shape_of-z-requires c = header_long c.args.words.now c.requires VALUE_WIDTH (omega arith)

pub word-m-requires : goal.word-m-requires
word-m-requires c = header_long c.args.words.now c.requires REGISTERED (omega arith)

pub clear_all-requires : goal.clear_all-requires
clear_all-requires c =
    clears c.args.words.now c.shape_of-z.result c.word-m.result c.requires c.shape_of-z.ensures.is c.word-m.ensures.is

pub returns : goal.returns
returns c =
    cleared c.args.words.now c.clear_all.new.words c.shape_of-z.result c.word-m.result c.requires c.shape_of-z.ensures.is c.word-m.ensures.is c.clear_all.ensures
