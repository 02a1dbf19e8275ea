use native.Mathlib.Omega.{arith}
use Rattle.memory.proofs.Frames.{long}
use Rattle.layout_apply.proofs.Words.{ends_ask, prepared}
use Rattle.layout_apply.proofs.prepare.Goals as goal

pub copy_block-requires : goal.copy_block-requires
copy_block-requires c = long c.args.words.now c.requires

pub number_groups-requires : goal.number_groups-requires
number_groups-requires c =
    ends_ask c.args.words.now c.requires c.copy_block.new.words c.copy_block.ensures c.word-families.result c.word-families.ensures.is

pub fill-requires-clause-inside : goal.fill-requires-clause-inside
fill-requires-clause-inside c = (omega arith, omega (arith, long c.args.words.now c.requires, c.copy_block.ensures.size, c.number_groups.ensures.size))

pub switch-requires : goal.switch-requires
switch-requires c =
    omega (arith, long c.args.words.now c.requires, c.copy_block.ensures.size, c.number_groups.ensures.size, c.fill.ensures.size)

pub returns : goal.returns
returns c =
    prepared c.args.words.now c.requires c.copy_block.new.words c.copy_block.ensures c.word-families.result c.number_groups.new.words c.fill.new.words c.switch.new.words c.word-families.ensures.is c.number_groups.ensures c.fill.ensures c.switch.ensures
