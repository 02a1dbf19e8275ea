use mathlib.Core.Path.{refl}
use Rattle.layout_block.proofs.Transfer
use Rattle.layout_block.proofs.read_layout.Goals as goal

pub fetch-requires : goal.fetch-requires
fetch-requires c = let n = c.args.families in let w = c.args.block.now in Transfer.kinds_ask w n c.args.groups c.start_of-width.result c.requires c.start_of-width.ensures.is _ refl

pub fetch-requires-2 : goal.fetch-requires-2
fetch-requires-2 c = let n = c.args.families in let w = c.args.block.now in Transfer.arities_ask w n c.args.groups c.start_of-width.result c.requires c.start_of-width.ensures.is _ refl

pub fetch-requires-3 : goal.fetch-requires-3
fetch-requires-3 c = let n = c.args.families in let w = c.args.block.now in Transfer.kind_ends_ask w n c.args.groups c.start_of-width.result c.requires c.start_of-width.ensures.is _ refl

pub fetch-requires-4 : goal.fetch-requires-4
fetch-requires-4 c = let n = c.args.families in let w = c.args.block.now in Transfer.ends_ask w n c.args.groups c.start_of-width.result c.requires c.start_of-width.ensures.is _ refl

pub returns : goal.returns
returns c = let n = c.args.families in let w = c.args.block.now in Transfer.read_done w n c.args.groups c.start_of-width.result c.requires c.start_of-width.ensures.is _ _ _ _ _ _ _ _ refl refl refl refl c.fetch.ensures c.fetch-2.ensures c.fetch-3.ensures c.fetch-4.ensures
