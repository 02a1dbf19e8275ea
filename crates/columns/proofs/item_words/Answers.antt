use native.Mathlib.Omega.{arith}
use Rattle.words.specs.Offsets.{VALUE_WIDTH}
use Rattle.kinds.proofs.Slot.{header_long}
use Rattle.columns.proofs.Columns.{stride_item}
use Rattle.columns.proofs.item_words.Goals as goal

pub shape_of-z-requires-then-values : goal.shape_of-z-requires-then-values
shape_of-z-requires-then-values c = header_long c.args.words.now c.requires VALUE_WIDTH (omega arith)

pub returns-then-values : goal.returns-then-values
returns-then-values c = let a = c.args in stride_item a.words.now c.shape_of-z.result c.shape_of-z.ensures.is a.values c.if-values.true
