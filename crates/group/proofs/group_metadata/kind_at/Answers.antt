use Prim.Native.Nat.{◌+◌}
use mathlib.Core.Path.{sym, ◌∙◌}
use native.Mathlib.Omega.{arith}
use Rattle.words.specs.Offsets.{LAYOUT}
use Rattle.kinds.proofs.Slot.{header_long}
use Rattle.group.proofs.InWords.{order_wide, order_at}
use Rattle.group.proofs.group_metadata.kind_at.Goals as goal

pub overflow_add-place : goal.overflow_add-place
overflow_add-place c = omega (arith, order_wide c.args.words.now c.requires.arranged, c.requires.place_in_bounds)

pub word-requires : goal.word-requires
word-requires c =
    header_long c.args.words.now c.requires.arranged (LAYOUT + c.args.place) (omega (arith, order_wide c.args.words.now c.requires.arranged, c.requires.place_in_bounds))

pub returns : goal.returns
returns c = c.word.ensures.is ∙ sym (order_at c.args.words.now c.requires.arranged c.args.place c.requires.place_in_bounds)
