use mathlib.Core.Path.{subst}
use Prim.Native.Nat.{ℕ}
use native.Mathlib.Omega.{arith}
use Rattle.words.specs.Offsets.{LAYOUT_FAMILIES, LAYOUT_KIND_ENDS}
use Rattle.layout.specs.Reading.{ReadStart}
use Rattle.memory.proofs.Frames.{long}
use Rattle.kinds.proofs.Slot.{header_long}
use Rattle.group.proofs.Order.{width_is}
use Rattle.group_tables.proofs.fill.width.Goals as goal

pub word-families-requires : goal.word-families-requires
word-families-requires c = header_long c.args.words.now c.requires LAYOUT_FAMILIES (omega arith)

pub start_of-requires : goal.start_of-requires
start_of-requires c = omega (arith, long c.args.words.now c.requires, c.word-families.ensures.is, c.requires.layout.formed.few)

pub returns : goal.returns
returns c =
    let w = c.args.words.now in
    width_is w c.requires c.start_of.result (subst (λ (f : ℕ). ReadStart w LAYOUT_KIND_ENDS f c.start_of.result) c.word-families.ensures.is c.start_of.ensures)
