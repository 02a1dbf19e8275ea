use mathlib.Core.Path.{sym, subst}
use Prim.Native.Nat.{ℕ, ◌+◌}
use native.Mathlib.Omega.{arith}
use Rattle.words.specs.Offsets.{TABLE}
use Rattle.kinds.specs.Steps.{InSlot}
use Rattle.kinds.proofs.Slot.{known_small, known_slot, header_long}
use Rattle.kinds.proofs.slot_of.Goals as goal

pub overflow_add-kind : goal.overflow_add-kind
overflow_add-kind c = omega (arith, known_small c.args.words.now c.requires.arranged c.args.kind c.requires.kind_known)

pub word-requires : goal.word-requires
word-requires c =
    header_long c.args.words.now c.requires.arranged (TABLE + c.args.kind) (omega (arith, known_small c.args.words.now c.requires.arranged c.args.kind c.requires.kind_known))

pub returns : goal.returns
returns c =
    subst (λ (r : ℕ). InSlot c.args.words.now c.args.kind r) (sym c.word.ensures.is) (known_slot c.args.words.now c.requires.arranged c.args.kind c.requires.kind_known)
