use native.Mathlib.Omega.{arith}
use Rattle.component.proofs.Parts.{lent}
use Rattle.component.proofs.slots.clear_all.Goals as goal

pub clear_in-requires : goal.clear_in-requires
clear_in-requires c = lent c.args.z c.args.m c.loop-slot.slot c.loop-slot.words c.loop-slot.invariant.columns (omega arith)
