use native.Mathlib.Omega.{arith}
use Rattle.masks.proofs.Bits.{bits_empty}
use Rattle.masks.proofs.group_mask.GroupMask.from_to.Goals as goal

pub returns-then-from-to : goal.returns-then-from-to
returns-then-from-to c = bits_empty 64 c.args.from c.args.to (omega (arith, c.if-from-to.true))
