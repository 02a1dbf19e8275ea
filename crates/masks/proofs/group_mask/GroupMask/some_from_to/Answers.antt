use native.Mathlib.Omega.{arith}
use Rattle.masks.proofs.Bits.{bits_from_to}
use Rattle.masks.proofs.group_mask.GroupMask.some_from_to.Goals as goal

pub returns : goal.returns
returns c = bits_from_to 64 c.args.from c.args.to (record { rising = omega (arith, c.requires.0); inside = c.requires.1 })
