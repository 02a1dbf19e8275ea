use native.Mathlib.Omega.{arith}
use Rattle.masks.proofs.Bits.{bits_skip}
use Rattle.masks.proofs.group_mask.GroupMask.skip_from_to.Goals as goal

pub returns : goal.returns
returns c = bits_skip 64 c.from_to-m.result.0 c.args.from c.args.to (omega (arith, c.struct_known-1.given)) c.requires c.from_to-m.ensures
