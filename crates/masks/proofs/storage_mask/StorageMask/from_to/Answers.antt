use native.Mathlib.Omega.{arith}
use Rattle.masks.proofs.Bits.{bits_empty, bits_from_to}
use Rattle.masks.proofs.storage_mask.StorageMask.from_to.Goals as goal

pub returns-then-from-to : goal.returns-then-from-to
returns-then-from-to c = bits_empty 16 c.args.from c.args.to (omega (arith, c.if-from-to.true))

pub returns : goal.returns
returns c = bits_from_to 16 c.args.from c.args.to c.requires
