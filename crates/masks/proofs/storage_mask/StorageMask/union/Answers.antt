use Rattle.masks.proofs.Bits.{bits_or}
use Rattle.masks.proofs.storage_mask.StorageMask.union.Goals as goal

pub returns : goal.returns
returns c = bits_or 16 c.args.self.0 c.args.other.0
