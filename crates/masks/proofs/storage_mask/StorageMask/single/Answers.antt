use Rattle.masks.proofs.Bits.{bits_single}
use Rattle.masks.proofs.storage_mask.StorageMask.single.Goals as goal

pub returns : goal.returns
returns c = bits_single 16 c.args.index c.requires
