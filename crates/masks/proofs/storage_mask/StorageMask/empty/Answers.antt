use Rattle.masks.proofs.Bits.{no_bits}
use Rattle.masks.proofs.storage_mask.StorageMask.empty.Goals as goal

pub returns : goal.returns
returns c = no_bits 16 0
