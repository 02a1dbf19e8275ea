use Rattle.masks.proofs.Bits.{no_bits}
use Rattle.masks.proofs.group_mask.GroupMask.empty.Goals as goal

pub returns : goal.returns
returns c = no_bits 64 0
