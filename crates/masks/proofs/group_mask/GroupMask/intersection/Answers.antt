use Rattle.masks.proofs.Bits.{bits_and}
use Rattle.masks.proofs.group_mask.GroupMask.intersection.Goals as goal

pub returns : goal.returns
returns c = bits_and 64 c.args.self.0 c.args.other.0
