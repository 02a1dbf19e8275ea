use Rattle.masks.proofs.Bits.{bits_or}
use Rattle.masks.proofs.group_mask.GroupMask.union.Goals as goal

pub returns : goal.returns
returns c = bits_or 64 c.args.self.0 c.args.other.0
