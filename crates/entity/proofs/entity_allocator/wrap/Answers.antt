use mathlib.Core.Path.{sym}
use native.Mathlib.Omega.{arith}
use Rattle.entity.proofs.QueueLaws.{wrapped_low, wrapped_high}
use Rattle.entity.proofs.entity_allocator.wrap.Goals as goal

pub returns-then-k-n : goal.returns-then-k-n
returns-then-k-n c = (sym (wrapped_low c.args.n c.args.k c.if-k-n.true), omega arith)

pub returns-else-k-n : goal.returns-else-k-n
returns-else-k-n c = (sym (wrapped_high c.args.n c.args.k c.if-k-n.false), omega arith)
