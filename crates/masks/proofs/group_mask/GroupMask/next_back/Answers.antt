use mathlib.Core.Path.{ap, ◌∙◌}
use native.Mathlib.Omega.{arith}
use Rattle.masks.specs.Masks.{bits_of}
use Rattle.masks.proofs.Bits.{no_bits}
use Rattle.masks.proofs.Digits.{shl_one}
use Rattle.masks.proofs.Steps.{top, high_step}
use Rattle.masks.proofs.group_mask.GroupMask.next_back.Goals as goal

pub returns-then-m-eq0 : goal.returns-then-m-eq0
returns-then-m-eq0 c = ap (bits_of 64) c.if-m-eq0.true ∙ no_bits 64 0

pub overflow_sub-at : goal.overflow_sub-at
overflow_sub-at c = (top c.args.self.0 (omega arith) (omega arith)).1.lead

pub overflow_sub-result : goal.overflow_sub-result
overflow_sub-result c = let s = top c.args.self.0 (omega arith) (omega arith) in
    rw (s.1.place, shl_one 64 s.0 s.1.inside) s.1.fits

pub returns : goal.returns
returns c = high_step c.args.self.0 (omega arith) (omega arith)
