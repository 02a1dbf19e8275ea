use mathlib.Core.Path.{ap, ◌∙◌}
use lib.Count.{count_trailing_zeros, trailing_le}
use native.Mathlib.Omega.{arith}
use Rattle.masks.specs.Masks.{bits_of}
use Rattle.masks.proofs.Bits.{no_bits}
use Rattle.masks.proofs.Digits.{shl_one}
use Rattle.masks.proofs.Steps.{low_bit, low_step}
use Rattle.masks.proofs.group_mask.GroupMask.next.Goals as goal

pub returns-then-m-eq0 : goal.returns-then-m-eq0
returns-then-m-eq0 c = ap (bits_of 64) c.if-m-eq0.true ∙ no_bits 64 0

pub overflow_cast-at : goal.overflow_cast-at
overflow_cast-at c = omega (arith, trailing_le 64 c.args.self.0)

pub overflow_cast-result : goal.overflow_cast-result
overflow_cast-result c = omega (arith, trailing_le 64 c.args.self.0)

pub overflow_cast-result-2 : goal.overflow_cast-result-2
overflow_cast-result-2 c = omega (arith, trailing_le 64 c.args.self.0)

pub overflow_shl-result : goal.overflow_shl-result
overflow_shl-result c = (low_bit 64 0 c.args.self.0 (omega arith) (omega arith)).inside

pub overflow_sub-result : goal.overflow_sub-result
overflow_sub-result c = let s = low_bit 64 0 c.args.self.0 (omega arith) (omega arith) in
    rw (shl_one 64 (count_trailing_zeros 64 c.args.self.0) s.inside) s.fits

pub returns : goal.returns
returns c = low_step c.args.self.0 (omega arith) (omega arith)
