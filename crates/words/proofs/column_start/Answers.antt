use native.Mathlib.Nat.{mul-le-mul}
use native.Mathlib.Omega.{arith}
use Rattle.words.specs.Shape.{column_start}
use Rattle.words.proofs.Offsets.{column_start_fits}
use Rattle.words.proofs.column_start.Goals as goal

pub overflow_mul-result-2 : goal.overflow_mul-result-2
overflow_mul-result-2 c = omega (arith, mul-le-mul c.requires.1 c.column_len-len.ensures.small)

pub overflow_add-result-2 : goal.overflow_add-result-2
overflow_add-result-2 c = omega (arith, mul-le-mul c.requires.1 c.column_len-len.ensures.small, c.requires.0.small)

pub returns : goal.returns
unfolding column_start
returns c =
    let e = c.column_len-len.ensures.is in
    record { is = rw e; small = rw e (column_start_fits c.args.z c.args.s c.requires.0 c.requires.1) }
