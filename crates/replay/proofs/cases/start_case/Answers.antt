use Prim.Native.Nat.{◌+◌}
use native.Mathlib.Omega.{arith}
use Rattle.replay.proofs.cases.start_case.Goals as goal

pub overflow_cast-k : goal.overflow_cast-k
overflow_cast-k c = omega (arith, c.type_inv.file (c.args.at + 2))

pub overflow_cast-width : goal.overflow_cast-width
overflow_cast-width c = omega (arith, c.type_inv.file (c.args.at + 3))

pub returns : goal.returns
returns c = rw (← c.short_at-n.ensures.0) c.start_with.ensures
