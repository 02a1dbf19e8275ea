use native.Mathlib.Omega.{arith}
use lib.ListN.{length-set}
use Rattle.kinds.proofs.put_head.Goals as goal

pub bounds-words-base-2 : goal.bounds-words-base-2
bounds-words-base-2 c = simp length-set (omega arith)

pub bounds-words-base-3 : goal.bounds-words-base-3
bounds-words-base-3 c = simp length-set (omega arith)

pub returns : goal.returns
returns c = rw c.column_start-base.ensures.is
