use native.Mathlib.Omega.{arith}
use native.Mathlib.Numerals.{towards_suc}
use lib.ListN.{length-set}
use mathlib.Core.Path.{refl, ◌∙◌}
use Rattle.command.proofs.answers.ack_number.Goals as goal

pub put-requires-clause-room : goal.put-requires-clause-room
put-requires-clause-room c = simp length-set (omega arith)

pub shape_of-out : goal.shape_of-out
shape_of-out c = c.put.auto.out ∙ simp length-set

pub returns : goal.returns
returns c = rw c.put.ensures (record { bytes = simp towards_suc; count = refl })
