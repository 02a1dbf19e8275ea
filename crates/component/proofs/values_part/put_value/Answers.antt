use native.Mathlib.Omega.{arith}
use Rattle.values.proofs.Places.{value_inside}
use Rattle.component.proofs.Valued.{puts_value}
use Rattle.component.proofs.values_part.put_value.Goals as goal

pub put-requires : goal.put-requires
put-requires c = omega (arith, c.requires.0.size, value_inside c.args.z c.args.i c.requires.1)

pub returns : goal.returns
returns c =
    let a = c.args in
    puts_value a.z a.part.now c.put.new.words a.i c.value_place-v.result a.x c.requires.0 c.requires.1 c.value_place-v.ensures.is c.put.auto.words (rw c.width.ensures at c.put.ensures)
