use native.Mathlib.Omega.{arith}
use Rattle.values.proofs.Places.{value_inside}
use Rattle.component.proofs.values_part.value_of.Goals as goal

pub get-requires : goal.get-requires
get-requires c = omega (arith, c.requires.0.size, value_inside c.args.z c.args.i c.requires.1)
