use mathlib.Core.Path.{refl}
use native.Mathlib.Omega.{arith}
use Rattle.words.proofs.word.Goals as goal

pub overflow_cast-result : goal.overflow_cast-result
overflow_cast-result c = omega (arith, c.type_inv.words c.args.i)

pub returns : goal.returns
returns c = record { is = refl; small = omega (arith, c.type_inv.words c.args.i) }
