use mathlib.Core.Path.{refl}
use native.Mathlib.Omega.{arith}
use Rattle.words.specs.Shape.{values_len}
use Rattle.words.proofs.Offsets.{words_fit}
use Rattle.words.proofs.value_place.Goals as goal

pub overflow_mul-result-2 : goal.overflow_mul-result-2
overflow_mul-result-2 c = omega (arith, words_fit c.args.z c.args.i c.requires.0 c.requires.1)

pub overflow_add-result-2 : goal.overflow_add-result-2
overflow_add-result-2 c = omega (arith, words_fit c.args.z c.args.i c.requires.0 c.requires.1, c.requires.0.small)

pub returns : goal.returns
unfolding values_len
returns c = record { is = refl; small = omega (arith, words_fit c.args.z c.args.i c.requires.0 c.requires.1, c.requires.0.small) }
