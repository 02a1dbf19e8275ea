use mathlib.Core.Path.{refl}
use native.Mathlib.Omega.{arith}
use Rattle.words.specs.Offsets.{CAPACITY, VALUE_WIDTH}
use Rattle.words.proofs.shape_of.Goals as goal

pub overflow_cast-result : goal.overflow_cast-result
overflow_cast-result c = omega (arith, c.type_inv.words CAPACITY)

pub overflow_cast-result-2 : goal.overflow_cast-result-2
overflow_cast-result-2 c = omega (arith, c.shared_slice_known-1.given VALUE_WIDTH)

pub returns : goal.returns
returns c = record { is = refl; small = omega (arith, c.shared_slice_known-1.given CAPACITY); narrow = omega (arith, c.shared_slice_known-1.given VALUE_WIDTH) }
