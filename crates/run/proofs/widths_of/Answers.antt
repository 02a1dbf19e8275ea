use mathlib.Core.Path.{refl}
use native.Mathlib.Omega.{arith}
use lib.ListN.{get_or}
use Rattle.model.proofs.Widths.{short}
use Rattle.words.specs.Offsets.{VALUE_WIDTH}
use Rattle.memory.specs.Meaning.{meaning}
use Rattle.memory.proofs.Frames.{long}
use Rattle.run.proofs.widths_of.Goals as goal

pub bounds-words-11 : goal.bounds-words-11
bounds-words-11 c = omega (arith, long c.args.words.now c.requires)

pub returns-then-words-eq-LONG_VALUE_BYTES : goal.returns-then-words-eq-LONG_VALUE_BYTES
unfolding meaning
returns-then-words-eq-LONG_VALUE_BYTES c = rw c.if-words-eq-LONG_VALUE_BYTES.true refl

pub returns : goal.returns
unfolding meaning
returns c = rw (short (get_or c.args.words.now VALUE_WIDTH 0) c.if-words-eq-LONG_VALUE_BYTES.false c.requires.limits.width) refl
