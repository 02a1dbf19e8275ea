use native.Mathlib.Omega.{arith}
use Rattle.memory.proofs.Frames.{long}
use Rattle.control.proofs.EntityPart.{capacity_is}
use Rattle.control.proofs.entities.capacity.Goals as goal

pub word-requires : goal.word-requires
word-requires c = omega (arith, long c.args.words.now c.requires)

pub returns : goal.returns
returns c = capacity_is c.args.words.now c.requires c.word.result c.word.ensures
