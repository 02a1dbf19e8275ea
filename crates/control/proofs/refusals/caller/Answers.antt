use native.Mathlib.Omega.{arith}
use Rattle.memory.proofs.Frames.{long}
use Rattle.control.proofs.Control.{caller_read}
use Rattle.control.proofs.refusals.caller.Goals as goal

pub bounds-words-9 : goal.bounds-words-9
bounds-words-9 c = omega (arith, long c.args.words.now c.requires)

pub returns : goal.returns
returns c = caller_read c.args.words.now c.requires
