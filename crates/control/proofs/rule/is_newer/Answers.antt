use native.Mathlib.Omega.{arith}
use Rattle.memory.proofs.Frames.{long}
use Rattle.control.proofs.Control.{newer_read}
use Rattle.control.proofs.rule.is_newer.Goals as goal

pub bounds-words-10 : goal.bounds-words-10
bounds-words-10 c = omega (arith, long c.args.words.now c.requires)

pub returns : goal.returns
returns c = newer_read c.args.words.now c.requires
