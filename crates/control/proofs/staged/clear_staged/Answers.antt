use native.Mathlib.Omega.{arith}
use Rattle.memory.proofs.Frames.{long}
use Rattle.control.proofs.Control.{clear_staged_becomes}
use Rattle.control.proofs.staged.clear_staged.Goals as goal

pub bounds-words-3 : goal.bounds-words-3
bounds-words-3 c = omega (arith, long c.args.words.now c.requires)

pub returns : goal.returns
returns c = clear_staged_becomes c.args.words.now c.requires
