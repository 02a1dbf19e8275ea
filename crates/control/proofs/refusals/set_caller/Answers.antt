use native.Mathlib.Omega.{arith}
use Rattle.memory.proofs.Frames.{long}
use Rattle.control.proofs.Control.{called_becomes}
use Rattle.control.proofs.refusals.set_caller.Goals as goal

pub bounds-words-9 : goal.bounds-words-9
bounds-words-9 c = omega (arith, long c.args.words.now c.requires.arranged)

pub returns : goal.returns
returns c = called_becomes c.args.words.now c.requires.arranged c.args.caller c.requires.caller_bound
