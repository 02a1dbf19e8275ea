use native.Mathlib.Omega.{arith}
use lib.ListN.{length-set}
use Rattle.memory.proofs.Frames.{long}
use Rattle.control.proofs.Control.{clear_lists_becomes}
use Rattle.control.proofs.staged.clear_lists.Goals as goal

pub bounds-words-3 : goal.bounds-words-3
bounds-words-3 c = omega (arith, long c.args.words.now c.requires)

pub bounds-words-4 : goal.bounds-words-4
bounds-words-4 c = simp length-set (omega (arith, long c.args.words.now c.requires))

pub returns : goal.returns
returns c = clear_lists_becomes c.args.words.now c.requires
