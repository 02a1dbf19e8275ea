use native.Mathlib.Omega.{arith}
use Rattle.memory.proofs.KindLists.{excluded_length}
use Rattle.control.proofs.Control.{exclude_becomes}
use Rattle.control.proofs.excluded.exclude.Goals as goal

pub returns : goal.returns
returns c =
    let w = c.args.words.now in
    rw (c.push.ensures.stored, c.push.ensures.place) (exclude_becomes w c.requires.arranged c.args.kind (omega (arith, excluded_length w, c.requires.room)))
