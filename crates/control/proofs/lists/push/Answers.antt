use native.Mathlib.Omega.{arith}
use lib.ListN.{length-set}
use Rattle.memory.proofs.Frames.{long}
use Rattle.control.proofs.lists.push.Goals as goal

pub bounds-words-LEN_AT : goal.bounds-words-LEN_AT
bounds-words-LEN_AT g c =
    let kept = g.L.KindsInWords.kept in
    omega (arith, c.LEN_AT.ensures, kept.before, kept.inside, long c.args.words.now c.requires.arranged)

pub bounds-words-KINDS_AT : goal.bounds-words-KINDS_AT
bounds-words-KINDS_AT g c =
    let kept = g.L.KindsInWords.kept in
    simp length-set (omega (arith, c.KINDS_AT.ensures, c.len-place.ensures.is, c.requires.room, kept.inside, long c.args.words.now c.requires.arranged))
