use native.Mathlib.Omega.{arith}
use lib.ListN.{length-set}
use Rattle.memory.proofs.Frames.{long}
use Rattle.control.proofs.DraftWords.{draft_becomes}
use Rattle.control.proofs.draft.set_draft.Goals as goal

pub bounds-words-5 : goal.bounds-words-5
bounds-words-5 c = omega (arith, long c.args.words.now c.requires.arranged)

pub bounds-words-6 : goal.bounds-words-6
bounds-words-6 c = simp length-set (omega (arith, long c.args.words.now c.requires.arranged))

pub slice_bounds-write_layout-end : goal.slice_bounds-write_layout-end
slice_bounds-write_layout-end c = simp length-set (omega (arith, long c.args.words.now c.requires.arranged))

pub shape_of-words : goal.shape_of-words
shape_of-words c =
    let r = c.write_layout in
    (draft_becomes c.args.words.now c.requires.arranged c.args.l r.new.block r.ensures).size

pub returns : goal.returns
returns c =
    let r = c.write_layout in
    draft_becomes c.args.words.now c.requires.arranged c.args.l r.new.block r.ensures
