use lib.Dec.{lit≤}
use native.Mathlib.Omega.{arith}
use Rattle.memory.proofs.Frames.{long}
use Rattle.control.proofs.DraftWords.{draft_block, is_draft}
use Rattle.control.proofs.draft.draft.Goals as goal

pub word-families-requires : goal.word-families-requires
word-families-requires c = omega (arith, long c.args.words.now c.requires)

pub word-groups-requires : goal.word-groups-requires
word-groups-requires c = omega (arith, long c.args.words.now c.requires)

pub slice_bounds-read_layout-count : goal.slice_bounds-read_layout-count
slice_bounds-read_layout-count c = lit≤ tt

pub slice_bounds-read_layout-start : goal.slice_bounds-read_layout-start
slice_bounds-read_layout-start c = lit≤ tt

pub slice_bounds-read_layout-end : goal.slice_bounds-read_layout-end
slice_bounds-read_layout-end c = omega (arith, long c.args.words.now c.requires)

pub read_layout-requires : goal.read_layout-requires
read_layout-requires c =
    let f = c.word-families in
    let g = c.word-groups in
    draft_block c.args.words.now c.requires f.result g.result f.ensures g.ensures

pub returns : goal.returns
returns c =
    let f = c.word-families in
    is_draft c.args.words.now f.result c.word-groups.result f.ensures c.read_layout.result c.read_layout.ensures
