use native.Mathlib.Omega.{arith}
use Rattle.layout_apply.proofs.Words.{spans, number_more}
use Rattle.layout_apply.proofs.number_groups.Goals as goal

pub fill-requires-clause-inside : goal.fill-requires-clause-inside
fill-requires-clause-inside c =
    let S = spans c.args.words.now c.loop-f.words c.args.families c.loop-f.f c.start_of-start.result c.word-end.result c.requires c.loop-f-test.true c.loop-f.invariant.1 c.start_of-start.ensures.is c.word-end.ensures.is in
    (omega (arith, S.order), omega (arith, S.most, S.long))

pub loop-f-preserved : goal.loop-f-preserved
loop-f-preserved c =
    let S = spans c.args.words.now c.loop-f.words c.args.families c.loop-f.f c.start_of-start.result c.word-end.result c.requires c.loop-f-test.true c.loop-f.invariant.1 c.start_of-start.ensures.is c.word-end.ensures.is in
    (omega arith, number_more c.args.words.now c.loop-f.words c.fill.new.words c.args.families c.loop-f.f c.start_of-start.result c.word-end.result c.requires c.loop-f-test.true c.loop-f.invariant.1 S c.fill.ensures)
