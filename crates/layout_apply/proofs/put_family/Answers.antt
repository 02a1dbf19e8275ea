use mathlib.Core.Path.{sym, ◌∙◌}
use Prim.Native.Nat.{◌<◌}
use native.Mathlib.Omega.{arith}
use lib.ListN.{get_or}
use Rattle.memory.specs.Meaning.{layout_arrays}
use Rattle.memory.proofs.LayoutWords.{start_word, end_word}
use Rattle.layout_apply.proofs.HeadSteps.{ready_kept, shape_same}
use Rattle.layout_apply.proofs.HeadLoops.{family_none, family_group, family_prior, family_upto, family_more, family_done}
use Rattle.layout_apply.proofs.put_family.Goals as goal

pub loop-g-init : goal.loop-g-init
loop-g-init c =
    let w = c.args.words.now in
    family_none w c.requires.heads_ready c.args.f c.requires.family_inside c.start_of-start.result (c.start_of-start.ensures.is ∙ sym (start_word w c.args.f (omega (arith, c.requires.heads_ready.formed.few, c.requires.family_inside)))) c.requires.upto

pub put_group-prior-requires : goal.put_group-prior-requires
put_group-prior-requires c =
    let l = c.loop-g in
    let w = c.args.words.now in
    let R = c.requires.heads_ready in
    let hf = c.requires.family_inside in
    let h : l.g < get_or (layout_arrays w).ends c.args.f 0 = omega (arith, c.word-end.ensures.is, end_word w c.args.f (omega (arith, c.requires.heads_ready.formed.few, hf)), c.loop-g-test.true) in record { heads_ready = ready_kept w l.words R l.invariant.headed.heads; shape_is = c.requires.shape_is ∙ sym (shape_same w l.words R l.invariant.headed.heads); in_family = family_group w R c.args.f hf l.words l.g l.prior l.invariant h; prior_is = family_prior w R c.args.f hf l.words l.g l.prior l.invariant h; upto = family_upto w R c.args.f hf l.words l.g l.prior l.invariant h }

pub loop-g-preserved : goal.loop-g-preserved
loop-g-preserved c =
    let l = c.loop-g in
    let w = c.args.words.now in
    let hf = c.requires.family_inside in
    let h : l.g < get_or (layout_arrays w).ends c.args.f 0 = omega (arith, c.word-end.ensures.is, end_word w c.args.f (omega (arith, c.requires.heads_ready.formed.few, hf)), c.loop-g-test.true) in
    family_more w c.requires.heads_ready c.args.f hf l.words l.g l.prior l.invariant h c.put_group-prior.new.words c.put_group-prior.result c.put_group-prior.ensures

pub returns : goal.returns
returns c =
    let l = c.loop-g in
    let w = c.args.words.now in
    let hf = c.requires.family_inside in
    family_done w c.requires.heads_ready c.args.f hf l.words l.g l.prior l.invariant
    (omega (arith, c.word-end.ensures.is, end_word w c.args.f (omega (arith, c.requires.heads_ready.formed.few, hf)), c.loop-g-test.false))
