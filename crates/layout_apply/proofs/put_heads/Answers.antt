use mathlib.Core.Path.{◌≡◌, sym, ◌∙◌, subst}
use Prim.Native.Nat.{ℕ}
use native.Mathlib.Omega.{arith}
use Rattle.layout.specs.Layout.{start_of}
use Rattle.memory.specs.Meaning.{layout_arrays}
use Rattle.layout_apply.specs.Heads.{HeadedUpto}
use Rattle.layout_apply.proofs.HeadSteps.{ready_kept, shape_same}
use Rattle.layout_apply.proofs.HeadLoops.{families_here, families_upto, families_more}
use Rattle.layout_apply.proofs.put_heads.Goals as goal

pub put_family-requires : goal.put_family-requires
put_family-requires c =
    let l = c.loop-f in
    let w = c.args.words.now in
    let R = c.requires.heads_ready in
    let H = l.invariant.1.heads in record { heads_ready = ready_kept w l.words R H; shape_is = c.requires.shape_is ∙ sym (shape_same w l.words R H); family_inside = families_here w R l.words l.f l.invariant.1 (omega (arith, c.word-families.ensures.is, c.loop-f-test.true)); upto = families_upto w R l.words l.f l.invariant.1 }

pub loop-f-preserved : goal.loop-f-preserved
loop-f-preserved c =
    let l = c.loop-f in
    (omega arith, families_more c.args.words.now c.requires.heads_ready l.words l.f l.invariant.1 c.put_family.new.words c.put_family.ensures)

pub returns : goal.returns
returns c =
    let l = c.loop-f in
    let w = c.args.words.now in
    let e : l.f ≡ (layout_arrays w).families = omega (arith, l.invariant.0, c.word-families.ensures.is, c.loop-f-test.false) in
    subst (λ (k : ℕ). HeadedUpto w l.words (start_of (layout_arrays w).kind_ends k)) e l.invariant.1
