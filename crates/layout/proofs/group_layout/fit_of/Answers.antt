use mathlib.Core.Path.{◌∙◌, sym, ap, ap₂}
use Prim.Native.Nat.{ℕ, ◌+◌}
use mathlib.Core.List.{[]}
use lib.ListN.{get_or, drop}
use Rattle.words.specs.Part.{between}
use Rattle.layout.specs.Layout.{groups_from}
use Rattle.layout.specs.ByValue.{arrays_of, layout_meaning}
use Rattle.layout.specs.Fit.{part_of, join_fit, fit_from, FamilyAsk}
use Rattle.layout.specs.declared.group_layout.Fit.{Fit}
use Rattle.layout.proofs.Family.{start_next}
use Rattle.layout.proofs.Arrays.{bounds, family_ask, fit_step, fit_end}
use native.Mathlib.Omega.{arith}
use Rattle.layout.proofs.group_layout.fit_of.Goals as goal

pub slice_bounds-family-end : goal.slice_bounds-family-end
slice_bounds-family-end c = omega (arith, bounds _ c.requires.good c.requires.sized c.loop-f.f c.loop-f-test.true, c.loop-f.invariant)

pub slice_bounds-family-end-in-loop-f : goal.slice_bounds-family-end-in-loop-f
slice_bounds-family-end-in-loop-f c = omega (arith, bounds _ c.requires.good c.requires.sized c.loop-f.f c.loop-f-test.true, c.loop-f.invariant)

pub invariant_of-family : goal.invariant_of-family
invariant_of-family c =
    let p = c.requires in
    let l = c.loop-f in
    let a = c.args.l.now in
    let asked : FamilyAsk (between l.kind_start (get_or a.kind_ends l.f 0) a.kinds) (between l.group_start (get_or a.ends l.f 0) a.arities) c.args.staged.now =
    rw (l.invariant.1, l.invariant.2) (family_ask _ p.good p.sized _ p.staged l.f c.loop-f-test.true) in
    record { once = asked.kinds; rising = ∣ asked.rising ∣₁ }

pub loop-f-preserved : goal.loop-f-preserved
loop-f-preserved c =
    let a = c.args.l.now in
    let l = c.loop-f in
    let hs = c.args.staged.now in (
      omega arith,
      sym (start_next a.kind_ends l.f),
      sym (start_next a.ends l.f),
      l.invariant.3 ∙ fit_step (arrays_of a) hs l.f l.fit c.loop-f-test.true
          ∙ ap (λ (r : Fit). fit_from hs (l.f + 1) r (drop (l.f + 1) (layout_meaning a)))
          (sym (c.joined-fit.ensures ∙ ap (join_fit l.fit l.f) (c.part_of.ensures ∙ ap₂ (λ (k g : ℕ). part_of hs (groups_from [] 0 (between k (get_or a.kind_ends l.f 0) a.kinds) 0 (between g (get_or a.ends l.f 0) a.arities))) l.invariant.1 l.invariant.2))),
    )

pub returns : goal.returns
returns c =
    let l = c.loop-f in
    sym (l.invariant.3 ∙ fit_end (arrays_of c.args.l.now) c.args.staged.now l.f l.fit (omega arith))
