use mathlib.Core.Path.{refl, subst}
use Rattle.masks.specs.Walk.{LowStep, Lowest}
use Rattle.group.proofs.Walking.{walking_start, up_asks, up_turn, up_less, up_end}
use Rattle.group.proofs.Kept.{step_same}
use Rattle.group.proofs.group_by.Goals as goal

pub loop-g-init : goal.loop-g-init
loop-g-init g c = (walking_start c.requires.arranged c.requires.below c.requires.ready_up, refl)

pub shape_of-words : goal.shape_of-words
shape_of-words g c = c.loop-g.invariant.0.so_far.size

pub returns : goal.returns
returns g c = up_end _ c.loop-g.invariant.0 (subst (Lowest c.loop-g.left.0) c.in_default.is c.next.ensures)

pub group_step-left-requires : goal.group_step-left-requires
group_step-left-requires g c =
    let lowest : LowStep c.loop-g.left.0 c.in-Some.g c.in-Some.rest.0 = subst (Lowest c.loop-g.left.0) c.in-Some.is c.next.ensures in
    let i = c.loop-g in
    let q = up_asks _ i.invariant.0 lowest in
    record {
      arranged = i.invariant.0.so_far.arranged;
      lookups = g.met.L.Lookups.kept c.args.lookups c.args.words.now i.words c.requires.arranged i.invariant.0.so_far i.invariant.1 c.requires.lookups;
      g_bound = q.0;
      ready_in = q.1;
      covered = c.requires.covered;
    }

pub loop-g-smaller : goal.loop-g-smaller
loop-g-smaller g c =
    let lowest : LowStep c.loop-g.left.0 c.in-Some.g c.in-Some.rest.0 = subst (Lowest c.loop-g.left.0) c.in-Some.is c.next.ensures in
    up_less _ c.loop-g.invariant.0 lowest c.group_step-left.ensures

pub loop-g-preserved : goal.loop-g-preserved
loop-g-preserved g c =
    let lowest : LowStep c.loop-g.left.0 c.in-Some.g c.in-Some.rest.0 = subst (Lowest c.loop-g.left.0) c.in-Some.is c.next.ensures in
    let i = c.loop-g in
    let S = c.group_step-left in
    (up_turn _ i.invariant.0 lowest S.ensures, step_same c.args.words.now i.words S.new.words i.invariant.1 S.ensures)
