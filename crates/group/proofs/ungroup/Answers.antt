use mathlib.Core.Path.{ap, subst}
use mathlib.Core.List.{reverse}
use native.Mathlib.Omega.{arith}
use Rattle.masks.specs.Masks.{bits_of}
use Rattle.masks.specs.Walk.{HighStep, Highest}
use Rattle.memory.specs.Meaning.{meaning}
use Rattle.group.proofs.Storing.{shape_so_far}
use Rattle.group.proofs.Walking.{walking_start, down_asks, down_turn, down_end, falling, below_back}
use Rattle.group.proofs.ungroup.Goals as goal

pub loop-g-init : goal.loop-g-init
loop-g-init c =
    walking_start c.requires.arranged (below_back (bits_of 64 c.args.mask.0) (meaning c.args.words.now).storage c.requires.below) c.requires.ready_down

pub shape_of-words : goal.shape_of-words
shape_of-words c = c.loop-g.invariant.so_far.size

pub returns : goal.returns
returns c =
    let i = c.loop-g in
    down_end _ i.invariant (ap reverse (subst (Highest i.left.0) c.in_default.is c.highest.ensures))

pub overflow_cast-g : goal.overflow_cast-g
overflow_cast-g c =
    let top : HighStep c.loop-g.left.0 c.in-Some.g c.in-Some.rest.0 = subst (Highest c.loop-g.left.0) c.in-Some.is c.highest.ensures in
    omega (arith, top.inside)

pub ungroup_step-requires : goal.ungroup_step-requires
ungroup_step-requires c =
    let top : HighStep c.loop-g.left.0 c.in-Some.g c.in-Some.rest.0 = subst (Highest c.loop-g.left.0) c.in-Some.is c.highest.ensures in
    let i = c.loop-g in
    let asks = down_asks _ i.invariant (falling top) in
    record { arranged = i.invariant.so_far.arranged; shape_is = shape_so_far i.invariant.so_far c.requires.shape_is; g_bound = asks.0; ready_out = asks.1 }

pub loop-g-smaller : goal.loop-g-smaller
loop-g-smaller c =
    let top : HighStep c.loop-g.left.0 c.in-Some.g c.in-Some.rest.0 = subst (Highest c.loop-g.left.0) c.in-Some.is c.highest.ensures in
    top.less

pub loop-g-preserved : goal.loop-g-preserved
loop-g-preserved c =
    let top : HighStep c.loop-g.left.0 c.in-Some.g c.in-Some.rest.0 = subst (Highest c.loop-g.left.0) c.in-Some.is c.highest.ensures in
    let i = c.loop-g in
    down_turn _ i.invariant (falling top) c.ungroup_step.ensures
