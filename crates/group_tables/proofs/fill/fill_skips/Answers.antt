use mathlib.Core.Path.{ap, ◌∙◌}
use Prim.Native.Nat.{◌<◌, ◌≤◌}
use native.Mathlib.Omega.{arith}
use Rattle.model.specs.Numbers.{MAX_GROUP_COUNT}
use Rattle.model.specs.Model.{groups_of}
use Rattle.masks.specs.Masks.{skipping}
use Rattle.memory.specs.Meaning.{meaning}
use Rattle.group.proofs.InWords.{groups_few}
use Rattle.group.proofs.Stepping.{skip_ordered}
use Rattle.group_tables.proofs.Filling.{skipping_room, skipping_turn, skipping_end}
use Rattle.group_tables.proofs.fill.fill_skips.Goals as goal

pub skip_from_to-requires : goal.skip_from_to-requires
skip_from_to-requires c =
    let d = c.metadata-metadata in
    skip_ordered (meaning c.args.words.now) c.loop-g.g d.result (omega (arith, c.group_count-count.ensures, c.loop-g-test.true)) d.ensures

pub offset_bounds-skips-g : goal.offset_bounds-skips-g
offset_bounds-skips-g c =
    let h : c.loop-g.g < groups_of (meaning c.args.words.now).storage.layout = omega (arith, c.group_count-count.ensures, c.loop-g-test.true) in
    let few : groups_of (meaning c.args.words.now).storage.layout ≤ MAX_GROUP_COUNT = groups_few c.args.words.now c.requires.arranged in
    omega arith

pub bounds-skips-g : goal.bounds-skips-g
bounds-skips-g c =
    let a = c.args in
    let l = c.loop-g in
    skipping_room a.words.now c.requires.arranged a.skips.now c.requires.in_bounds l.skips l.g l.invariant (omega (arith, c.group_count-count.ensures, c.loop-g-test.true))

pub loop-g-preserved : goal.loop-g-preserved
loop-g-preserved c =
    let a = c.args in
    let l = c.loop-g in
    let d = c.metadata-metadata in
    skipping_turn a.words.now c.requires.arranged a.skips.now c.requires.in_bounds l.skips l.g l.invariant c.skip_from_to.result (omega (arith, c.group_count-count.ensures, c.loop-g-test.true))
    (c.skip_from_to.ensures ∙ ap (skipping 64 l.g) d.ensures.top)

pub shape_of-skips : goal.shape_of-skips
shape_of-skips c = c.loop-g.invariant.size

pub returns : goal.returns
returns c =
    let a = c.args in
    let l = c.loop-g in
    skipping_end a.words.now c.requires.arranged a.skips.now c.requires.in_bounds l.skips l.g l.invariant (omega (arith, c.group_count-count.ensures, c.loop-g-test.false))
