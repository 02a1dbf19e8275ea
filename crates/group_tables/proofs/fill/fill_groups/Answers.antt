use Prim.Native.Nat.{◌<◌, ◌≤◌}
use native.Mathlib.Omega.{arith}
use Rattle.model.specs.Numbers.{MAX_GROUP_COUNT}
use Rattle.model.specs.Model.{groups_of}
use Rattle.memory.specs.Meaning.{meaning}
use Rattle.group.proofs.InWords.{groups_few}
use Rattle.group_tables.proofs.Filling.{listed_room, listed_turn, listed_end}
use Rattle.group_tables.proofs.fill.fill_groups.Goals as goal

pub offset_bounds-groups-g : goal.offset_bounds-groups-g
offset_bounds-groups-g c =
    let h : c.loop-g.g < groups_of (meaning c.args.words.now).storage.layout = omega (arith, c.group_count-count.ensures, c.loop-g-test.true) in
    let few : groups_of (meaning c.args.words.now).storage.layout ≤ MAX_GROUP_COUNT = groups_few c.args.words.now c.requires.arranged in
    omega arith

pub bounds-groups-g : goal.bounds-groups-g
bounds-groups-g c =
    let a = c.args in
    let l = c.loop-g in
    listed_room a.words.now c.requires.arranged a.groups.now c.requires.in_bounds l.groups l.g l.invariant (omega (arith, c.group_count-count.ensures, c.loop-g-test.true))

pub loop-g-preserved : goal.loop-g-preserved
loop-g-preserved c =
    let a = c.args in
    let l = c.loop-g in
    listed_turn a.words.now c.requires.arranged a.groups.now c.requires.in_bounds l.groups l.g l.invariant c.metadata.result (omega (arith, c.group_count-count.ensures, c.loop-g-test.true)) c.metadata.ensures

pub shape_of-groups : goal.shape_of-groups
shape_of-groups c = c.loop-g.invariant.size

pub returns : goal.returns
returns c =
    let a = c.args in
    let l = c.loop-g in
    listed_end a.words.now c.requires.arranged a.groups.now c.requires.in_bounds l.groups l.g l.invariant (omega (arith, c.group_count-count.ensures, c.loop-g-test.false))
