use mathlib.Core.Path.{ap, sym, ◌∙◌, subst}
use Prim.Native.Nat.{◌<◌}
use native.Mathlib.Omega.{arith}
use lib.ListN.{length}
use Rattle.model.specs.Sound.{In}
use Rattle.words.specs.Shape.{column_start}
use Rattle.memory.specs.Header.{slot_of}
use Rattle.memory.specs.Meaning.{meaning}
use Rattle.kinds.proofs.Slot.{lent_at}
use Rattle.group.specs.Metadata.{order_of}
use Rattle.group.proofs.Order.{order_known}
use Rattle.group_tables.proofs.Filling.{filled_start, filled_room, filled_turn, filled_end}
use Rattle.group_tables.proofs.fill.fill_starts.Goals as goal

pub width-end-requires : goal.width-end-requires
width-end-requires c = c.requires.arranged

pub loop-place-init : goal.loop-place-init
loop-place-init c = let a = c.args in filled_start a.words.now a.z a.starts.now

pub kind_at-kind-requires : goal.kind_at-kind-requires
kind_at-kind-requires c = record { arranged = c.requires.arranged; place_in_bounds = omega (arith, c.width-end.ensures, c.loop-place-test.true) }

pub slot_of-slot-requires : goal.slot_of-slot-requires
slot_of-slot-requires c =
    let a = c.args in
    let l = c.loop-place in
    let h : l.place < length (order_of (meaning a.words.now)) = omega (arith, c.width-end.ensures, c.loop-place-test.true) in
    record { arranged = c.requires.arranged; kind_known = subst (In (meaning a.words.now).kinds) (sym c.kind_at-kind.ensures) (order_known a.words.now c.requires.arranged l.place h) }

pub column_start-requires : goal.column_start-requires
column_start-requires c =
    let a = c.args in
    let L = lent_at a.words.now a.z c.kind_at-kind.result c.slot_of-slot.result c.requires.shape_is c.slot_of-slot.ensures in
    (L.shaped, omega (arith, L.few))

pub offset_bounds-starts-place : goal.offset_bounds-starts-place
offset_bounds-starts-place c =
    let a = c.args in
    let l = c.loop-place in
    let h : l.place < length (order_of (meaning a.words.now)) = omega (arith, c.width-end.ensures, c.loop-place-test.true) in
    let r = filled_room a.words.now c.requires.arranged a.z a.starts.now c.requires.in_bounds l.starts l.place l.invariant h in
    omega arith

pub bounds-starts-place : goal.bounds-starts-place
bounds-starts-place c =
    let a = c.args in
    let l = c.loop-place in
    let h : l.place < length (order_of (meaning a.words.now)) = omega (arith, c.width-end.ensures, c.loop-place-test.true) in
    filled_room a.words.now c.requires.arranged a.z a.starts.now c.requires.in_bounds l.starts l.place l.invariant h

pub loop-place-preserved : goal.loop-place-preserved
loop-place-preserved c =
    let a = c.args in
    let l = c.loop-place in
    let h : l.place < length (order_of (meaning a.words.now)) = omega (arith, c.width-end.ensures, c.loop-place-test.true) in
    filled_turn a.words.now c.requires.arranged a.z a.starts.now c.requires.in_bounds l.starts l.place l.invariant c.column_start.result h
    (c.column_start.ensures.is ∙ ap (column_start a.z) (c.slot_of-slot.ensures.is ∙ ap (slot_of a.words.now) c.kind_at-kind.ensures))

pub shape_of-starts : goal.shape_of-starts
shape_of-starts c = c.loop-place.invariant.size

pub returns : goal.returns
returns c =
    let a = c.args in
    let l = c.loop-place in
    filled_end a.words.now c.requires.arranged a.z a.starts.now c.requires.in_bounds l.starts l.place l.invariant c.requires.shape_is (omega (arith, c.width-end.ensures, c.loop-place-test.false))
