use mathlib.Core.Path.{sym, subst}
use Prim.Native.Nat.{◌+◌, ◌≤◌}
use native.Mathlib.Omega.{arith}
use Rattle.words.specs.Offsets.{TABLE, VALUE_WIDTH}
use Rattle.words.specs.Shape.{Shaped, shape_of}
use Rattle.kinds.proofs.Slot.{known_small, known_slot, header_long}
use Rattle.columns.proofs.Columns.{rows_few, row_start_small, value_place_law, entity_place_law}
use Rattle.columns.proofs.row_start.Goals as goal

pub shape_of-z-requires : goal.shape_of-z-requires
shape_of-z-requires c = header_long c.args.words.now c.requires.arranged VALUE_WIDTH (omega arith)

pub overflow_add-kind : goal.overflow_add-kind
overflow_add-kind c = omega (arith, known_small c.args.words.now c.requires.arranged c.args.kind c.requires.kind_known)

pub word-slot-requires : goal.word-slot-requires
word-slot-requires c = header_long c.args.words.now c.requires.arranged (TABLE + c.args.kind) (omega (arith, known_small c.args.words.now c.requires.arranged c.args.kind c.requires.kind_known))

pub column_start-start-requires : goal.column_start-start-requires
column_start-start-requires c =
    let a = c.args in
    let w = a.words.now in
    let K = known_slot w c.requires.arranged a.kind c.requires.kind_known in
    (subst Shaped (sym c.shape_of-z.ensures.is) c.requires.arranged.columns.shaped, omega (arith, c.word-slot.ensures.is, K.lent.few))

pub value_place-requires : goal.value_place-requires
value_place-requires c =
    let a = c.args in
    let w = a.words.now in
    let h : a.place ≤ (shape_of w).capacity = omega (arith, c.requires.place_in_bounds, rows_few w c.requires.arranged a.kind c.requires.kind_known) in
    (subst Shaped (sym c.shape_of-z.ensures.is) c.requires.arranged.columns.shaped, rw c.shape_of-z.ensures.is h)

pub returns-then-values : goal.returns-then-values
returns-then-values c =
    let a = c.args in
    let is = value_place_law a.words.now a.kind a.place c.shape_of-z.result c.word-slot.result c.column_start-start.result c.value_place.result c.shape_of-z.ensures.is c.word-slot.ensures.is c.column_start-start.ensures.is c.value_place.ensures.is a.values c.if-values.true in
    record { is = is; small = rw is (row_start_small a.words.now c.requires.arranged a.kind c.requires.kind_known a.values a.place c.requires.place_in_bounds) }

pub entity_place-requires : goal.entity_place-requires
entity_place-requires c = let a = c.args in omega (arith, c.requires.place_in_bounds, rows_few a.words.now c.requires.arranged a.kind c.requires.kind_known, c.requires.arranged.limits.most)

pub returns : goal.returns
returns c =
    let a = c.args in
    let is = entity_place_law a.words.now a.kind a.place c.shape_of-z.result c.word-slot.result c.column_start-start.result c.entity_place.result c.shape_of-z.ensures.is c.word-slot.ensures.is c.column_start-start.ensures.is c.entity_place.ensures.is a.values c.if-values.false in
    record { is = is; small = rw is (row_start_small a.words.now c.requires.arranged a.kind c.requires.kind_known a.values a.place c.requires.place_in_bounds) }
