use native.Mathlib.Omega.{arith}
use borrow.Author.Rules.{rules}
use borrow.Author.Tests.{tests}
use Rattle.words.specs.Offsets.{GROUP_FAMILIES, LAYOUT, STAGED_KINDS, TABLE}
use Rattle.words.specs.Decides.{Decides, Each}
use Rattle.words.specs.Part.{between}
use Rattle.words.specs.Shape.{shape_of}
use Rattle.words.proofs.Decides.{decides_on, decides_less}
use Rattle.layout_block.specs.Checks.{BlockSound}
use Rattle.memory.specs.Header.{capacity_of, kind_capacity_of, layout_families, layout_groups, value_bytes_of}
use Rattle.sound_groups.specs.Spans.{HeadsOk}
use Rattle.soundness.proofs.Whole.{size_long, forced, own_room, own_width, own_kinds, width_is, layout_left}
use Rattle.soundness.proofs.has_layout.Goals as goal

pub slice_bounds-block_ok-end : goal.slice_bounds-block_ok-end
slice_bounds-block_ok-end c = let w = c.args.words.now in omega (arith, size_long (capacity_of w) (kind_capacity_of w) (value_bytes_of w) w c.requires.size)

pub slice_bounds-block_ok-end-2 : goal.slice_bounds-block_ok-end-2
slice_bounds-block_ok-end-2 c = let w = c.args.words.now in omega (arith, size_long (capacity_of w) (kind_capacity_of w) (value_bytes_of w) w c.requires.size)

pub start_of-width-requires : goal.start_of-width-requires
start_of-width-requires c =
    let w = c.args.words.now in
    let B : BlockSound (between LAYOUT GROUP_FAMILIES w) (between TABLE STAGED_KINDS w) (layout_families w) (layout_groups w) = search (rules, tests) in
    omega (arith, size_long (capacity_of w) (kind_capacity_of w) (value_bytes_of w) w c.requires.size, B.formed.good.few)

pub are_heads-requires-clause-force : goal.are_heads-requires-clause-force
are_heads-requires-clause-force c =
    let w = c.args.words.now in
    let B : BlockSound (between LAYOUT GROUP_FAMILIES w) (between TABLE STAGED_KINDS w) (layout_families w) (layout_groups w) = search (rules, tests) in
    rw c.shape_of-z.ensures.is (forced w c.requires.size c.requires.parts B)

pub are_own-requires-clause-room : goal.are_own-requires-clause-room
are_own-requires-clause-room c =
    let w = c.args.words.now in
    let B : BlockSound (between LAYOUT GROUP_FAMILIES w) (between TABLE STAGED_KINDS w) (layout_families w) (layout_groups w) = search (rules, tests) in
    rw c.shape_of-z.ensures.is (own_room w c.requires.size c.requires.parts B c.start_of-width.result c.start_of-width.ensures)

pub are_own-requires-clause-width_bound : goal.are_own-requires-clause-width_bound
are_own-requires-clause-width_bound c =
    let w = c.args.words.now in
    let B : BlockSound (between LAYOUT GROUP_FAMILIES w) (between TABLE STAGED_KINDS w) (layout_families w) (layout_groups w) = search (rules, tests) in
    own_width w c.requires.size c.requires.parts B c.start_of-width.result c.start_of-width.ensures

pub are_own-requires-clause-by_index_2 : goal.are_own-requires-clause-by_index_2
are_own-requires-clause-by_index_2 c =
    let w = c.args.words.now in
    let B : BlockSound (between LAYOUT GROUP_FAMILIES w) (between TABLE STAGED_KINDS w) (layout_families w) (layout_groups w) = search (rules, tests) in
    own_kinds w c.requires.size c.requires.parts B c.start_of-width.result c.start_of-width.ensures

pub returns-then-are_heads : goal.returns-then-are_heads
returns-then-are_heads c =
    let w = c.args.words.now in
    let B : BlockSound (between LAYOUT GROUP_FAMILIES w) (between TABLE STAGED_KINDS w) (layout_families w) (layout_groups w) = search (rules, tests) in
    let heads : Each (layout_groups w) (HeadsOk (shape_of w) w) = let at_z : Each (layout_groups w) (HeadsOk c.shape_of-z.result w) = search (rules, tests) in rw c.shape_of-z.ensures.is at at_z in
    decides_on _ (layout_left w c.requires.size c.requires.parts B heads c.start_of-width.result (width_is w c.requires.size c.requires.parts B c.start_of-width.result c.start_of-width.ensures)) (rw c.shape_of-z.ensures.is at c.are_own.ensures)

pub returns-else-are_heads : goal.returns-else-are_heads
returns-else-are_heads c =
    let w = c.args.words.now in
    let heads : Decides c.are_heads.result (Each (layout_groups w) (HeadsOk (shape_of w) w)) = rw c.shape_of-z.ensures.is at c.are_heads.ensures in
    decides_less _ _ c.are_heads.result heads c.if-are_heads.false (λ L. L.heads)
