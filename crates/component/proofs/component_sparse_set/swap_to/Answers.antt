use native.Mathlib.Omega.{arith}
use Rattle.model.specs.Model.{swap_to, entity}
use Rattle.component.specs.SparseSet.{rows}
use Rattle.component.specs.Stored.{swap_rows}
use Rattle.component.proofs.Meaning.{length_rows}
use Rattle.component.proofs.Moves.{changed_as}
use Rattle.component.proofs.Places.{held_at, swap_held}
use Rattle.component.proofs.component_sparse_set.swap_to.Goals as goal

pub swap-requires : goal.swap-requires
swap-requires c =
    let a = c.args in
    let h = held_at a.z a.part.now c.requires.column_sound a.e.index a.e.version c.place_of-at.result c.place_of-at.ensures in
    record { column_sound = c.requires.column_sound; in_bounds = (h.0, omega (arith, c.requires.place_in_bounds, length_rows a.z a.part.now)); entity_at_a = (h.1, h.2) }

pub returns : goal.returns
returns c =
    let a = c.args in
    let e = entity a.e.index a.e.version in
    let rs = rows a.z a.part.now in
    let p = c.place_of-at.result in
    changed_as a.z (swap_rows p a.place) (swap_to e a.place) a.part.now c.swap.new.part c.swap.ensures (swap_held a.z e rs p c.place_of-at.ensures a.place)
