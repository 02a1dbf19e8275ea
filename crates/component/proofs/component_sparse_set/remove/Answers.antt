use Rattle.std.proofs.Common.{rules}
use Rattle.model.specs.Model.{entity}
use Rattle.component.specs.Answers.{HeldAt}
use Rattle.component.specs.SparseSet.{rows}
use Rattle.component.proofs.Places.{held_at}
use Rattle.component.proofs.component_sparse_set.remove.Goals as goal

pub remove_at-requires-clause-place_in_bounds : goal.remove_at-requires-clause-place_in_bounds
remove_at-requires-clause-place_in_bounds c =
    let a = c.args in
    let f : HeldAt a.z (entity a.e.index a.e.version) (rows a.z a.part.now) c.in-At.place = search rules in
    let h = held_at a.z a.part.now c.requires a.e.index a.e.version c.in-At.place f in
    (h.0, h.1)
