use Rattle.component.proofs.Moves.{popped_by}
use Rattle.component.proofs.component_sparse_set.pop.Goals as goal

pub returns : goal.returns
returns c =
    let a = c.args in
    popped_by a.z a.part.now c.requires.column_sound c.requires.some_row c.entity_at-last.result c.clear_lookup.new.part c.entity_at-last.ensures c.clear_lookup.ensures
