use Rattle.component.proofs.Moves.{removed_by}
use Rattle.component.proofs.component_sparse_set.remove_at.Goals as goal

pub returns : goal.returns
returns c =
    let a = c.args in
    removed_by a.z a.part.now c.requires.column_sound a.place c.requires.place_in_bounds.0 c.put_entity.new.part c.put_place.new.part c.clear_lookup.new.part c.put_value.new.part a.index _ c.entity_at-moved.result
    c.requires.place_in_bounds.1 c.entity_at-moved.ensures c.value_of-value.ensures c.put_entity.ensures c.put_place.ensures c.clear_lookup.ensures c.put_value.ensures
