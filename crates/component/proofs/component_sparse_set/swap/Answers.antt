use Rattle.component.proofs.Moves.{swapped_by}
use Rattle.component.proofs.component_sparse_set.swap.Goals as goal

pub returns : goal.returns
returns c =
    let a = c.args in
    swapped_by a.z a.part.now c.requires.column_sound a.a a.b c.requires.in_bounds.0 c.requires.in_bounds.1 c.if-a-b.false
    c.put_entity.new.part c.put_entity-2.new.part c.put_place.new.part c.put_place-2.new.part c.swap_values.new.part a.e.index a.e.version c.entity_at-other.result
    c.requires.entity_at_a.0 c.requires.entity_at_a.1 c.entity_at-other.ensures c.put_entity.ensures c.put_entity-2.ensures c.put_place.ensures c.put_place-2.ensures c.swap_values.ensures
