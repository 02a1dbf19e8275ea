use Rattle.component.proofs.Moves.{replaced}
use Rattle.component.proofs.component_sparse_set.replace.Goals as goal

pub returns : goal.returns
returns c = let a = c.args in replaced a.z a.part.now c.put_value.new.part c.requires.column_sound a.place _ c.requires.place_in_bounds c.put_value.ensures
