use Rattle.words.specs.Shape.{shape_of}
use Rattle.values.specs.Values.{value_of}
use Rattle.world.proofs.Columns.{Filling}
use Rattle.world.proofs.component_set.insert_column.Given as goal

abbrev pub invariant-loop-place : goal.invariant-loop-place
invariant-loop-place l = Filling l.initial.words l.c.kind (value_of (shape_of l.initial.words).stride l.c.value) l.start l.words l.place
