use mathlib.Core.Path.{ap}
use Rattle.model.specs.Model.{Component}
use Rattle.memory.specs.Meaning.{meaning}
use Rattle.world.proofs.Removing.{staged_in_law}
use Rattle.world.proofs.component_set.insert_one.Goals as goal

pub insert-requires-clause-kind_known : goal.insert-requires-clause-kind_known
insert-requires-clause-kind_known c =
    let a = c.args in
    let I = c.requires.insertable in
    let e = c.staged_at-c.ensures in
    staged_in_law (meaning a.words.now) I.known a.i _ c.requires.i_in_bounds (ap (λ (p : Component). p.kind) e)
