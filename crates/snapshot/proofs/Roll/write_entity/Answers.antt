use mathlib.Core.Path.{refl}
use Prim.Native.Nat.{◌*◌}
use native.Mathlib.Omega.{arith}
use Rattle.model.specs.Snapshot.{components_of}
use Rattle.model.specs.Model.{entity}
use Rattle.memory.specs.Meaning.{meaning}
use Rattle.snapshot.specs.Wrote.{entry_for}
use Rattle.memory.proofs.Becomes.{sets_wide}
use Rattle.snapshot.proofs.Listed.{few_components}
use Rattle.snapshot.proofs.Parts.{entry_count, entry_written}
use Rattle.snapshot.proofs.Roll.write_entity.Goals as goal

pub overflow_cast-out : goal.overflow_cast-out
overflow_cast-out c =
    let a = c.args in
    let ss = (meaning a.self.now.words.now).storage.sets in
    let e = entity a.e.index a.e.version in
    omega (arith, entry_count (4 * a.self.now.shape.stride) (components_of e 0 ss) c.write_components-end.ensures, few_components e ss (sets_wide a.self.now.words.now))

pub returns : goal.returns
returns c =
    let a = c.args in
    let t = entry_for a.self.now.words.now a.e.index a.e.version in
    entry_written (4 * a.self.now.shape.stride) t c.put.ensures c.put-2.ensures c.write_components-end.ensures refl (entry_count (4 * a.self.now.shape.stride) t.components c.write_components-end.ensures)
