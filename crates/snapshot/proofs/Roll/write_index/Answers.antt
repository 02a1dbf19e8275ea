use Prim.Native.Nat.{◌*◌}
use native.Mathlib.Omega.{arith}
use Rattle.snapshot.proofs.Known.{capacity_most}
use Rattle.snapshot.proofs.Parts.{index_some}
use Rattle.snapshot.proofs.Roll.write_index.Goals as goal

pub overflow_cast-e : goal.overflow_cast-e
overflow_cast-e c = omega (arith, capacity_most c.args.self.now.words.now c.requires.arranged, c.requires.index_bound)

pub returns : goal.returns
returns c =
    let a = c.args in
    rw (index_some (4 * a.self.now.shape.stride) a.self.now.words.now a.index c.version_at-version.result c.version_at-version.ensures c.if-version-eq0.false) c.write_entity.ensures
