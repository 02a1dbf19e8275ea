use mathlib.Core.Path.{sym}
use native.Mathlib.Omega.{arith}
use Rattle.model.proofs.Bounds.{rows_bounded}
use Rattle.memory.specs.Meaning.{meaning}
use Rattle.snapshot.proofs.set_length.Goals as goal

pub returns-then-is_registered : goal.returns-then-is_registered
returns-then-is_registered c =
    let S = c.requires.sound.means in
    record { is = sym c.set_len.ensures; few = omega (arith, c.set_len.ensures, rows_bounded (meaning c.args.words.now) S c.args.kind, S.limits.most) }
