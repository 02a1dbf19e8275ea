use native.Mathlib.Omega.{arith}
use Rattle.memory.specs.Meaning.{meaning}
use Rattle.command_group.proofs.Staged.{kind_byte, kind_more}
use Rattle.command_group.proofs.staged_kinds.Goals as goal

pub overflow_cast-staged_kind : goal.overflow_cast-staged_kind
overflow_cast-staged_kind c =
    omega (arith, kind_byte (meaning c.args.words.now) c.loop-i.i c.staged_kind.result (omega (arith, c.loop-i-test.true, c.len-i-end.ensures.is)) c.staged_kind.ensures c.requires.means)

pub loop-i-preserved : goal.loop-i-preserved
loop-i-preserved c =
    rw (c.push.ensures, c.loop-i.invariant)
    (kind_more (meaning c.args.words.now) c.loop-i.i c.staged_kind.result (omega (arith, c.loop-i-test.true, c.len-i-end.ensures.is)) c.staged_kind.ensures)
