use Prim.Native.Nat.{◌+◌, ◌*◌, ◌≤◌, ◌<◌}
use native.Mathlib.Omega.{arith}
use lib.ListN.{length}
use Rattle.memory.specs.Meaning.{meaning}
use Rattle.snapshot.specs.Wrote.{index_bytes}
use Rattle.snapshot.proofs.Writing.{writing_turn, writing_end, writing_room}
use Rattle.snapshot.proofs.Known.{issued_most}
use Rattle.snapshot.proofs.Parts.{from, from_turn, from_none, from_start}
use Rattle.snapshot.proofs.Roll.write_entities.Goals as goal

pub write_index-next-requires : goal.write_index-next-requires
write_index-next-requires c =
    let a = c.args in
    let w = a.self.now.words.now in
    let v = 4 * a.self.now.shape.stride in
    let i = c.loop-index.index in
    let h : i < (meaning w).entities.issued = omega (arith, c.loop-index-test, c.issued-issued.ensures) in
    let room : a.at + length (from v w 0) ≤ length a.out.now = rw (from_start v w) at c.requires.room in
    record { arranged = c.requires.arranged; index_bound = omega (arith, issued_most w c.requires.arranged); room = writing_room (index_bytes v w i) (from v w (i + 1)) c.loop-index.invariant.0 (from_turn v w i h) room }

pub loop-index-preserved : goal.loop-index-preserved
loop-index-preserved c =
    let a = c.args in
    let w = a.self.now.words.now in
    let v = 4 * a.self.now.shape.stride in
    let i = c.loop-index.index in
    let h : i < (meaning w).entities.issued = omega (arith, c.loop-index-test, c.issued-issued.ensures) in
    (writing_turn (index_bytes v w i) (from v w (i + 1)) c.loop-index.invariant.0 (from_turn v w i h) c.write_index-next.ensures, omega arith)

pub returns : goal.returns
returns c =
    let a = c.args in
    let w = a.self.now.words.now in
    let v = 4 * a.self.now.shape.stride in
    let h : (meaning w).entities.issued ≤ c.loop-index.index = omega (arith, c.loop-index-test, c.issued-issued.ensures) in
    rw (from_start v w) (writing_end c.loop-index.invariant.0 (from_none v w c.loop-index.index h))
