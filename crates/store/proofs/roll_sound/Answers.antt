use native.Mathlib.Omega.{arith}
use Rattle.store.proofs.Rolling.{short_roll, written_roll}
use Rattle.store.proofs.roll_sound.Goals as goal

pub snapshot_length-requires : goal.snapshot_length-requires
snapshot_length-requires c = c.requires

pub returns-then-out-snapshot_length : goal.returns-then-out-snapshot_length
returns-then-out-snapshot_length c =
    rw c.from.ensures (short_roll c.args.words.now c.args.out.now c.requires (omega (arith, c.snapshot_length.ensures, c.if-out-snapshot_length.true)))

pub write_snapshot-written-requires : goal.write_snapshot-written-requires
write_snapshot-written-requires c = record { arranged = c.requires.arranged; room = omega (arith, c.snapshot_length.ensures, c.if-out-snapshot_length.false) }

pub returns : goal.returns
returns c =
    written_roll c.args.words.now c.args.out.now c.write_snapshot-written.new.out c.write_snapshot-written.result c.requires (omega (arith, c.snapshot_length.ensures, c.if-out-snapshot_length.false)) c.write_snapshot-written.ensures
