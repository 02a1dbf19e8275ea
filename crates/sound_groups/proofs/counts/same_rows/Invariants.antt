use Prim.Native.Nat.{◌*◌}
use Rattle.words.proofs.Counted.{Counting}
use Rattle.sound_groups.proofs.CountLaws.{differs}
use Rattle.sound_groups.proofs.counts.same_rows.Given as goal

abbrev pub invariant-loop-i : goal.invariant-loop-i
invariant-loop-i l = Counting (differs l.words l.a l.b) (2 * l.c) l.i l.differ
