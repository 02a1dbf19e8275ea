use Prim.Native.Nat.{◌*◌, ◌≤◌}
use Rattle.snapshot.proofs.Writing.{Writing}
use Rattle.snapshot.proofs.Parts.{from}
use Rattle.snapshot.proofs.Roll.write_entities.Given as goal

abbrev pub invariant-loop-index : goal.invariant-loop-index
invariant-loop-index l = Writing l.initial.out l.at (from (4 * l.self.shape.stride) l.self.words.now 0) l.out l.next (from (4 * l.self.shape.stride) l.self.words.now l.index) × (l.index ≤ l.issued)
