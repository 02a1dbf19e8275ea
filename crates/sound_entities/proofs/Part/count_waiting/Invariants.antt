use Prim.Native.Nat.{ℕ}
use lib.Dec.{ltb}
use Rattle.words.proofs.Counted.{Counting}
use Rattle.entity.specs.Meaning.{queue_slot}
use Rattle.sound_entities.proofs.Part.count_waiting.Given as goal

abbrev pub invariant-loop-x : goal.invariant-loop-x
invariant-loop-x l = Counting (λ (y : ℕ). ltb 0 (queue_slot l.self.capacity l.self.words.now y)) l.self.capacity l.x l.count
