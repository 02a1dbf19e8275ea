use Prim.Native.Nat.{ℕ, ◌+◌, ◌*◌}
use lib.Dec.{ltb}
use lib.ListN.{get_or}
use Rattle.words.proofs.Counted.{Counting}
use Rattle.words.proofs.count_held.Given as goal

abbrev pub invariant-loop-x : goal.invariant-loop-x
invariant-loop-x l = Counting (λ (y : ℕ). ltb 0 (get_or l.words (l.from + 2 * y + 1) 0)) l.n l.x l.count
