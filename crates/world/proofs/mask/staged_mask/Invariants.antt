use mathlib.Core.Path.{◌≡◌}
use mathlib.Core.List.{List}
use Prim.Native.Nat.{ℕ, ◌≤◌}
use lib.ListN.{length, take}
use Rattle.model.specs.Store.{staged_kinds}
use Rattle.masks.specs.Masks.{bits_of}
use Rattle.memory.specs.Meaning.{meaning}
use Rattle.world.specs.declared.mask.Walk.{Walk}
use Rattle.world.specs.Walked.{walk_positions}
use Rattle.world.proofs.mask.staged_mask.Given as goal

abbrev pub at : List ℕ → Walk → List ℕ → List ℕ
at w walk ks = walk_positions walk ks (meaning w).storage.layout

abbrev pub invariant-loop-i : goal.invariant-loop-i
invariant-loop-i l = (l.i ≤ l.n) × (l.n ≡ length (meaning l.words).control.staged) × (bits_of 64 l.mask.0 ≡ at l.words l.walk (take l.i (staged_kinds (meaning l.words))))
