-- A loop over all slots. Assumes nothing.
use mathlib.Core.Bool.{cond}
use Prim.Native.Nat.{ℕ}
use lib.Dec.{ltb}
use Rattle.model.specs.Model.{SparseSet}

-- f of those below k so far
abbrev pub up_to : ℕ → (SparseSet → SparseSet) → ℕ → SparseSet → SparseSet
up_to k f s rs = cond (ltb s k) (f rs) rs
