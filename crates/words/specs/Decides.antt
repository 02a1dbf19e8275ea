-- A check that answers a bool decides a proposition. At a constant answer `Decides` computes to the proposition or to its denial, so a function that
-- ends in `return false;` .. `true` has most of its answers found by search. Assumes nothing.
use Rattle.std.specs.Prelude.{Bool, true, false, ℕ, ◌<◌}

-- true: P holds; false: it does not
abbrev pub Decides : Bool → Type 0 → Type 0
Decides true P = P
Decides false P = P → ⊥

-- P of each number below k
abbrev pub Each : ℕ → (ℕ → Type 0) → Type 0
Each k P = (i : ℕ) → i < k → P i
