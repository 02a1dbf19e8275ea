-- A fact that is true in one way only, so that it comes back from where a struct keeps it. Assumes nothing.
use mathlib.Core.List.{List, [], ◌∷◌}
use mathlib.Core.Logic.{∥∥₁_elim}
use Prim.Native.Nat.{ℕ}
use Rattle.std.proofs.Math.Nat.{ℕ_set}
use Rattle.std.proofs.Math.Bridge.{le_prop}
use Rattle.layout.specs.Layout.{AritiesRising}

rising_prop : (b n : ℕ) (ars : List ℕ) → IsProp (AritiesRising b n ars)
unfolding AritiesRising
rising_prop b n [] = hlevel ℕ_set
rising_prop b n (a ∷ ars) = hlevel (rising_prop a n ars, le_prop)

pub rising_of : (n : ℕ) (ars : List ℕ) → ∥ AritiesRising 0 n ars ∥₁ → AritiesRising 0 n ars
rising_of n ars r = ∥∥₁_elim r (rising_prop 0 n ars) (λ x. x)
