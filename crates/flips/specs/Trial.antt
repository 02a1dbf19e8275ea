-- What the steps of the trial promise. Assumes nothing.
use Rattle.std.specs.Prelude.{◌≡◌, ℕ, ◌+◌, ◌≤◌, List}
use Rattle.memory.specs.Arranged.{Sound}
use Rattle.flips.specs.declared.trial.Counts.{Counts}

-- sound words stay sound
abbrev pub Keeps : List ℕ → List ℕ → Type 0
Keeps w w' = Sound w → Sound w'

-- no count is above m, and all that were sound stayed so
pub record Most (c : Counts) (m : ℕ) : Type 0 where
  pub refused : c.refused ≤ m
  pub sound : c.sound ≤ m
  pub served : c.served ≤ m
  pub stayed : c.stayed ≡ c.sound

-- the words w are counted as sound or as refused, and rightly
pub record Tried (w : List ℕ) (c : Counts) : Type 0 where
  pub most : Most c 1
  pub one : c.refused + c.sound ≡ 1
  pub refused : c.refused ≡ 1 → Sound w → ⊥
  pub sound : c.sound ≡ 1 → Sound w

-- c is a and b together
pub record Summed (a b c : Counts) : Type 0 where
  pub refused : c.refused ≡ a.refused + b.refused
  pub sound : c.sound ≡ a.sound + b.sound
  pub served : c.served ≡ a.served + b.served
  pub stayed : c.stayed ≡ a.stayed + b.stayed
