-- Columns where they lie in the lent words, whatever they hold. Assumes nothing.
use Rattle.std.specs.Prelude.{List, ℕ, ◌+◌, ◌≤◌, ◌<◌, length, get_or}
use Rattle.model.specs.Numbers.{MAX_KINDS}
use Rattle.words.specs.Shape.{column_start, column_len, Shaped}
use Rattle.words.specs.declared.Shape.{Shape}
use Rattle.component.specs.Columns.{column_of}

-- slot s's column is among the words
pub record Slot (z : Shape) (s : ℕ) (w : List ℕ) : Type 0 where
  pub shaped : Shaped z
  pub few : s < MAX_KINDS
  pub size : column_start z s + column_len z ≤ length w

-- and so are k columns
pub record Room (z : Shape) (k : ℕ) (w : List ℕ) : Type 0 where
  pub shaped : Shaped z
  pub few : k ≤ MAX_KINDS
  pub size : column_start z k ≤ length w

-- word i of the head of slot s's column
abbrev pub head_at : Shape → List ℕ → ℕ → ℕ → ℕ
head_at z w s i = get_or (column_of z s w) i 0

-- P of each number from a on, below e
abbrev pub Over : ℕ → ℕ → (ℕ → Type 0) → Type 0
Over a e P = (j : ℕ) → a ≤ j → j < e → P j
