-- The loops that copy words and bytes. Assumes nothing.
use mathlib.Core.Path.{◌≡◌}
use Prim.Native.Nat.{ℕ, ◌+◌, ◌≤◌, ◌<◌}
use mathlib.Core.List.{List}
use lib.ListN.{length, get_or}

-- d has the first i of s from at on
pub record Putting (d₀ : List ℕ) (at : ℕ) (s d : List ℕ) (i : ℕ) : Type 0 where
  pub below : i ≤ length s
  pub size : length d ≡ length d₀
  pub before : (j : ℕ) → j < at → get_or d j 0 ≡ get_or d₀ j 0
  pub here : (j : ℕ) → j < i → get_or d (at + j) 0 ≡ get_or s j 0
  pub after : (j : ℕ) → at + i ≤ j → get_or d j 0 ≡ get_or d₀ j 0

-- the same at the front
abbrev pub Fetching : List ℕ → List ℕ → List ℕ → ℕ → Type 0
Fetching d₀ s d i = Putting d₀ 0 s d i
