-- A part of a list, between two places. Assumes nothing.
use Rattle.std.specs.Prelude.{List, ℕ, ◌-◌, take, drop}

module _ {A : Type 0} where
  -- the elements from a up to e; this is what `&w[a..e]` lends
  abbrev pub between : ℕ → ℕ → List A → List A
  between a e w = take (e - a) (drop a w)
