-- The stores that put an entity into the live list. Assumes nothing.
use Rattle.std.specs.Prelude.{List, [], ◌∷◌, ℕ, ◌+◌, ◌*◌}
use Rattle.words.specs.Offsets.{LIVE_LIST}

-- place p of the live list has the entity x, v, and x's lookup says so
abbrev pub put_stores : ℕ → ℕ → ℕ → ℕ → List (ℕ × ℕ)
put_stores n p x v =
    (LIVE_LIST + 2 * p, x) ∷ (LIVE_LIST + 2 * p + 1, v) ∷ (LIVE_LIST + 2 * n + 2 * x, p) ∷ (LIVE_LIST + 2 * n + 2 * x + 1, v) ∷ []
