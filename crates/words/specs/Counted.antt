-- How many numbers pass a test. Assumes nothing.
use Rattle.std.specs.Prelude.{Bool, ℕ, zero, suc, ◌+◌, ltb}
use Rattle.model.specs.Lists.{one}

-- of those below n
abbrev pub how_many : ℕ → (ℕ → Bool) → ℕ
how_many zero t = 0
how_many (suc n) t = how_many n t + one (t n)

-- how many of f 0, .., f (n - 1) are 1 or more
abbrev pub filled : ℕ → (ℕ → ℕ) → ℕ
filled n f = how_many n (λ x. ltb 0 (f x))
