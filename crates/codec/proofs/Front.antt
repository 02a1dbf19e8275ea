-- The first elements of a part of a list.
-- Assumes nothing.
use mathlib.Core.Path.{◌≡◌, refl, ap, ◌∙◌}
use mathlib.Core.List.{List, [], ◌∷◌}
use Prim.Native.Nat.{ℕ, zero, suc, ◌+◌, ◌≤◌}
use native.Mathlib.Omega.{arith}
use lib.ListN.{length, take, drop, get_or}
use lib.Seq.{drop-cons}

-- n elements from index i
abbrev pub part : ℕ → List ℕ → ℕ → List ℕ
part zero t i = []
part (suc n) t i = get_or t i 0 ∷ part n t (suc i)

pub take_part : (n : ℕ) (t : List ℕ) (i : ℕ) → i + n ≤ length t → take n (drop i t) ≡ part n t i
take_part zero t i h = refl
take_part (suc n) t i h =
    ap (take (suc n)) (drop-cons t i 0 (omega arith)) ∙ ap (λ (l : List ℕ). get_or t i 0 ∷ l) (take_part n t (suc i) (omega arith))
