-- What the comparisons of bytes and words decide. Assumes nothing.
use mathlib.Core.Path.{◌≡◌}
use Prim.Native.Nat.{ℕ, ◌*◌, ◌/◌, ◌%◌}
use native.Mathlib.Omega.{arith}
use native.Mathlib.Nat.{div-add-mod'}

-- as many bytes as the words take
pub four_each : (n m : ℕ) → n % 4 ≡ 0 → n / 4 ≡ m → n ≡ 4 * m
four_each n m r q = omega (arith, div-add-mod' n 4, r, q)

pub four_apart : (n m : ℕ) → (n % 4 ≡ 0 → ⊥) → n ≡ 4 * m → ⊥
four_apart n m r e = r (omega arith)

pub fourth_apart : (n m : ℕ) → (n / 4 ≡ m → ⊥) → n ≡ 4 * m → ⊥
fourth_apart n m r e = r (omega arith)
