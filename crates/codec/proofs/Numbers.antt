-- Numbers in bytes, one after another: written, and read back. Assumes nothing.
use mathlib.Core.Path.{◌≡◌, ap, ap₂}
use mathlib.Core.List.{List, [], ◌∷◌, ◌++◌}
use Prim.Native.Nat.{ℕ, zero, suc, ◌+◌, ◌*◌, ◌/◌, ◌%◌, ◌^◌, ◌≤◌, ◌<◌}
use native.Mathlib.Omega.{arith}
use native.Mathlib.Nat.{div-lt_iff_lt-mul, pow-suc, mul_assoc, mul_comm, add-mul-mod_self_left, add-mul-div_left, suc-add, zero-add}
use lib.Dec.{lit<}
use lib.ListN.{length, take, drop}
use Rattle.model.specs.Store.{bytes_of, number}

-- the bytes of x, which has no more than n, and then those of y
pub bytes_of_join : (n m x y : ℕ) → x < 256 ^ n → bytes_of (n + m) (x + 256 ^ n * y) ≡ bytes_of n x ++ bytes_of m y
bytes_of_join zero m x y h =
    let e : x + 256 ^ 0 * y ≡ y = omega arith in
    ap₂ bytes_of (zero-add m) e
bytes_of_join (suc n) m x y h =
    let b : x / 256 < 256 ^ n = (div-lt_iff_lt-mul (lit< tt)).1 (rw pow-suc at h) in
    let e : x + 256 ^ suc n * y ≡ x + 256 * (256 ^ n * y) = ap (λ (k : ℕ). x + k) (rw (pow-suc 256 n, mul_comm (256 ^ n) 256) (mul_assoc 256 (256 ^ n) y)) in
    rw (suc-add n m, e, add-mul-mod_self_left x 256 (256 ^ n * y), add-mul-div_left x (256 ^ n * y) (lit< tt))
    (ap {B = List ℕ} (λ l. x % 256 ∷ l) (bytes_of_join n m (x / 256) y b))

-- the number of a + 4 bytes and those after
pub number_join : (n : ℕ) (t : List ℕ) → n ≤ length t → number t ≡ number (take n t) + 256 ^ n * number (drop n t)
number_join zero t h = omega arith
number_join (suc n) [] h = absurd (omega arith)
number_join (suc n) (b ∷ t) h =
    let r = number_join n t (omega arith) in
    rw (pow-suc 256 n) (rw r (omega arith))
