-- Binary digits: a bit as a truth value, of a union, an intersection, a run of ones and a complement. Assumes nothing.
use mathlib.Core.Path.{◌≡◌, refl, sym, ap, ap₂, ◌∙◌}
use mathlib.Core.Logic.{◌⊎◌, inl, inr, ⊎_elim}
use mathlib.Core.Bool.{Bool, true, false, not, ◌&&◌, ◌||◌, false≢true}
use Prim.Native.Nat.{ℕ, zero, suc, ◌+◌, ◌-◌, ◌*◌, ◌/◌, ◌%◌, ◌^◌, ◌≤◌, ◌<◌, zero-le, min, max}
use native.Mathlib.Nat.{one-mul, pow-succ', mod-lt, mul-one, suc-sub-suc, zero-sub, mul_left_comm, zero-mul, sub-zero}
use native.Mathlib.Omega.{arith}
use lib.Dec.{ltb, leb-zero, leb-suc-zero, leb-suc-suc, lit<}
use lib.Pow.{pow_pos, shl_exact, ones_lt, ones_split, high}
use lib.Bits.{bit_and, bit_or, and_step, or_step}
use Rattle.masks.specs.Masks.{is_between}
use Rattle.masks.proofs.Lists.{between_high}

abbrev pub is_set : ℕ → Bool
is_set zero = false
is_set (suc d) = true

-- is bit i of m set?
unfoldable pub has_bit : ℕ → ℕ → Bool
has_bit m zero = is_set (m % 2)
has_bit m (suc i) = has_bit (m / 2) i

-- the bits a to b - 1, as a number
abbrev pub span : ℕ → ℕ → ℕ
span a b = (2 ^ (b - a) - 1) * 2 ^ a

-- the bits of a word of w bits that m has not
abbrev pub rest_of : ℕ → ℕ → ℕ
rest_of w m = 2 ^ w - 1 - m

pub digit : (n : ℕ) → (n % 2 ≡ 0) ⊎ (n % 2 ≡ 1)
digit n = go (n % 2) (mod-lt n (lit< tt))
  where
    go : (r : ℕ) → r < 2 → (r ≡ 0) ⊎ (r ≡ 1)
    go zero h = inl refl
    go (suc zero) h = inr refl
    go (suc (suc r)) h = absurd (omega arith)

-- ---- the machine's shifts, at any width

pub shl_one : (w k : ℕ) → k < w → (1 * 2 ^ k) % 2 ^ w ≡ 2 ^ k
shl_one w k h = shl_exact 1 k w (lit< tt) (omega arith) ∙ one-mul (2 ^ k)

-- the n lowest of w ones
low_ones : (w n : ℕ) → n ≤ w → (2 ^ w - 1) / 2 ^ (w - n) ≡ 2 ^ n - 1
low_ones w n h =
    let e : w ≡ n + (w - n) = omega arith in
    ap (λ (x : ℕ). (2 ^ x - 1) / 2 ^ (w - n)) e ∙ ap (λ (x : ℕ). x / 2 ^ (w - n)) (ones_split n (w - n)) ∙ high (2 ^ n - 1) (w - n) (ones_lt (w - n))

pub span_shifted : (w a b : ℕ) → a ≤ b → b ≤ w → ((2 ^ w - 1) / 2 ^ (w - (b - a)) * 2 ^ a) % 2 ^ w ≡ span a b
span_shifted w a b l h =
    rw (low_ones w (b - a) (omega arith)) (shl_exact (b - a) a w (ones_lt (b - a)) (omega arith))

-- ---- union and intersection

-- an operation on digits agrees with one on truth values, where it does on the four pairs of digits
by_digits : (f : ℕ → ℕ → ℕ) (g : Bool → Bool → Bool) → is_set (f 0 0) ≡ g false false → is_set (f 0 1) ≡ g false true → is_set (f 1 0) ≡ g true false → is_set (f 1 1) ≡ g true true
    → (a b : ℕ) → is_set (f (a % 2) (b % 2)) ≡ g (is_set (a % 2)) (is_set (b % 2))
by_digits f g zz zo oz oo a b =
    ⊎_elim (λ (p : a % 2 ≡ 0). ⊎_elim (λ (q : b % 2 ≡ 0). rw (p, q) zz) (λ (q : b % 2 ≡ 1). rw (p, q) zo) (digit b))
    (λ (p : a % 2 ≡ 1). ⊎_elim (λ (q : b % 2 ≡ 0). rw (p, q) oz) (λ (q : b % 2 ≡ 1). rw (p, q) oo) (digit b)) (digit a)

pub has_or : (a b i : ℕ) → has_bit (bit_or a b) i ≡ (has_bit a i || has_bit b i)
unfolding has_bit
has_or a b zero =
    let low : bit_or a b % 2 ≡ max (a % 2) (b % 2) = omega (arith, or_step a b) in
    ap is_set low ∙ by_digits max ◌||◌ refl refl refl refl a b
has_or a b (suc i) =
    let high : bit_or a b / 2 ≡ bit_or (a / 2) (b / 2) = omega (arith, or_step a b) in
    ap (λ (x : ℕ). has_bit x i) high ∙ has_or (a / 2) (b / 2) i

pub has_and : (a b i : ℕ) → has_bit (bit_and a b) i ≡ (has_bit a i && has_bit b i)
unfolding has_bit
has_and a b zero =
    let low : bit_and a b % 2 ≡ min (a % 2) (b % 2) = omega (arith, and_step a b) in
    ap is_set low ∙ by_digits min ◌&&◌ refl refl refl refl a b
has_and a b (suc i) =
    let high : bit_and a b / 2 ≡ bit_and (a / 2) (b / 2) = omega (arith, and_step a b) in
    ap (λ (x : ℕ). has_bit x i) high ∙ has_and (a / 2) (b / 2) i

-- ---- a run of ones

pub no_bit : (i : ℕ) → has_bit 0 i ≡ false
unfolding has_bit
no_bit zero = refl
no_bit (suc i) = no_bit i

span_half : (a b : ℕ) → span (suc a) (suc b) ≡ 2 * span a b
span_half a b = ap₂ (λ (x y : ℕ). (2 ^ x - 1) * y) (suc-sub-suc b a) (pow-succ' 2 a) ∙ mul_left_comm (2 ^ (b - a) - 1) 2 (2 ^ a)

span_zero : (b : ℕ) → span 0 b ≡ 2 ^ b - 1
span_zero b = ap (λ (x : ℕ). (2 ^ x - 1) * 1) (sub-zero b) ∙ mul-one (2 ^ b - 1)

span_none : (a : ℕ) → span (suc a) 0 ≡ 0
span_none a = ap (λ (x : ℕ). (2 ^ x - 1) * 2 ^ suc a) (zero-sub (suc a)) ∙ zero-mul (2 ^ suc a)

pub has_span : (a b i : ℕ) → has_bit (span a b) i ≡ is_between a b i
unfolding has_bit
has_span zero zero i = no_bit i ∙ sym (between_high 0 0 i zero-le)
has_span zero (suc b) zero =
    let low : span 0 (suc b) % 2 ≡ 1 = omega (arith, span_zero (suc b), pow-succ' 2 b, pow_pos b) in
    ap is_set low ∙ sym (leb-suc-suc 0 b ∙ leb-zero b)
has_span zero (suc b) (suc i) =
    let half : span 0 (suc b) / 2 ≡ span 0 b = omega (arith, span_zero (suc b), span_zero b, pow-succ' 2 b, pow_pos b) in
    ap (λ (x : ℕ). has_bit x i) half ∙ has_span zero b i ∙ ap₂ ◌&&◌ (leb-zero i ∙ sym (leb-zero (suc i))) (sym (leb-suc-suc (suc i) b))
has_span (suc a) zero i = ap (λ (x : ℕ). has_bit x i) (span_none a) ∙ no_bit i ∙ sym (between_high (suc a) 0 i zero-le)
has_span (suc a) (suc b) zero =
    let low : span (suc a) (suc b) % 2 ≡ 0 = omega (arith, span_half a b) in
    ap is_set low ∙ sym (ap (λ (t : Bool). t && ltb 0 (suc b)) (leb-suc-zero a))
has_span (suc a) (suc b) (suc i) =
    let half : span (suc a) (suc b) / 2 ≡ span a b = omega (arith, span_half a b) in
    ap (λ (x : ℕ). has_bit x i) half ∙ has_span a b i ∙ ap₂ ◌&&◌ (sym (leb-suc-suc a i)) (sym (leb-suc-suc (suc i) b))

-- ---- the complement

pub has_rest : (w m i : ℕ) → i < w → m < 2 ^ w → has_bit (rest_of w m) i ≡ not (has_bit m i)
unfolding has_bit
has_rest zero m i h l = absurd (omega arith)
has_rest (suc w) m zero h l =
    ⊎_elim
    (λ (e : m % 2 ≡ 0). let low : rest_of (suc w) m % 2 ≡ 1 = omega (arith, pow-succ' 2 w) in rw (low, e))
    (λ (e : m % 2 ≡ 1). let low : rest_of (suc w) m % 2 ≡ 0 = omega (arith, pow-succ' 2 w) in rw (low, e)) (digit m)
has_rest (suc w) m (suc i) h l =
    let half : rest_of (suc w) m / 2 ≡ rest_of w (m / 2) = omega (arith, pow-succ' 2 w) in
    ap (λ (x : ℕ). has_bit x i) half ∙ has_rest w (m / 2) i (omega arith) (omega (arith, pow-succ' 2 w))

-- ---- numbers below 2 ^ w with the same bits are equal

set_digit : (a b : ℕ) → is_set (a % 2) ≡ is_set (b % 2) → a % 2 ≡ b % 2
set_digit a b e =
    ⊎_elim (λ (p : a % 2 ≡ 0). ⊎_elim (λ (q : b % 2 ≡ 0). p ∙ sym q) (λ (q : b % 2 ≡ 1). absurd (false≢true (sym (ap is_set p) ∙ e ∙ ap is_set q))) (digit b))
    (λ (p : a % 2 ≡ 1). ⊎_elim (λ (q : b % 2 ≡ 0). absurd (false≢true (sym (ap is_set q) ∙ sym e ∙ ap is_set p))) (λ (q : b % 2 ≡ 1). p ∙ sym q) (digit b)) (digit a)

pub same_bits : (w m n : ℕ) → m < 2 ^ w → n < 2 ^ w → ((i : ℕ) → i < w → has_bit m i ≡ has_bit n i) → m ≡ n
unfolding has_bit
same_bits zero m n hm hn h = omega arith
same_bits (suc w) m n hm hn h =
    let low : m % 2 ≡ n % 2 = set_digit m n (h 0 (omega arith)) in
    let high : m / 2 ≡ n / 2 = same_bits w (m / 2) (n / 2) (omega (arith, pow-succ' 2 w)) (omega (arith, pow-succ' 2 w)) (λ i l. h (suc i) (omega arith)) in
    omega arith
