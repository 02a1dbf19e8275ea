-- What each operation does to the positions of a mask, over the width. Assumes nothing.
use mathlib.Core.Path.{◌≡◌, refl, sym, ap, ap₂, ◌∙◌}
use mathlib.Core.Bool.{Bool, true, not, ◌&&◌, ◌||◌}
use mathlib.Core.List.{List, [], ◌∷◌}
use Prim.Native.Nat.{ℕ, zero, suc, ◌+◌, ◌-◌, ◌*◌, ◌/◌, ◌%◌, ◌^◌, ◌≤◌, ◌<◌}
use native.Mathlib.Nat.{add-zero, add-suc, suc-add, zero-add, one-mul}
use native.Mathlib.Omega.{arith}
use lib.Bits.{bit_and, bit_or}
use Rattle.masks.specs.Masks.{put_if, positions, bits_of, up_from, has, keep_if, keep, is_between, union_of, common_of, skipping, Ordered}
use Rattle.masks.proofs.Digits.{is_set, has_bit, span, rest_of, has_or, has_and, has_span, has_rest, same_bits, shl_one, span_shifted}
use Rattle.masks.proofs.Lists.{keep_same, keep_keep, keep_between, has_keep, has_up, up_parts, between_in, and_parts}

put_keep : (d p : ℕ) (l : List ℕ) → put_if d p l ≡ keep_if (is_set d) p l
put_keep zero p l = refl
put_keep (suc d) p l = refl

as_keep : (w p m : ℕ) (g : ℕ → Bool) → ((i : ℕ) → g (p + i) ≡ has_bit m i) → positions w p m ≡ keep g (up_from p w)
unfolding positions keep up_from has_bit
as_keep zero p m g h = refl
as_keep (suc w) p m g h =
    let here : g p ≡ is_set (m % 2) = ap g (sym (add-zero p)) ∙ h 0 in
    let rest : positions w (suc p) (m / 2) ≡ keep g (up_from (suc p) w) = as_keep w (suc p) (m / 2) g (λ i. ap g (suc-add p i ∙ sym (add-suc p i)) ∙ h (suc i)) in
    put_keep (m % 2) p (positions w (suc p) (m / 2)) ∙ ap₂ (λ (b : Bool) (l : List ℕ). keep_if b p l) (sym here) rest

pub bits_keep : (w m : ℕ) → bits_of w m ≡ keep (has_bit m) (up_from 0 w)
bits_keep w m = as_keep w 0 m (has_bit m) (λ i. ap (has_bit m) (zero-add i))

-- a mask whose bits are known by a test
bits_by : (w m : ℕ) (f : ℕ → Bool) → ((i : ℕ) → i < w → has_bit m i ≡ f i) → bits_of w m ≡ keep f (up_from 0 w)
bits_by w m f h = bits_keep w m ∙ keep_same (has_bit m) f (up_from 0 w) (λ i e. h i (omega (arith, (up_parts 0 w i e).1)))

-- a position of a mask is a set bit below the width
pub bits_below : (w m i : ℕ) → has i (bits_of w m) ≡ true → i < w
bits_below w m i e =
    let up = (up_parts 0 w i (and_parts (has i (up_from 0 w)) (has_bit m i) (sym (has_keep i (has_bit m) (up_from 0 w)) ∙ ap (has i) (sym (bits_keep w m)) ∙ e)).0).1 in
    omega arith

pub bits_has : (w m i : ℕ) → i < w → has i (bits_of w m) ≡ has_bit m i
bits_has w m i h =
    ap (has i) (bits_keep w m) ∙ has_keep i (has_bit m) (up_from 0 w)
    ∙ ap (λ (t : Bool). t && has_bit m i) (has_up i 0 w ∙ between_in 0 (0 + w) i (omega arith) (omega arith))

-- the list of a mask's positions from a test of membership
pub bits_members : (w m : ℕ) (f : ℕ → Bool) → ((i : ℕ) → i < w → has i (bits_of w m) ≡ f i) → bits_of w m ≡ keep f (up_from 0 w)
bits_members w m f h = bits_by w m f (λ i l. sym (bits_has w m i l) ∙ h i l)

-- masks with the same positions are the same mask
pub bits_injective : (w m n : ℕ) → m < 2 ^ w → n < 2 ^ w → bits_of w m ≡ bits_of w n → m ≡ n
bits_injective w m n hm hn e = same_bits w m n hm hn (λ i h. sym (bits_has w m i h) ∙ ap (has i) e ∙ bits_has w n i h)

pub no_bits : (w p : ℕ) → positions w p 0 ≡ []
unfolding positions
no_bits zero p = refl
no_bits (suc w) p = no_bits w (suc p)

-- ---- the operations

pub bits_span : (w a b : ℕ) → a ≤ b → b ≤ w → bits_of w (span a b) ≡ up_from a (b - a)
bits_span w a b h l = bits_by w (span a b) (is_between a b) (λ i k. has_span a b i) ∙ keep_between w a b h l

-- what `from_to` computes: w ones, shifted right by those too many, and then to their place
pub bits_from_to : (w a b : ℕ) → Ordered w a b → bits_of w (((2 ^ w - 1) / 2 ^ (w - (b - a)) * 2 ^ a) % 2 ^ w) ≡ up_from a (b - a)
bits_from_to w a b o =
    ap (bits_of w) (span_shifted w a b o.rising o.inside) ∙ bits_span w a b o.rising o.inside

-- and where there are none
pub bits_empty : (w a b : ℕ) → a ≡ b → bits_of w 0 ≡ up_from a (b - a)
unfolding up_from
bits_empty w a b e = let z : b - a ≡ 0 = omega arith in rw z (no_bits w 0)

-- what `single` computes
pub bits_single : (w i : ℕ) → i < w → bits_of w ((1 * 2 ^ i) % 2 ^ w) ≡ i ∷ []
unfolding up_from
bits_single w i h =
    let k : suc i - i ≡ 1 = omega arith in
    let e : span i (suc i) ≡ 2 ^ i = rw k (one-mul (2 ^ i)) in
    ap (bits_of w) (shl_one w i h ∙ sym e) ∙ bits_span w i (suc i) (omega arith) h ∙ ap (up_from i) k

pub bits_or : (w m n : ℕ) → bits_of w (bit_or m n) ≡ union_of w (bits_of w m) (bits_of w n)
bits_or w m n =
    bits_by w (bit_or m n) (λ i. has i (bits_of w m) || has i (bits_of w n)) (λ i h. has_or m n i ∙ ap₂ ◌||◌ (sym (bits_has w m i h)) (sym (bits_has w n i h)))

pub bits_and : (w m n : ℕ) → bits_of w (bit_and m n) ≡ common_of (bits_of w m) (bits_of w n)
bits_and w m n =
    bits_by w (bit_and m n) (λ i. has_bit m i && has_bit n i) (λ i h. has_and m n i)
    ∙ sym (keep_keep (has_bit n) (has_bit m) (up_from 0 w))
    ∙ ap (keep (has_bit n)) (sym (bits_keep w m))
    ∙ keep_same (has_bit n) (λ i. has i (bits_of w n)) (bits_of w m) (λ i e. sym (bits_has w n i (bits_below w m i e)))

-- the complement of the positions from a to b - 1
pub bits_skip : (w m a b : ℕ) → m < 2 ^ w → Ordered w a b → bits_of w m ≡ up_from a (b - a) → bits_of w (rest_of w m) ≡ skipping w a b
bits_skip w m a b l h e =
    bits_by w (rest_of w m) (λ i. not (is_between a b i))
    (λ i k. has_rest w m i k l ∙ ap not (sym (bits_has w m i k) ∙ ap (has i) e ∙ has_up i a (b - a) ∙ ap (λ (n : ℕ). is_between a n i) (ends h.rising)))
  where
    ends : a ≤ b → a + (b - a) ≡ b
    ends l = omega arith
