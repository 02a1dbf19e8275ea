-- The library's four bytes of a number, and the first n of them. Assumes nothing.
use Rattle.std.proofs.Common.{◌≡◌, ℕ, zero, suc, ◌+◌, ◌-◌, ◌*◌, ◌/◌, ◌%◌, ◌≤◌, List, [], ◌∷◌, ◌++◌, length, take, drop, refl, sym, ap, subst, append_assoc, ◌∙◌, suc-add, arith}
use Rattle.std.proofs.lemmas.List.Edits.{sets, sets-eq}
use Rattle.std.proofs.lemmas.List.{drop-drop, length-drop, length-take-le}
use borrow.Rule.Slice.PartMut.{put_mid}
use Rattle.std.specs.List.{slice_index}
use Rattle.model.specs.Store.{bytes_of, number}

-- what from_le_bytes gives of four bytes
abbrev pub from_four : List ℕ → ℕ
from_four bytes = slice_index bytes 0 + slice_index bytes 1 * 256 + slice_index bytes 2 * 65536 + slice_index bytes 3 * 16777216

length_bytes_of : (n v : ℕ) → length (bytes_of n v) ≡ n
length_bytes_of zero v = refl
length_bytes_of (suc n) v = ap suc (length_bytes_of n (v / 256))

take_bytes_of : (n k v : ℕ) → take n (bytes_of (n + k) v) ≡ bytes_of n v
take_bytes_of zero k v = refl
take_bytes_of (suc n) k v = rw (suc-add n k) (ap (λ (l : List ℕ). v % 256 ∷ l) (take_bytes_of n k (v / 256)))

-- the bytes that to_le_bytes gives
four_bytes : (v : ℕ) → v % 256 ∷ v / 256 % 256 ∷ v / 65536 % 256 ∷ v / 16777216 % 256 ∷ [] ≡ bytes_of 4 v
four_bytes v =
    let c : v / 65536 ≡ v / 256 / 256 = omega arith in
    let d : v / 16777216 ≡ v / 256 / 256 / 256 = omega arith in
    rw (c, d) refl

-- n low bytes, stored in the part from p to p + n
pub put_low : (n v p : ℕ) (o bytes : List ℕ) → n ≤ 4 → p + n ≤ length o → bytes ≡ v % 256 ∷ v / 256 % 256 ∷ v / 65536 % 256 ∷ v / 16777216 % 256 ∷ []
    → put_mid p (p + n - p) o (take n bytes) ≡ sets o p (bytes_of n v)
put_low n v p o bytes few room b =
    let k : p + n - p ≡ n = omega arith in
    let four : n + (4 - n) ≡ 4 = omega arith in
    let e : take n bytes ≡ bytes_of n v = ap (take n) (b ∙ four_bytes v) ∙ ap (λ (m : ℕ). take n (bytes_of m v)) (sym four) ∙ take_bytes_of n (4 - n) v in
    let l = length_bytes_of n v in
    rw (sets-eq (bytes_of n v) o p (omega arith), e, k, l, drop-drop n p o) (sym (append_assoc (take p o) (bytes_of n v) (drop (p + n) o)))

-- up to four bytes, filled up with zeros, are worth their number
filled : (ys : List ℕ) → length ys ≤ 4 → from_four (ys ++ drop (length ys) (0 ∷ 0 ∷ 0 ∷ 0 ∷ [])) ≡ number ys
filled [] h = refl
filled (a ∷ []) h = omega arith
filled (a ∷ b ∷ []) h = omega arith
filled (a ∷ b ∷ c ∷ []) h = omega arith
filled (a ∷ b ∷ c ∷ d ∷ []) h = omega arith
filled (a ∷ b ∷ c ∷ d ∷ e ∷ ys) h = absurd (omega arith)

pub get_low : (n p : ℕ) (t ys : List ℕ) → n ≤ 4 → p + n ≤ length t → ys ≡ take (p + n - p) (drop p t)
    → from_four (ys ++ drop n (0 ∷ 0 ∷ 0 ∷ 0 ∷ [])) ≡ number (take n (drop p t))
get_low n p t ys few room e =
    let k : p + n - p ≡ n = omega arith in
    let y : ys ≡ take n (drop p t) = e ∙ ap (λ (m : ℕ). take m (drop p t)) k in
    let l : length ys ≡ n = ap length y ∙ length-take-le n (drop p t) (rw (length-drop p t) (omega arith)) in
    subst (λ (m : ℕ). from_four (ys ++ drop m (0 ∷ 0 ∷ 0 ∷ 0 ∷ [])) ≡ number (take n (drop p t))) l (filled ys (omega arith) ∙ ap number y)
