-- Why the reads took the reader's next bytes: fewer than there is room for came only where none are left. Assumes nothing.
use Rattle.std.proofs.Common.{◌≡◌, ◌⊎◌, inl, inr, ℕ, ◌+◌, ◌≤◌, ◌<◌, List, [], ◌++◌, length, take, drop, None, Some, sym, ap, ◌∙◌, subst, arith, length-take-le, append-nil}
use Rattle.std.proofs.Math.Nat.{eq-or-lt_of_le}
use Rattle.std.proofs.Math.Seq.{take-add, take-append_seam, drop-append_seam}
use Rattle.std.proofs.lemmas.List.{take_all, drop_all}
use Rattle.std.specs.Prelude.{Option}
use Rattle.std.specs.Io.KnownBytes.{Consumes, IsAtEnd}
use Rattle.std.proofs.KnownBytes.{Consumes-trans}
use Rattle.input.specs.Input.{Taken}

-- the front of k bytes and all others: a and c, where a has k bytes, or fewer and c none
front_back : (k : ℕ) (a c : List ℕ) → length a ≤ k → (length a < k → c ≡ []) → (a ≡ take k (a ++ c)) × (c ≡ drop k (a ++ c))
front_back k a c fits end = split (eq-or-lt_of_le fits)
  where
    split : (length a ≡ k) ⊎ (length a < k) → (a ≡ take k (a ++ c)) × (c ≡ drop k (a ++ c))
    split (inr few) =
        let none = end few in
        let all : a ++ c ≡ a = ap (λ l. a ++ l) none ∙ append-nil a in
        rw all (sym (take_all k a fits), none ∙ sym (drop_all k a fits))
    split (inl full) = (sym (ap (λ i. take i (a ++ c)) (sym full) ∙ take-append_seam a c), sym (ap (λ i. drop i (a ++ c)) (sym full) ∙ drop-append_seam a c))

pub taken : (old new : Option (List ℕ)) (b : List ℕ) (n : ℕ) → n ≤ length b → Consumes old new (take n b) → (n < length b → IsAtEnd new) → Taken old new b n
taken None new b n fits read end = tt
taken (Some xs) None b n fits read end = absurd read
taken (Some xs) (Some ys) b n fits read end =
    let size : length (take n b) ≡ n = length-take-le n b fits in
    let parts = front_back (length b) (take n b) ys (omega (arith, size)) (λ h. end (omega (arith, size, h))) in
    rw read (parts.0, ap Some parts.1)

-- one read more, of m bytes behind the n in xs
pub more_taken : (a b c : Option (List ℕ)) (xs ys : List ℕ) (n m : ℕ) → take n ys ≡ take n xs → Consumes a b (take n xs) → Consumes b c (take m (drop n ys)) → Consumes a c (take (n + m) ys)
more_taken a b c xs ys n m front before read =
    subst (Consumes a c) (ap (λ l. l ++ take m (drop n ys)) (sym front) ∙ sym (take-add n m ys)) (Consumes-trans a b c _ _ before read)

-- one that gave none
pub last_taken : (a b c : Option (List ℕ)) (xs ys : List ℕ) (n m : ℕ) → m ≡ 0 → n ≤ length ys → take n ys ≡ take n xs → Consumes a b (take n xs) → Consumes b c (take m (drop n ys))
    → (n < length ys → IsAtEnd c) → Taken a c ys n
last_taken a b c xs ys n m none fits front before read end =
    let all = more_taken a b c xs ys n m front before read in
    let same : n + m ≡ n = omega (arith, none) in
    taken a c ys n fits (subst (λ k. Consumes a c (take k ys)) same all) end
