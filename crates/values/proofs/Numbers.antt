-- A value's words as one number, and as bytes: laws over how many words there are. Assumes nothing.
use mathlib.Core.Path.{◌≡◌, refl, sym, ap, ◌∙◌}
use mathlib.Core.List.{List, [], ◌∷◌, ◌++◌}
use Prim.Native.Nat.{ℕ, zero, suc, ◌+◌, ◌*◌, ◌^◌, ◌≤◌, ◌<◌}
use native.Mathlib.Omega.{arith}
use native.Mathlib.Nat.{pow-suc, add-zero}
use lib.Dec.{lit<}
use lib.ListN.{length, get_or, take, drop, replicate, length-drop}
use lib.Seq.{sets, length-take-le, get_or-drop, take-take}
use Rattle.model.specs.Store.{bytes_of, number}
use Rattle.model.proofs.ListLaws.{sets_join, halves}
use Rattle.codec.proofs.Numbers.{bytes_of_join, number_join}
use Rattle.values.specs.declared.Value.{Value}
use Rattle.values.specs.Values.{digits, words_of}

-- ---- words

-- the numbers of a list are words
abbrev pub Words : List ℕ → Type 0
Words [] = Unit {0}
Words (x ∷ xs) = (x < 4294967296) × Words xs

-- those of lent words are, at each place
pub words_all : (w : List ℕ) → ((q : ℕ) → get_or w q 0 < 4294967296) → Words w
words_all [] f = tt
words_all (x ∷ w) f = (f 0, words_all w (λ q. f (suc q)))

pub words_from : (p : ℕ) (w : List ℕ) → ((q : ℕ) → get_or w q 0 < 4294967296) → Words (drop p w)
words_from p w f = words_all (drop p w) (λ q. rw (get_or-drop p w q 0) (f (p + q)))

pub length_words_of : (d : ℕ) (x : Value) → d ≤ 4 → length (words_of d x) ≡ d
length_words_of d x h = length-take-le d (x.first ∷ x.second ∷ x.third ∷ x.fourth ∷ []) h

-- ---- the number

pub digits_zeros : (d n : ℕ) → digits (take d (replicate n 0)) ≡ 0
digits_zeros zero n = refl
digits_zeros (suc d) zero = refl
digits_zeros (suc d) (suc n) = omega (arith, digits_zeros d n)

-- a word is four bytes
four : (k : ℕ) → 256 ^ (4 + k) ≡ 4294967296 * 256 ^ k
four k = let e : 4 + k ≡ suc (suc (suc (suc k))) = omega arith in rw (e, pow-suc, pow-suc, pow-suc, pow-suc) (omega arith)

more : (n : ℕ) → 256 ^ (4 * suc n) ≡ 4294967296 * 256 ^ (4 * n)
more n = let e : 4 * suc n ≡ 4 + 4 * n = omega arith in rw e (four (4 * n))

some_power : (n : ℕ) → 0 < 256 ^ (4 * n)
some_power zero = lit< tt
some_power (suc n) = rw (more n) (omega (arith, some_power n))

-- the first d words, or fewer if there are no more
pub digits_take : (d : ℕ) (ws : List ℕ) → Words ws → digits (take d ws) < 256 ^ (4 * d)
digits_take zero ws h = lit< tt
digits_take (suc d) [] h = some_power (suc d)
digits_take (suc d) (x ∷ ws) h = rw (more d) (omega (arith, h.0, digits_take d ws h.1))

-- ---- written as bytes

-- each word's four bytes, one word after another
abbrev pub word_bytes : List ℕ → List ℕ
word_bytes [] = []
word_bytes (x ∷ xs) = bytes_of 4 x ++ word_bytes xs

pub bytes_of_words : (ws : List ℕ) → Words ws → bytes_of (4 * length ws) (digits ws) ≡ word_bytes ws
bytes_of_words [] h = refl
bytes_of_words (x ∷ ws) h =
    let e : 4 * suc (length ws) ≡ 4 + 4 * length ws = omega arith in
    rw e (bytes_of_join 4 (4 * length ws) x (digits ws) h.0 ∙ ap (λ (l : List ℕ). bytes_of 4 x ++ l) (bytes_of_words ws h.1))

-- words written one by one, from the byte at + k on
abbrev pub written : List ℕ → ℕ → ℕ → List ℕ → List ℕ
written o at k [] = o
written o at k (x ∷ xs) = written (sets o (at + k) (bytes_of 4 x)) at (4 + k) xs

written_run : (o : List ℕ) (at k : ℕ) (ws : List ℕ) → written o at k ws ≡ sets o (at + k) (word_bytes ws)
written_run o at k [] = refl
written_run o at k (x ∷ ws) =
    let o' = sets o (at + k) (bytes_of 4 x) in
    let e : at + (4 + k) ≡ at + k + 4 = omega arith in
    written_run o' at (4 + k) ws ∙ ap (λ (p : ℕ). sets o' p (word_bytes ws)) e ∙ sets_join o (at + k) (bytes_of 4 x) (word_bytes ws)

-- d words written one by one are the bytes of their number
pub written_number : (o : List ℕ) (at d x : ℕ) (ws : List ℕ) → length (x ∷ ws) ≡ d → Words (x ∷ ws)
    → written (sets o at (bytes_of 4 x)) at 4 ws ≡ sets o at (bytes_of (4 * d) (digits (x ∷ ws)))
written_number o at d x ws e h =
    written_run (sets o at (bytes_of 4 x)) at 4 ws
    ∙ sets_join o at (bytes_of 4 x) (word_bytes ws)
    ∙ ap (sets o at) (sym (bytes_of_words (x ∷ ws) h) ∙ ap (λ (n : ℕ). bytes_of (4 * n) (digits (x ∷ ws))) e)

-- ---- read from bytes

-- d words read one by one, from the byte at + k on
abbrev pub read_words : ℕ → List ℕ → ℕ → ℕ → List ℕ
read_words zero t at k = []
read_words (suc d) t at k = number (take 4 (drop (at + k) t)) ∷ read_words d t at (4 + k)

read_run : (d : ℕ) (t : List ℕ) (at k : ℕ) → at + k + 4 * d ≤ length t → digits (read_words d t at k) ≡ number (take (4 * d) (drop (at + k) t))
read_run zero t at k h = refl
read_run (suc d) t at k h =
    let e : 4 * suc d ≡ 4 + 4 * d = omega arith in
    let p : at + (4 + k) ≡ at + k + 4 = omega arith in
    let l = drop (at + k) t in
    let b : length (take (4 + 4 * d) l) ≡ 4 + 4 * d = length-take-le (4 + 4 * d) l (omega (arith, length-drop (at + k) t)) in
    let r = read_run d t at (4 + k) (omega arith) in
    let q : number (take (4 + 4 * d) l) ≡ number (take 4 l) + 4294967296 * number (take (4 * d) (drop (at + k + 4) t)) =
    number_join 4 (take (4 + 4 * d) l) (omega arith)
    ∙ rw (take-take 4 (4 + 4 * d) l (omega arith), halves t (at + k) 4 (4 * d) (omega arith)) in
    rw (e, q, r, p)

-- a word and d more, read one by one, are the number in the bytes
pub read_number : (d : ℕ) (t : List ℕ) (at : ℕ) → at + 4 * suc d ≤ length t
    → digits (number (take 4 (drop at t)) ∷ read_words d t at 4) ≡ number (take (4 * suc d) (drop at t))
read_number d t at h = rw (add-zero at) at (read_run (suc d) t at 0 (omega arith))
