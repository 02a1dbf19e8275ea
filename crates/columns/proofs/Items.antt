-- Items of d words each, as they stand one after another in a list of words: entities, of two, and values. Assumes nothing.
use mathlib.Core.Path.{◌≡◌, refl, sym, ap, ap₂, ◌∙◌}
use mathlib.Core.List.{List, [], ◌∷◌, ◌++◌}
use Prim.Native.Nat.{ℕ, zero, suc, ◌+◌, ◌*◌, ◌/◌, ◌%◌, ◌≤◌, ◌<◌}
use native.Mathlib.Nat.{zero-add, mul-zero, mul-suc, add-mul-mod_self_left, add-mul-div_left, mod-eq_of_lt, div-eq_of_lt}
use native.Mathlib.Omega.{arith}
use lib.ListN.{length, get_or, take, drop}
use lib.Seq.{slice_empty, slice-cons, take_at, drop_at, take-add, drop-drop}
use Rattle.model.specs.Model.{Entity}
use Rattle.model.specs.Entries.{entity_words, in_words, value_words, part}
use Rattle.model.proofs.Entries.{in_words_law as length_in_words}
use Rattle.values.specs.Values.{digits}
use Rattle.values.proofs.Numbers.{Words}

module _ {A : Type 0} (f : A → List ℕ) where
  abbrev pub items : List A → List ℕ
  items [] = []
  items (x ∷ xs) = f x ++ items xs

  module _ (d : ℕ) (y : A) where
    -- words in which the items of l stand from base on hold the items from a on at base + d * a
    module _ (l : List A) (w : List ℕ) (base : ℕ) (there : (i : ℕ) → i < length l → take d (drop (base + d * i) w) ≡ f (get_or l i y)) where
      pub items_part : (m a : ℕ) → a + m ≤ length l → items (part a (a + m) l) ≡ take (d * m) (drop (base + d * a) w)
      items_part zero a h =
          let e : a + 0 ≡ a = omega arith in
          ap (λ (n : ℕ). items (part a n l)) e ∙ ap items (slice_empty a l) ∙ ap (λ (n : ℕ). take n (drop (base + d * a) w)) (sym (mul-zero d))
      items_part (suc m) a h =
          let p : ℕ = base + d * a in
          let e : a + suc m ≡ suc a + m = omega arith in
          let next : base + d * suc a ≡ p + d = omega (arith, mul-suc d a) in
          let more : d * suc m ≡ d + d * m = omega (arith, mul-suc d m) in
          let rest : items (part (suc a) (a + suc m) l) ≡ take (d * m) (drop d (drop p w)) =
          ap (λ (n : ℕ). items (part (suc a) n l)) e ∙ items_part m (suc a) (omega arith) ∙ ap (λ (n : ℕ). take (d * m) (drop n w)) next ∙ ap (take (d * m)) (sym (drop-drop d p w)) in
          ap items (slice-cons a (a + suc m) l y (omega arith) h)
          ∙ ap₂ (λ (u v : List ℕ). u ++ v) (sym (there a (omega arith))) rest
          ∙ sym (take-add d (d * m) (drop p w))
          ∙ ap (λ (n : ℕ). take n (drop p w)) (sym more)

    -- the words of the item at a place
    pub item_at : ((x : A) → length (f x) ≡ d) → (l : List A) (i : ℕ) → i < length l → take d (drop (d * i) (items l)) ≡ f (get_or l i y)
    item_at size [] i h = absurd (omega arith)
    item_at size (x ∷ l) zero h = ap (λ (n : ℕ). take d (drop n (f x ++ items l))) (mul-zero d) ∙ take_at (f x) (items l) d (size x)
    item_at size (x ∷ l) (suc i) h =
        let more : d * suc i ≡ d + d * i = omega (arith, mul-suc d i) in
        ap (λ (n : ℕ). take d (drop n (f x ++ items l))) more
        ∙ ap (take d) (sym (drop-drop (d * i) d (f x ++ items l)) ∙ ap (drop (d * i)) (drop_at (f x) (items l) d (size x)))
        ∙ item_at size l i (omega arith)

-- ---- entities

abbrev pub entity_item : Entity → List ℕ
entity_item e = e.index ∷ e.version ∷ []

pub entity_items : (l : List Entity) → entity_words l ≡ items entity_item l
entity_items [] = refl
entity_items (e ∷ l) = ap (λ (u : List ℕ). e.index ∷ e.version ∷ u) (entity_items l)

-- the two words of the entity at a place
module _ (y : Entity) where
  pub index_at : (l : List Entity) (i : ℕ) → i < length l → get_or (entity_words l) (2 * i) 0 ≡ (get_or l i y).index
  index_at [] i h = absurd (omega arith)
  index_at (e ∷ l) zero h = refl
  index_at (e ∷ l) (suc i) h =
      let two : 2 * suc i ≡ suc (suc (2 * i)) = omega arith in
      ap (λ (n : ℕ). get_or (entity_words (e ∷ l)) n 0) two ∙ index_at l i (omega arith)

  pub version_at_law : (l : List Entity) (i : ℕ) → i < length l → get_or (entity_words l) (2 * i + 1) 0 ≡ (get_or l i y).version
  version_at_law [] i h = absurd (omega arith)
  version_at_law (e ∷ l) zero h = refl
  version_at_law (e ∷ l) (suc i) h =
      let two : 2 * suc i + 1 ≡ suc (suc (2 * i + 1)) = omega arith in
      ap (λ (n : ℕ). get_or (entity_words (e ∷ l)) n 0) two ∙ version_at_law l i (omega arith)

-- ---- values

pub value_items : (d : ℕ) (l : List ℕ) → value_words d l ≡ items (in_words d) l
value_items d [] = refl
value_items d (x ∷ l) = ap (λ (u : List ℕ). in_words d x ++ u) (value_items d l)

-- a number in words, and the number of these
digits_in_words : (d x : ℕ) → 1 ≤ d → digits (in_words d x) ≡ x
digits_in_words zero x h = absurd (omega arith)
digits_in_words (suc zero) x h = omega arith
digits_in_words (suc (suc d)) x h = omega (arith, digits_in_words (suc d) (x / 4294967296) (omega arith))

-- the value at a place, of its d words
pub value_at_law : (d : ℕ) (l : List ℕ) (i : ℕ) → 1 ≤ d → i < length l → digits (take d (drop (d * i) (value_words d l))) ≡ get_or l i 0
value_at_law d l i some h =
    ap (λ (u : List ℕ). digits (take d (drop (d * i) u))) (value_items d l)
    ∙ ap digits (item_at (in_words d) d 0 (length_in_words d) l i h)
    ∙ digits_in_words d (get_or l i 0) some

-- words are the number that they are, in as many words
low : (x n : ℕ) → x < 4294967296 → (x + 4294967296 * n) % 4294967296 ≡ x
low x n h = add-mul-mod_self_left x 4294967296 n ∙ mod-eq_of_lt h

high : (x n : ℕ) → x < 4294967296 → (x + 4294967296 * n) / 4294967296 ≡ n
high x n h = add-mul-div_left x n {y = 4294967296} (omega arith) ∙ ap (λ (m : ℕ). m + n) (div-eq_of_lt h) ∙ zero-add n

in_words_digits : (ws : List ℕ) → Words ws → in_words (length ws) (digits ws) ≡ ws
in_words_digits [] h = refl
in_words_digits (x ∷ []) h = let e : x + 4294967296 * 0 ≡ x = omega arith in ap (λ (n : ℕ). n ∷ []) e
in_words_digits (x ∷ y ∷ ws) h =
    let n = digits (y ∷ ws) in
    ap₂ (λ (a : ℕ) (b : List ℕ). a ∷ b) (low x n h.0) (ap (in_words (suc (length ws))) (high x n h.0) ∙ in_words_digits (y ∷ ws) h.1)

words_take : (d : ℕ) (ws : List ℕ) → Words ws → Words (take d ws)
words_take zero ws h = tt
words_take (suc d) [] h = tt
words_take (suc d) (x ∷ ws) h = (h.0, words_take d ws h.1)

pub in_words_law : (d : ℕ) (ws : List ℕ) → Words ws → length (take d ws) ≡ d → in_words d (digits (take d ws)) ≡ take d ws
in_words_law d ws h e = ap (λ (n : ℕ). in_words n (digits (take d ws))) (sym e) ∙ in_words_digits (take d ws) (words_take d ws h)
