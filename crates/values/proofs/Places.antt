-- Values among the words of a column: one that is put is there, the others are as they were, and so are the words before the values. Assumes nothing.
use mathlib.Core.Path.{◌≡◌, refl, sym, ap, ◌∙◌, subst}
use mathlib.Core.Logic.{◌≢◌}
use mathlib.Core.List.{List, [], ◌∷◌, ◌++◌, append_assoc}
use Prim.Native.Nat.{ℕ, suc, ◌+◌, ◌*◌, ◌-◌, ◌^◌, ◌≤◌, ◌<◌}
use native.Mathlib.Omega.{arith}
use native.Mathlib.Decide.{dec_lt}
use lib.ListN.{length, get_or, set, take, drop, length-take, length-drop}
use lib.Seq.{sets, sets-eq, take_at, drop_at, length-take-le, take-set-le, drop-set-lt, get_or-set_other, get_or-take, get_or-drop, ext_get_or}
use Rattle.model.proofs.ListLaws.{set_before, drop_later}
use Rattle.words.specs.declared.Shape.{Shape}
use Rattle.words.specs.Offsets.{ROWS}
use Rattle.words.specs.Shape.{value_place, column_len}
use Rattle.words.specs.Stores.{stores}
use Rattle.words.proofs.Part.{between_front}
use Rattle.words.proofs.Offsets.{values_len_apart}
use Rattle.words.proofs.Stores.{StoresBelow, drop_stores}
use Rattle.values.specs.Values.{digits, value_at}
use Rattle.values.proofs.Numbers.{digits_take, words_from}

-- ---- a run of words that is stored

-- what stands before it, and what stands after it
pub take_before : (xs l : List ℕ) (p n : ℕ) → n ≤ p → take n (sets l p xs) ≡ take n l
take_before [] l p n h = refl
take_before (x ∷ xs) l p n h = take_before xs (set l p x) (suc p) n (omega arith) ∙ take-set-le n l p x h

pub drop_after : (xs l : List ℕ) (p n : ℕ) → p + length xs ≤ n → drop n (sets l p xs) ≡ drop n l
drop_after [] l p n h = refl
drop_after (x ∷ xs) l p n h = drop_after xs (set l p x) (suc p) n (omega arith) ∙ drop-set-lt n l p x (omega arith)

pub word_before : (xs l : List ℕ) (p q : ℕ) → q < p → get_or (sets l p xs) q 0 ≡ get_or l q 0
word_before xs l p q h =
    sym (get_or-take p (sets l p xs) q 0 h) ∙ ap (λ (t : List ℕ). get_or t q 0) (take_before xs l p p (omega arith)) ∙ get_or-take p l q 0 h

pub word_after : (xs l : List ℕ) (p q : ℕ) → p + length xs ≤ q → get_or (sets l p xs) q 0 ≡ get_or l q 0
word_after [] l p q h = refl
word_after (x ∷ xs) l p q h = word_after xs (set l p x) (suc p) q (omega arith) ∙ get_or-set_other l p q x 0 (omega arith)

-- the words that were stored, and as many before or after them
pub run_hit : (xs l : List ℕ) (p d : ℕ) → length xs ≡ d → p + d ≤ length l → take d (drop p (sets l p xs)) ≡ xs
run_hit xs l p d e h =
    let r = drop (p + length xs) l in
    ap (λ (t : List ℕ). take d (drop p t)) (sets-eq xs l p (omega arith) ∙ append_assoc (take p l) xs r)
    ∙ ap (take d) (drop_at (take p l) (xs ++ r) p (length-take-le p l (omega arith)))
    ∙ take_at xs r d e

pub run_before : (xs l : List ℕ) (p q d : ℕ) → q + d ≤ p → take d (drop q (sets l p xs)) ≡ take d (drop q l)
run_before xs l p q d h =
    let e : q + d - q ≡ d = omega arith in
    subst (λ (n : ℕ). take n (drop q (sets l p xs)) ≡ take n (drop q l)) e (between_front p q (q + d) l (sets l p xs) h (take_before xs l p p (omega arith)))

pub run_after : (xs l : List ℕ) (p q d : ℕ) → p + length xs ≤ q → take d (drop q (sets l p xs)) ≡ take d (drop q l)
run_after xs l p q d h = ap (take d) (drop_after xs l p q h)

-- as many words of a list that has the same there
pub run_same : (w w' : List ℕ) (p d : ℕ) → length w' ≡ length w → ((q : ℕ) → p ≤ q → q < p + d → get_or w' q 0 ≡ get_or w q 0) → take d (drop p w') ≡ take d (drop p w)
run_same w w' p d e f =
    ext_get_or 0 (take d (drop p w')) (take d (drop p w)) (simp (length-take, length-drop, e))
    (λ i h.
    let b : i < d = omega (arith, length-take d (drop p w')) in
    get_or-take d (drop p w') i 0 b ∙ get_or-drop p w' i 0 ∙ f (p + i) (omega arith) (omega arith) ∙ sym (get_or-drop p w i 0) ∙ sym (get_or-take d (drop p w) i 0 b))

-- stores before a run are as well done first
pub stores_run : (w : List ℕ) (ss : List (ℕ × ℕ)) (xs : List ℕ) (k p : ℕ) → k ≤ p → StoresBelow k ss → stores (sets w p xs) ss ≡ sets (stores w ss) p xs
stores_run w [] xs k p h b = refl
stores_run w (s ∷ ss) xs k p h b =
    ap (λ (l : List ℕ). stores l ss) (set_before xs w s.0 p s.1 (omega arith)) ∙ stores_run (set w s.0 s.1) ss xs k p h b.1

-- ---- in a column

module _ (z : Shape) where
  -- a row's value is inside
  pub value_inside : (i : ℕ) → i < z.capacity → value_place z i + z.stride ≤ column_len z
  value_inside i h = omega (arith, values_len_apart z.stride i z.capacity h)

  -- a value xs that is put at i
  module _ (w xs : List ℕ) (i : ℕ) where
    pub value_hit : length xs ≡ z.stride → length w ≡ column_len z → i < z.capacity → value_at z (sets w (value_place z i) xs) i ≡ digits xs
    value_hit e size h = ap digits (run_hit xs w (value_place z i) z.stride e (omega (arith, value_inside i h)))

    pub value_miss : length xs ≡ z.stride → (j : ℕ) → j ≢ i → value_at z (sets w (value_place z i) xs) j ≡ value_at z w j
    value_miss e j ne =
        elim (dec_lt j i) [
          | yes h ↦ ap digits (run_before xs w (value_place z i) (value_place z j) z.stride (omega (arith, values_len_apart z.stride j i h)))
          | no h ↦ ap digits (let l : i < j = omega arith in run_after xs w (value_place z i) (value_place z j) z.stride (omega (arith, values_len_apart z.stride i j l)))
        ]

    -- the head, the entities and the lookups
    pub links_miss : (q : ℕ) → q < ROWS + 4 * z.capacity → get_or (sets w (value_place z i) xs) q 0 ≡ get_or w q 0
    links_miss q h = word_before xs w (value_place z i) q (omega arith)

    -- stores there are as well done first
    pub stores_put : (ss : List (ℕ × ℕ)) → StoresBelow (ROWS + 4 * z.capacity) ss → stores (sets w (value_place z i) xs) ss ≡ sets (stores w ss) (value_place z i) xs
    stores_put ss b = stores_run w ss xs (ROWS + 4 * z.capacity) (value_place z i) (omega arith) b

  module _ (w w' : List ℕ) (i : ℕ) where
    -- the values of lists that agree from the values on
    pub value_rest : drop (ROWS + 4 * z.capacity) w' ≡ drop (ROWS + 4 * z.capacity) w → value_at z w' i ≡ value_at z w i
    value_rest e = ap (λ (l : List ℕ). digits (take z.stride l)) (drop_later (ROWS + 4 * z.capacity) (value_place z i) w w' (omega arith) e)

    pub value_same : length w' ≡ length w → ((q : ℕ) → ROWS + 4 * z.capacity ≤ q → get_or w' q 0 ≡ get_or w q 0) → value_at z w' i ≡ value_at z w i
    value_same e f = ap digits (run_same w w' (value_place z i) z.stride e (λ q h k. f q (omega arith)))

  -- stores before the values leave them
  pub value_stores : (w : List ℕ) (ss : List (ℕ × ℕ)) → StoresBelow (ROWS + 4 * z.capacity) ss → (i : ℕ) → value_at z (stores w ss) i ≡ value_at z w i
  value_stores w ss b i = value_rest w (stores w ss) i (drop_stores (ROWS + 4 * z.capacity) w ss b)

  -- a value has no more bytes than its words
  pub value_small : (w : List ℕ) → ((q : ℕ) → get_or w q 0 < 4294967296) → (i : ℕ) → value_at z w i < 256 ^ (4 * z.stride)
  value_small w f i = digits_take z.stride (drop (value_place z i) w) (words_from (value_place z i) w f)
