-- Laws on lists that speak of nothing else: counts, places and swaps; what a list has in front and behind; bytes stored. Assumes nothing.
use mathlib.Core.Path.{◌≡◌, refl, ap, ap₂, sym, ◌∙◌, subst}
use mathlib.Core.Logic.{◌≢◌}
use mathlib.Core.Bool.{Bool, true, false, cond, not}
use mathlib.Core.List.{List, [], ◌∷◌, ◌++◌, map, append_assoc, append-nil}
use Prim.Native.Nat.{ℕ, zero, suc, ◌+◌, ◌-◌, ◌≤◌, ◌<◌, zero-le, suc-le-suc}
use native.Mathlib.Omega.{arith}
use native.Mathlib.Nat.{le_of_suc-le-suc, not-suc-le-zero, suc-add, add-suc, add-zero, zero-add}
use native.Mathlib.Decide.{ℕ_discrete}
use lib.ListN.{length, take, drop, get_or, set, replicate, length-set, take-append-drop, length-map, get_or-map, get_or-append, length-drop, length-append}
use lib.Seq.{set-set, set-append_left, take-set-lt, take-set-le, get_or-take, get_or-set_same, get_or-set_other, take-suc, take-suc-set, set-get_or, lt-length-set, length-take-le, take_all, sets, take-take, drop-drop, drop-cons, get_or-drop, ext_get_or, sets-eq, take_at, drop_at, take-add, set_comm, append_snoc, drop-append-le}
use borrow.Author.Tests.{eq-eqb, eqb-true}
use lib.Dec.{eqb}
use native.Mathlib.Numerals.{add-one}
use Rattle.model.specs.Lists.{swap, one, after, count_of, place, cut_at}
use Rattle.model.proofs.BoolLaws.{bool_cases, by-eq, by_lt, cond_same, cond_not}

module _ {A : Type 0} where
  pub length_swap : (d : A) (i j : ℕ) (l : List A) → length (swap d i j l) ≡ length l
  length_swap d i j l = simp length-set

  -- a swap inside the first n places is a swap of them
  pub take_swap_lt : (d : A) (n i j : ℕ) (l : List A) → i < n → j < n → take n (swap d i j l) ≡ swap d i j (take n l)
  take_swap_lt d n i j l hi hj = rw (take-set-lt n (set l i (get_or l j d)) j, take-set-lt n l i, get_or-take n l i d, get_or-take n l j d)

  -- a swap past the first n places leaves them
  pub take_swap_le : (d : A) (n i j : ℕ) (l : List A) → n ≤ i → n ≤ j → take n (swap d i j l) ≡ take n l
  take_swap_le d n i j l hi hj = rw (take-set-le n (set l i (get_or l j d)) j, take-set-le n l i)

  -- the element at i comes to stand behind the first c
  pub take_suc_swap : (d : A) (c i : ℕ) (l : List A) → c ≤ i → i < length l → take (suc c) (swap d i c l) ≡ take c l ++ (get_or l i d ∷ [])
  take_suc_swap d c i l hc hi =
      let h : c < length (set l i (get_or l c d)) = simp length-set (omega arith) in
      rw (take-suc-set (set l i (get_or l c d)) c, take-set-le c l i)

  pub swap_same : (d : A) (a : ℕ) (xs : List A) → swap d a a xs ≡ xs
  swap_same d a xs = set-set xs a (get_or xs a d) (get_or xs a d) ∙ set-get_or xs a d

  pub swap_equal : (d : A) (a b : ℕ) (xs : List A) → a ≡ b → xs ≡ swap d a b xs
  swap_equal d a b xs e = sym (ap (λ (k : ℕ). swap d a k xs) (sym e) ∙ swap_same d a xs)

  -- a swap in front of further elements
  pub swap_append : (d : A) (i j : ℕ) (a b : List A) → i < length a → j < length a → swap d i j (a ++ b) ≡ swap d i j a ++ b
  swap_append d i j a b hi hj =
      let p : get_or (a ++ b) i d ≡ get_or a i d = get_or-append a b d i hi in
      let q : get_or (a ++ b) j d ≡ get_or a j d = get_or-append a b d j hj in
      ap₂ (λ (u v : A). set (set (a ++ b) i u) j v) q p
      ∙ ap (λ (l : List A). set l j (get_or a i d)) (set-append_left a b i (get_or a j d) hi)
      ∙ set-append_left (set a i (get_or a j d)) b j (get_or a i d) (lt-length-set a i (get_or a j d) hj)

module _ {A : Type 0} (same : A → A → Bool) where
  pub count_append : (x : A) (s t : List A) → count_of same x (s ++ t) ≡ count_of same x s + count_of same x t
  count_append x [] t = omega arith
  count_append x (y ∷ s) t = omega (arith, count_append x s t)

  pub count_set : (x d a : A) (l : List A) (i : ℕ) → i < length l → count_of same x (set l i a) + one (same x (get_or l i d)) ≡ count_of same x l + one (same x a)
  count_set x d a [] i h = absurd (not-suc-le-zero h)
  count_set x d a (y ∷ l) zero h = omega arith
  count_set x d a (y ∷ l) (suc i) h = omega (arith, count_set x d a l i (le_of_suc-le-suc h))

  pub count_swap : (x d : A) (i j : ℕ) (l : List A) → i < length l → j < length l → count_of same x (swap d i j l) ≡ count_of same x l
  count_swap x d i j l hi hj = go (ℕ_discrete j i)
    where
      go : Dec (j ≡ i) → count_of same x (swap d i j l) ≡ count_of same x l
      go (yes e) = rw e (simp set-get_or)
      go (no e) =
          let h1 = count_set x d (get_or l j d) l i hi in
          let h2 = count_set x d (get_or l i d) (set l i (get_or l j d)) j (lt-length-set l i (get_or l j d) hj) in
          let h3 = rw (get_or-set_other l i j (get_or l j d) d e) at h2 in
          omega arith

  pub place_take : (x : A) (n : ℕ) (l : List A) → place same x l < n → place same x (take n l) ≡ place same x l
  place_take x zero l h = absurd (not-suc-le-zero h)
  place_take x (suc n) [] h = refl
  place_take x (suc n) (y ∷ l) h = go (same x y) (place_take x n l) h
    where
      go : (b : Bool) → (place same x l < n → place same x (take n l) ≡ place same x l) → after b (place same x l) < suc n → after b (place same x (take n l)) ≡ after b (place same x l)
      go true r h = refl
      go false r h = ap suc (r (le_of_suc-le-suc h))

  pub place_append : (x : A) (a b : List A) → place same x a < length a → place same x (a ++ b) ≡ place same x a
  place_append x [] b h = absurd (not-suc-le-zero h)
  place_append x (y ∷ a) b h = go (same x y) (place_append x a b) h
    where
      go : (c : Bool) → (place same x a < length a → place same x (a ++ b) ≡ place same x a) → after c (place same x a) < suc (length a) → after c (place same x (a ++ b)) ≡ after c (place same x a)
      go true r h = refl
      go false r h = ap suc (r (le_of_suc-le-suc h))

  pub place_le : (x : A) (l : List A) → place same x l ≤ length l
  place_le x [] = zero-le
  place_le x (y ∷ l) = go (same x y) (place_le x l)
    where
      go : (b : Bool) → place same x l ≤ length l → after b (place same x l) ≤ suc (length l)
      go true r = zero-le
      go false r = suc-le-suc r

  -- x is in l exactly where its place same is below the length
  pub count_place : (x : A) (l : List A) → 1 ≤ count_of same x l → place same x l < length l
  count_place x [] h = absurd (not-suc-le-zero h)
  count_place x (y ∷ l) h = go (same x y) (count_place x l) h
    where
      go : (b : Bool) → (1 ≤ count_of same x l → place same x l < length l) → 1 ≤ one b + count_of same x l → after b (place same x l) < suc (length l)
      go true r h = suc-le-suc zero-le
      go false r h = suc-le-suc (r (omega arith))

  pub place_count : (x : A) (l : List A) → place same x l < length l → 1 ≤ count_of same x l
  place_count x [] h = absurd (not-suc-le-zero h)
  place_count x (y ∷ l) h = go (same x y) (place_count x l) h
    where
      go : (b : Bool) → (place same x l < length l → 1 ≤ count_of same x l) → after b (place same x l) < suc (length l) → 1 ≤ one b + count_of same x l
      go true r h = omega arith
      go false r h = omega (arith, r (le_of_suc-le-suc h))

  -- x stands among the first n exactly where its place same is below n
  pub place_count_take : (x : A) (n : ℕ) (l : List A) → place same x l < n → n ≤ length l → 1 ≤ count_of same x (take n l)
  place_count_take x n l h hn = place_count x (take n l) (rw (place_take x n l h, length-take-le n l hn) h)

  pub count_take_place : (x : A) (n : ℕ) (l : List A) → 1 ≤ count_of same x (take n l) → place same x l < n
  count_take_place x zero l h = absurd (not-suc-le-zero h)
  count_take_place x (suc n) [] h = absurd (not-suc-le-zero h)
  count_take_place x (suc n) (y ∷ l) h = go (same x y) (count_take_place x n l) h
    where
      go : (b : Bool) → (1 ≤ count_of same x (take n l) → place same x l < n) → 1 ≤ one b + count_of same x (take n l) → after b (place same x l) < suc n
      go true r h = suc-le-suc zero-le
      go false r h = suc-le-suc (r (omega arith))

  pub count_drop_le : (x : A) (n : ℕ) (l : List A) → count_of same x (drop n l) ≤ count_of same x l
  count_drop_le x zero l = omega arith
  count_drop_le x (suc n) [] = omega arith
  count_drop_le x (suc n) (y ∷ l) = omega (arith, count_drop_le x n l)

  pub count_take_le : (x : A) (n : ℕ) (l : List A) → count_of same x (take n l) ≤ count_of same x l
  count_take_le x n l = omega (arith, count_append x (take n l) (drop n l), ap (count_of same x) (take-append-drop n l))

  pub get_d_place : ((x y : A) → same x y ≡ true → x ≡ y) → (x d : A) (l : List A) → place same x l < length l → get_or l (place same x l) d ≡ x
  get_d_place sound x d [] h = absurd (not-suc-le-zero h)
  get_d_place sound x d (y ∷ l) h = go (same x y) refl (get_d_place sound x d l) h
    where
      go : (b : Bool) → same x y ≡ b → (place same x l < length l → get_or l (place same x l) d ≡ x) → after b (place same x l) < suc (length l) → get_or (y ∷ l) (after b (place same x l)) d ≡ x
      go true e r h = sym (sound x y e)
      go false e r h = r (le_of_suc-le-suc h)

  -- where no two places have the same, it stands once
  pub apart_once : ((x y : A) → same x y ≡ true → x ≡ y) → (x d : A) (l : List A) → ((i j : ℕ) → i < length l → j < length l → i ≢ j → get_or l i d ≢ get_or l j d) → count_of same x l ≤ 1
  apart_once sound x d [] f = omega arith
  apart_once sound x d (y ∷ l) f =
      let ih = apart_once sound x d l (λ i j hi hj ne. f (suc i) (suc j) (omega arith) (omega arith) (omega arith)) in
      bool_cases (same x y)
      (λ t.
      let none : ¬ (1 ≤ count_of same x l) = λ h.
      let p = count_place x l h in
      f 0 (suc (place same x l)) (omega arith) (omega arith) (omega arith) (sym (sound x y t) ∙ sym (get_d_place sound x d l p)) in
      omega (arith, ap one t))
      (λ t. omega (arith, ap one t))

-- ---- what stands at a place

module _ {A : Type 0} (same : A → A → Bool) (self : (x : A) → same x x ≡ true) (d : A) where
  pub count_at_law : (l : List A) (i : ℕ) → i < length l → 1 ≤ count_of same (get_or l i d) l
  count_at_law [] i h = absurd (not-suc-le-zero h)
  count_at_law (x ∷ l) zero h = omega (arith, ap one (self x))
  count_at_law (x ∷ l) (suc i) h = omega (arith, count_at_law l i (le_of_suc-le-suc h))

  -- no place before x's has x
  pub place_first : (x : A) (l : List A) (i : ℕ) → i < length l → get_or l i d ≡ x → place same x l ≤ i
  place_first x [] i h e = absurd (not-suc-le-zero h)
  place_first x (y ∷ l) zero h e = rw (subst (λ (z : A). same x z ≡ true) (sym e) (self x)) (omega arith)
  place_first x (y ∷ l) (suc i) h e = go (same x y) (place_first x l i (le_of_suc-le-suc h) e)
    where
      go : (b : Bool) → place same x l ≤ i → after b (place same x l) ≤ suc i
      go true r = zero-le
      go false r = suc-le-suc r

  -- where x stands once, a place that has x is its place
  pub place_once : (x : A) (l : List A) → count_of same x l ≤ 1 → (i : ℕ) → i < length l → get_or l i d ≡ x → place same x l ≡ i
  place_once x [] s i h e = absurd (not-suc-le-zero h)
  place_once x (y ∷ l) s zero h e = rw (subst (λ (z : A). same x z ≡ true) (sym e) (self x))
  place_once x (y ∷ l) s (suc i) h e =
      let m : 1 ≤ count_of same x l = subst (λ (z : A). 1 ≤ count_of same z l) e (count_at_law l i (le_of_suc-le-suc h)) in
      bool_cases (same x y)
      (λ t. absurd (omega (arith, ap one t)))
      (λ t. rw t (ap suc (place_once x l (omega (arith, ap one t)) i (le_of_suc-le-suc h) e)))

-- ---- lists with the same counts are as long

module _ {A : Type 0} (same : A → A → Bool) (sound : (x y : A) → same x y ≡ true → x ≡ y) (self : (x : A) → same x x ≡ true) where
  abbrev less : A → List A → List A
  less x [] = []
  less x (y ∷ l) = cond (same x y) l (y ∷ less x l)

  length_less : (x : A) (l : List A) → 1 ≤ count_of same x l → length l ≡ suc (length (less x l))
  length_less x [] h = absurd (not-suc-le-zero h)
  length_less x (y ∷ l) h = go (same x y) (length_less x l) h
    where
      go : (b : Bool) → (1 ≤ count_of same x l → length l ≡ suc (length (less x l))) → 1 ≤ one b + count_of same x l → suc (length l) ≡ suc (length (cond b l (y ∷ less x l)))
      go true r h = refl
      go false r h = ap suc (r (omega arith))

  count_less : (z x : A) (l : List A) → 1 ≤ count_of same x l → count_of same z (less x l) + one (same z x) ≡ count_of same z l
  count_less z x [] h = absurd (not-suc-le-zero h)
  count_less z x (y ∷ l) h = go (same x y) refl (count_less z x l) h
    where
      go : (b : Bool) → same x y ≡ b → (1 ≤ count_of same x l → count_of same z (less x l) + one (same z x) ≡ count_of same z l) → 1 ≤ one b + count_of same x l → count_of same z (cond b l (y ∷ less x l)) + one (same z x) ≡ one (same z y) + count_of same z l
      go true e r h = rw (sound x y e) (omega arith)
      go false e r h = omega (arith, r (omega arith))

  pub count_length_le : (l m : List A) → ((z : A) → count_of same z l ≤ count_of same z m) → length l ≤ length m
  count_length_le [] m h = zero-le
  count_length_le (x ∷ l) m h =
      let has : 1 ≤ count_of same x m = omega (arith, h x, ap one (self x)) in
      let r = count_length_le l (less x m) (λ z. omega (arith, h z, count_less z x m has)) in
      omega (arith, length_less x m has)

  pub count_length : (l m : List A) → ((z : A) → count_of same z l ≡ count_of same z m) → length l ≡ length m
  count_length l m h = omega (arith, count_length_le l m (λ z. omega (arith, h z)), count_length_le m l (λ z. omega (arith, h z)))

-- ---- f leaves those of a list that pass the test p

pub count_kept : {A : Type 0} (same : A → A → Bool) → ((x y : A) → same x y ≡ true → x ≡ y) → (p : A → Bool) (f : List A → List A) → f [] ≡ [] → ((y : A) (l : List A) → f (y ∷ l) ≡ cond (p y) (y ∷ f l) (f l))
    → (l : List A) (x : A) → count_of same x (f l) ≡ cond (p x) (count_of same x l) 0
count_kept same sound p f none more [] x = ap (count_of same x) none ∙ sym (cond_same (p x) 0)
count_kept same sound p f none more (y ∷ l) x = ap (count_of same x) (more y l) ∙ go (same x y) refl (p y) refl (count_kept same sound p f none more l x)
  where
    go : (b : Bool) → same x y ≡ b → (c : Bool) → p y ≡ c → count_of same x (f l) ≡ cond (p x) (count_of same x l) 0 → count_of same x (cond c (y ∷ f l) (f l)) ≡ cond (p x) (one b + count_of same x l) 0
    go true e true u r = let v : p x ≡ true = ap p (sound x y e) ∙ u in rw (v, e) (ap (λ (n : ℕ). 1 + n) (rw v at r))
    go true e false u r = let v : p x ≡ false = ap p (sound x y e) ∙ u in rw v (rw v at r)
    go false e true u r = rw (e, zero-add (count_of same x (f l)), zero-add (count_of same x l)) r
    go false e false u r = rw (zero-add (count_of same x l)) r

-- and where f leaves those out
pub count_left_out : {A : Type 0} (same : A → A → Bool) → ((x y : A) → same x y ≡ true → x ≡ y) → (p : A → Bool) (f : List A → List A) → f [] ≡ [] → ((y : A) (l : List A) → f (y ∷ l) ≡ cond (p y) (f l) (y ∷ f l))
    → (l : List A) (x : A) → count_of same x (f l) ≡ cond (p x) 0 (count_of same x l)
count_left_out same sound p f none more l x =
    count_kept same sound (λ y. not (p y)) f none (λ y m. more y m ∙ cond_not (p y) (f m) (y ∷ f m)) l x ∙ sym (cond_not (p x) 0 (count_of same x l))

-- ---- the element at p goes, and the last takes its place

pub count_cut_at : {A : Type 0} (same : A → A → Bool) (d : A) (p : ℕ) (l : List A) → p < length l → (x : A) → count_of same x (cut_at d p l) + one (same x (get_or l p d)) ≡ count_of same x l
count_cut_at {A} same d p l h x =
    let n : length L ≡ length l = length_swap d p q l in
    let m : q < length (set l p (get_or l q d)) = lt-length-set l p (get_or l q d) (omega arith) in
    let g : get_or L q d ≡ get_or l p d = get_or-set_same (set l p (get_or l q d)) q (get_or l p d) d m in
    let c : take q L ≡ cut_at d p l = take-set-le q (set l p (get_or l q d)) q (get_or l p d) (omega arith) in
    let e : L ≡ cut_at d p l ++ (get_or l p d ∷ []) = sym (take_all (suc q) L (omega arith)) ∙ take-suc L q d (omega arith) ∙ ap₂ (λ (a : List A) (y : A). a ++ (y ∷ [])) c g in
    omega (arith, ap (count_of same x) e, count_append same x (cut_at d p l) (get_or l p d ∷ []), count_swap same x d p q l h (omega arith))
  where
    q : ℕ
    q = length l - 1

    L : List A
    L = swap d p q l

-- one e less, where it is e's place
pub count_cut : {A : Type 0} (same : A → A → Bool) → ((x y : A) → same x y ≡ true → x ≡ y) → (d e : A) (l : List A) → 1 ≤ count_of same e l → (x : A) → count_of same x (cut_at d (place same e l) l) + one (same x e) ≡ count_of same x l
count_cut same sound d e l h x = let p = count_place same e l h in rw (get_d_place same sound e d l p) at (count_cut_at same d (place same e l) l p x)

-- ---- what holds of each item, and past the end

module _ {A : Type 0} (P : A → Type 0) (d : A) (pd : P d) where
  abbrev pub AllOf : List A → Type 0
  AllOf l = (j : ℕ) → P (get_or l j d)

  pub all_set : (l : List A) (i : ℕ) (a : A) → P a → AllOf l → AllOf (set l i a)
  all_set [] i a pa h j = h j
  all_set (x ∷ l) zero a pa h zero = pa
  all_set (x ∷ l) zero a pa h (suc j) = h (suc j)
  all_set (x ∷ l) (suc i) a pa h zero = h zero
  all_set (x ∷ l) (suc i) a pa h (suc j) = all_set l i a pa (λ m. h (suc m)) j

  pub all_take : (n : ℕ) (l : List A) → AllOf l → AllOf (take n l)
  all_take zero l h j = pd
  all_take (suc n) [] h j = pd
  all_take (suc n) (x ∷ l) h zero = h zero
  all_take (suc n) (x ∷ l) h (suc j) = all_take n l (λ m. h (suc m)) j

  pub all_snoc : (l : List A) (a : A) → P a → AllOf l → AllOf (l ++ (a ∷ []))
  all_snoc [] a pa h zero = pa
  all_snoc [] a pa h (suc j) = pd
  all_snoc (x ∷ l) a pa h zero = h zero
  all_snoc (x ∷ l) a pa h (suc j) = all_snoc l a pa (λ m. h (suc m)) j

-- ---- a function of each item

pub map_take : {A B : Type 0} (f : A → B) (n : ℕ) (l : List A) → map f (take n l) ≡ take n (map f l)
map_take f zero l = refl
map_take f (suc n) [] = refl
map_take {B} f (suc n) (x ∷ l) = ap {B = List B} (λ r. f x ∷ r) (map_take f n l)

pub map_drop : {A B : Type 0} (f : A → B) (n : ℕ) (l : List A) → map f (drop n l) ≡ drop n (map f l)
map_drop f zero l = refl
map_drop f (suc n) [] = refl
map_drop f (suc n) (x ∷ l) = map_drop f n l

-- two functions that agree on each item
pub map_at : {A B : Type 0} (f g : A → B) (d : A) (l : List A) → ((i : ℕ) → i < length l → f (get_or l i d) ≡ g (get_or l i d)) → map f l ≡ map g l
map_at f g d [] h = refl
map_at {B} f g d (x ∷ l) h = ap₂ {C = List B} (λ y ys. y ∷ ys) (h 0 (omega arith)) (map_at f g d l (λ i q. h (suc i) (omega arith)))

pub map_set : {A B : Type 0} (f : A → B) (l : List A) (i : ℕ) (a : A) → map f (set l i a) ≡ set (map f l) i (f a)
map_set f [] i a = refl
map_set f (x ∷ l) zero a = refl
map_set {B} f (x ∷ l) (suc i) a = ap {B = List B} (λ r. f x ∷ r) (map_set f l i a)

pub map_cut_at : {A B : Type 0} (f : A → B) (d : A) (p : ℕ) (l : List A) → map f (cut_at d p l) ≡ cut_at (f d) p (map f l)
map_cut_at f d p l =
    map_take f (length l - 1) (set l p (get_or l (length l - 1) d))
    ∙ rw (map_set f l p (get_or l (length l - 1) d), length-map l f, get_or-map f l (length l - 1) d)

pub map_append : {A B : Type 0} (f : A → B) (a b : List A) → map f (a ++ b) ≡ map f a ++ map f b
map_append f [] b = refl
map_append {B} f (x ∷ a) b = ap {B = List B} (λ r. f x ∷ r) (map_append f a b)

-- ---- lists of numbers

pub self_count : (k : ℕ) → one (eqb k k) ≡ 1
self_count k = ap one (eq-eqb k k refl)

pub length_zero : {A : Type 0} (l : List A) → length l ≡ 0 → l ≡ []
length_zero [] e = refl
length_zero (x ∷ l) e = absurd (omega arith)

-- bytes written one run after another
pub sets_join : (l : List ℕ) (i : ℕ) (a b : List ℕ) → sets (sets l i a) (i + length a) b ≡ sets l i (a ++ b)
sets_join l i [] b = ap (λ (k : ℕ). sets l k b) (add-zero i)
sets_join l i (x ∷ a) b =
    ap (λ (k : ℕ). sets (sets (set l i x) (suc i) a) k b) (add-suc i (length a) ∙ sym (suc-add i (length a)))
    ∙ sets_join (set l i x) (suc i) a b

pub take_less : (a b : ℕ) (w v : List ℕ) → a ≤ b → take b v ≡ take b w → take a v ≡ take a w
take_less a b w v h e = sym (take-take a b v h) ∙ ap (take a) e ∙ take-take a b w h

pub drop_later : {A : Type 0} (e c : ℕ) (w v : List A) → e ≤ c → drop e v ≡ drop e w → drop c v ≡ drop c w
drop_later {A} e c w v h q = from v ∙ ap (drop (c - e)) q ∙ sym (from w)
  where
    from : (u : List A) → drop c u ≡ drop (c - e) (drop e u)
    from u = let k : c ≡ e + (c - e) = omega arith in ap (λ (i : ℕ). drop i u) k ∙ sym (drop-drop (c - e) e u)

-- a turn of the loop that appends
pub append_step : (d d₀ s : List ℕ) (at i : ℕ) → at + i < length d → i < length s → take (at + i) d ≡ take at d₀ ++ take i s
    → take (at + (i + 1)) (set d (at + i) (get_or s i 0)) ≡ take at d₀ ++ take (i + 1) s
append_step d d₀ s at i hd hs e =
    ap (λ (k : ℕ). take k (set d (at + i) (get_or s i 0))) (ap (λ (k : ℕ). at + k) (add-one i) ∙ add-suc at i)
    ∙ take-suc-set d (at + i) (get_or s i 0) hd
    ∙ ap (λ (l : List ℕ). l ++ (get_or s i 0 ∷ [])) e
    ∙ append_assoc (take at d₀) (take i s) (get_or s i 0 ∷ [])
    ∙ ap (λ (l : List ℕ). take at d₀ ++ l) (sym (take-suc s i 0 hs) ∙ ap (λ (k : ℕ). take k s) (sym (add-one i)))

pub append_none : (d₀ : List ℕ) (at : ℕ) (s : List ℕ) → take (at + 0) d₀ ≡ take at d₀ ++ take 0 s
append_none d₀ at s = ap (λ (k : ℕ). take k d₀) (add-zero at) ∙ sym (append-nil (take at d₀))

pub below_counts : (x : ℕ) (s t : List ℕ) (l : List ℕ) → s ++ t ≡ l → (count_of eqb x s ≤ count_of eqb x l) × (count_of eqb x t ≤ count_of eqb x l)
below_counts x s t l e = let c = sym (count_append eqb x s t) ∙ ap (count_of eqb x) e in (omega arith, omega arith)

pub shorter : (l m : List ℕ) → ((x : ℕ) → count_of eqb x l ≤ count_of eqb x m) → length l ≤ length m
shorter l m h = count_length_le eqb eqb-true (λ x. eq-eqb x x refl) l m h

pub as_long : (l m : List ℕ) → ((x : ℕ) → count_of eqb x l ≡ count_of eqb x m) → length l ≡ length m
as_long l m h = count_length eqb eqb-true (λ x. eq-eqb x x refl) l m h

-- ---- numbers below n

abbrev up_to : ℕ → List ℕ
up_to zero = []
up_to (suc n) = n ∷ up_to n

length_up_to : (n : ℕ) → length (up_to n) ≡ n
length_up_to zero = refl
length_up_to (suc n) = ap suc (length_up_to n)

in_up_to : (n i : ℕ) → i < n → 1 ≤ count_of eqb i (up_to n)
in_up_to zero i h = absurd (omega arith)
in_up_to (suc n) i h = by-eq i n (λ e. omega (arith, ap one (eq-eqb i n e))) (λ ne. omega (arith, in_up_to n i (omega arith)))

-- of numbers below n that stand once each there are n at most
pub few_below : (n : ℕ) (l : List ℕ) → ((x : ℕ) → count_of eqb x l ≤ 1) → ((x : ℕ) → 1 ≤ count_of eqb x l → x < n) → length l ≤ n
few_below n l once below =
    let le = shorter l (up_to n) (λ x. by_lt 0 (count_of eqb x l) (λ h. omega (arith, once x, in_up_to n x (below x h))) (λ h. omega arith)) in
    omega (arith, length_up_to n)

-- ---- places, parts and turns of loops

pub drop_step : {A : Type 0} (l : List A) (i : ℕ) (d : A) → i < length l → drop i l ≡ get_or l i d ∷ drop (i + 1) l
drop_step {A} l i d h = drop-cons l i d h ∙ ap (λ (k : ℕ). get_or l i d ∷ drop k l) (sym (add-one i))

-- words that agree from m on
pub drop_same : (m : ℕ) (w w' : List ℕ) → length w' ≡ length w → ((i : ℕ) → m ≤ i → get_or w' i 0 ≡ get_or w i 0) → drop m w' ≡ drop m w
drop_same m w w' size same =
    ext_get_or 0 (drop m w') (drop m w) (length-drop m w' ∙ ap (λ (l : ℕ). l - m) size ∙ sym (length-drop m w))
    (λ i h. get_or-drop m w' i 0 ∙ same (m + i) (omega arith) ∙ sym (get_or-drop m w i 0))

pub take_next : (l : List ℕ) (i : ℕ) → i < length l → take (i + 1) l ≡ take i l ++ (get_or l i 0 ∷ [])
take_next l i h = ap (λ (n : ℕ). take n l) (add-one i) ∙ take-suc l i 0 h

pub count_next : (k : ℕ) (l : List ℕ) (i : ℕ) → i < length l → count_of eqb k (take (i + 1) l) ≡ count_of eqb k (take i l) + one (eqb k (get_or l i 0))
count_next k l i h = ap (count_of eqb k) (take_next l i h) ∙ count_append eqb k (take i l) (get_or l i 0 ∷ []) ∙ omega arith

-- the item at i, and how often it stood before
pub item_counts : (l : List ℕ) (i : ℕ) → i < length l → count_of eqb (get_or l i 0) (take i l) + 1 ≤ count_of eqb (get_or l i 0) l
item_counts l i h =
    let k = get_or l i 0 in
    omega (arith, count_take_le eqb k (i + 1) l, count_next k l i h, ap one (eq-eqb k k refl))

pub front_agree : (xs ys : List ℕ) (e : ℕ) → e ≤ length xs → e ≤ length ys → ((i : ℕ) → i < e → get_or xs i 0 ≡ get_or ys i 0) → take e ys ≡ take e xs
front_agree xs ys e hx hy h =
    ext_get_or 0 (take e ys) (take e xs) (length-take-le e ys hy ∙ sym (length-take-le e xs hx))
    (λ i l. let b : i < e = omega (arith, length-take-le e ys hy) in get_or-take e ys i 0 b ∙ sym (h i b) ∙ sym (get_or-take e xs i 0 b))

pub word_front : (m : ℕ) (w w' : List ℕ) → take m w' ≡ take m w → (i : ℕ) → i < m → get_or w' i 0 ≡ get_or w i 0
word_front m w w' e i h = sym (get_or-take m w' i 0 h) ∙ ap (λ (l : List ℕ). get_or l i 0) e ∙ get_or-take m w i 0 h

pub word_rest : (m : ℕ) (w w' : List ℕ) → drop m w' ≡ drop m w → (i : ℕ) → m ≤ i → get_or w' i 0 ≡ get_or w i 0
word_rest m w w' e i h = from w' ∙ ap (λ (l : List ℕ). get_or l (i - m) 0) e ∙ sym (from w)
  where
    from : (u : List ℕ) → get_or u i 0 ≡ get_or (drop m u) (i - m) 0
    from u = let k : i ≡ m + (i - m) = omega arith in ap (λ (j : ℕ). get_or u j 0) k ∙ sym (get_or-drop m u (i - m) 0)

-- a list that has the default in every place has it everywhere
pub default_at : {A : Type 0} (d : A) (n i : ℕ) → get_or (replicate n d) i d ≡ d
default_at d zero i = refl
default_at d (suc n) zero = refl
default_at d (suc n) (suc i) = default_at d n i

pub default_any : (l : List ℕ) (i d e : ℕ) → i < length l → get_or l i d ≡ get_or l i e
default_any [] i d e h = absurd (omega arith)
default_any (x ∷ l) zero d e h = refl
default_any (x ∷ l) (suc i) d e h = default_any l i d e (omega arith)

-- after a list is stored at p, what stands before its end is what stood before p, and the list
pub take_sets : (o : List ℕ) (p : ℕ) (a : List ℕ) → p + length a ≤ length o → take (p + length a) (sets o p a) ≡ take p o ++ a
take_sets o p a h =
    let l : length (take p o ++ a) ≡ p + length a = length-append (take p o) a ∙ ap (λ (n : ℕ). n + length a) (length-take-le p o (omega arith)) in
    rw (sets-eq a o p h) (take_at (take p o ++ a) (drop (p + length a) o) (p + length a) l)

pub drop_sets : (o : List ℕ) (p : ℕ) (a : List ℕ) → p + length a ≤ length o → drop (p + length a) (sets o p a) ≡ drop (p + length a) o
drop_sets o p a h =
    let l : length (take p o ++ a) ≡ p + length a = length-append (take p o) a ∙ ap (λ (n : ℕ). n + length a) (length-take-le p o (omega arith)) in
    rw (sets-eq a o p h) (drop_at (take p o ++ a) (drop (p + length a) o) (p + length a) l)

-- the second part of n + m bytes
pub halves : (t : List ℕ) (at n m : ℕ) → at + (n + m) ≤ length t → drop n (take (n + m) (drop at t)) ≡ take m (drop (at + n) t)
halves t at n m h =
    let s : n ≤ length (drop at t) = rw (length-drop at t) (omega arith) in
    ap (drop n) (take-add n m (drop at t))
    ∙ drop_at (take n (drop at t)) (take m (drop n (drop at t))) n (length-take-le n (drop at t) s)
    ∙ ap (take m) (drop-drop n at t)

-- a byte before a run, stored after it
pub set_before : (b l : List ℕ) (i j x : ℕ) → i < j → set (sets l j b) i x ≡ sets (set l i x) j b
set_before [] l i j x h = refl
set_before (a ∷ b) l i j x h = set_before b (set l j a) i (suc j) x (omega arith) ∙ ap (λ (m : List ℕ). sets m (suc j) b) (set_comm l j i a x (omega arith))

-- what is stored from the front on stands before the rest
pub front_sets : (o a : List ℕ) → length a ≤ length o → sets o 0 a ≡ a ++ drop (length a) o
front_sets o a h = sets-eq a o 0 (omega arith) ∙ ap (λ (n : ℕ). a ++ drop n o) (zero-add (length a))

-- the front m of o, that begins with b when it is back
pub front_back : (b o : List ℕ) (m : ℕ) → length b ≤ m → m ≤ length o → (b ++ drop (length b) (take m o)) ++ drop m o ≡ b ++ drop (length b) o
front_back b o m h l =
    let e : length b ≤ length (take m o) = rw (length-take-le m o l) h in
    append_assoc b (drop (length b) (take m o)) (drop m o)
    ∙ ap (λ (r : List ℕ). b ++ r) (sym (drop-append-le (length b) (take m o) (drop m o) e) ∙ ap (drop (length b)) (take-append-drop m o))

-- what begins with b, by its length
pub front_of : (b d o p : List ℕ) (n : ℕ) → o ≡ b ++ d → n ≡ length b → take n (o ++ p) ≡ b
front_of b d o p n e h = rw (e, append_assoc) (take_at b (d ++ p) n (sym h))

-- a turn of the loop that puts items into the front of out
pub put_next : (out r : List ℕ) (n x : ℕ) → n < length out → take n out ++ (x ∷ r) ≡ take (n + 1) (set out n x) ++ r
put_next out r n x h =
    sym (append_snoc (take n out) x r)
    ∙ ap (λ (l : List ℕ). l ++ r) (sym (ap (λ (k : ℕ). take k (set out n x)) (add-one n) ∙ take-suc-set out n x h))

-- ---- the list has each once

pub once_place : (l : List ℕ) → ((k : ℕ) → count_of eqb k l ≤ 1) → (i : ℕ) → i < length l → place eqb (get_or l i 0) l ≡ i
once_place l s i h = place_once eqb (λ x. eq-eqb x x refl) 0 (get_or l i 0) l (s (get_or l i 0)) i h refl

-- two places have two
pub once_apart : (l : List ℕ) → ((k : ℕ) → count_of eqb k l ≤ 1) → (i j : ℕ) → i < length l → j < length l → i ≢ j → get_or l i 0 ≢ get_or l j 0
once_apart l s i j hi hj ne e = ne (sym (once_place l s i hi) ∙ ap (λ (x : ℕ). place eqb x l) e ∙ once_place l s j hj)
