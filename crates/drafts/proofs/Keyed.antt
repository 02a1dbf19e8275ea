-- Lists by a key: two that rise strictly by one key and have the same members are equal; and one without repeats, whose members another has, is no longer
-- than that. Assumes nothing.
use mathlib.Core.Path.{◌≡◌, refl, ap, ap₂, sym, ◌∙◌}
use mathlib.Core.Logic.{⊎_elim}
use mathlib.Core.List.{List, [], ◌∷◌, ◌++◌, Memᴰ}
use Prim.Native.Nat.{ℕ, suc, ◌≤◌, zero-le}
use native.Mathlib.Omega.{arith}
use lib.ListN.{length}

module _ {A : Type 0} where
  -- each member of l is one of m
  abbrev pub Inside : List A → List A → Type 0
  Inside l m = (x : A) → Memᴰ x l → Memᴰ x m

  -- no member stands twice
  abbrev pub Once : List A → Type 0
  Once [] = Unit {0}
  Once (x ∷ l) = (Memᴰ x l → ⊥) × Once l

  -- the list without the member at this place
  less : {x : A} {l : List A} → Memᴰ x l → List A
  less (mathlib.Core.List.Memᴰ.head {xs = xs} e) = xs
  less (mathlib.Core.List.Memᴰ.tail {x = y} m) = y ∷ less m

  less_length : {x : A} {l : List A} (m : Memᴰ x l) → length l ≡ suc (length (less m))
  unfolding less
  less_length (mathlib.Core.List.Memᴰ.head e) = refl
  less_length (mathlib.Core.List.Memᴰ.tail m) = ap suc (less_length m)

  less_has : {x z : A} {l : List A} (m : Memᴰ x l) → (z ≡ x → ⊥) → Memᴰ z l → Memᴰ z (less m)
  unfolding less
  less_has (mathlib.Core.List.Memᴰ.head e) ne i = ⊎_elim (λ q. absurd (ne (q ∙ sym e))) (λ j. j) (mathlib.Core.List.Memᴰ.cases_cons i)
  less_has (mathlib.Core.List.Memᴰ.tail m) ne i = ⊎_elim (λ q. mathlib.Core.List.Memᴰ.head q) (λ j. mathlib.Core.List.Memᴰ.tail (less_has m ne j)) (mathlib.Core.List.Memᴰ.cases_cons i)

  pub once_length : (l m : List A) → Once l → Inside l m → length l ≤ length m
  once_length [] m o s = zero-le
  once_length (x ∷ l) m o s =
      let i : Memᴰ x m = s x (mathlib.Core.List.Memᴰ.head refl) in
      let r = once_length l (less i) o.1 (λ z j. less_has i (λ e. o.0 (mathlib.Core.List.Memᴰ.cast (sym e) j)) (s z (mathlib.Core.List.Memᴰ.tail j))) in
      omega (arith, less_length i)

module _ {A : Type 0} (key : A → ℕ) where
  -- the keys rise strictly, from lo on and below hi
  abbrev pub Rises : ℕ → ℕ → List A → Type 0
  Rises lo hi [] = lo ≤ hi
  Rises lo hi (x ∷ l) = (lo ≤ key x) × Rises (suc (key x)) hi l

  pub rises_from : (a lo hi : ℕ) (l : List A) → a ≤ lo → Rises lo hi l → Rises a hi l
  rises_from a lo hi [] h r = omega arith
  rises_from a lo hi (x ∷ l) h r = (omega (arith, r.0), r.1)

  pub rises_join : (lo mid hi : ℕ) (l m : List A) → Rises lo mid l → Rises mid hi m → Rises lo hi (l ++ m)
  rises_join lo mid hi [] m r s = rises_from lo mid hi m r s
  rises_join lo mid hi (x ∷ l) m r s = (r.0, rises_join (suc (key x)) mid hi l m r.1 s)

  pub rises_above : (lo hi : ℕ) (l : List A) → Rises lo hi l → (x : A) → Memᴰ x l → lo ≤ key x
  rises_above lo hi [] r x m = absurd (mathlib.Core.List.Memᴰ.not-nil m)
  rises_above lo hi (y ∷ l) r x m =
      ⊎_elim (λ e. omega (arith, r.0, ap key e)) (λ i. omega (arith, r.0, rises_above (suc (key y)) hi l r.1 x i)) (mathlib.Core.List.Memᴰ.cases_cons m)

  pub rises_once : (lo hi : ℕ) (l : List A) → Rises lo hi l → Once l
  rises_once lo hi [] r = tt
  rises_once lo hi (x ∷ l) r = ((λ m. absurd (omega (arith, rises_above (suc (key x)) hi l r.1 x m))), rises_once (suc (key x)) hi l r.1)

  pub rises_equal : (lo hi lo' hi' : ℕ) (l m : List A) → Rises lo hi l → Rises lo' hi' m → Inside l m → Inside m l → l ≡ m
  rises_equal lo hi lo' hi' [] [] r s to from = refl
  rises_equal lo hi lo' hi' [] (y ∷ m) r s to from = absurd (mathlib.Core.List.Memᴰ.not-nil (from y (mathlib.Core.List.Memᴰ.head refl)))
  rises_equal lo hi lo' hi' (x ∷ l) [] r s to from = absurd (mathlib.Core.List.Memᴰ.not-nil (to x (mathlib.Core.List.Memᴰ.head refl)))
  rises_equal lo hi lo' hi' (x ∷ l) (y ∷ m) r s to from =
      let e : x ≡ y = ⊎_elim (λ q. q)
      (λ i. ⊎_elim (λ q. sym q) (λ j. absurd (omega (arith, rises_above (suc (key y)) hi' m s.1 x i, rises_above (suc (key x)) hi l r.1 y j))) (mathlib.Core.List.Memᴰ.cases_cons (from y (mathlib.Core.List.Memᴰ.head refl))))
      (mathlib.Core.List.Memᴰ.cases_cons (to x (mathlib.Core.List.Memᴰ.head refl))) in
      let to' : Inside l m = λ z i. ⊎_elim (λ q. absurd (omega (arith, rises_above (suc (key x)) hi l r.1 z i, ap key q, ap key e))) (λ j. j) (mathlib.Core.List.Memᴰ.cases_cons (to z (mathlib.Core.List.Memᴰ.tail i))) in
      let from' : Inside m l = λ z i. ⊎_elim (λ q. absurd (omega (arith, rises_above (suc (key y)) hi' m s.1 z i, ap key q, ap key e))) (λ j. j) (mathlib.Core.List.Memᴰ.cases_cons (from z (mathlib.Core.List.Memᴰ.tail i))) in
      ap₂ {C = List A} (λ z zs. z ∷ zs) e (rises_equal (suc (key x)) hi (suc (key y)) hi' l m r.1 s.1 to' from')
