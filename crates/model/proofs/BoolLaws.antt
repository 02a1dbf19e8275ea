-- Laws on Bools, and cases on numbers. Assumes nothing.
use mathlib.Core.Path.{◌≡◌, refl, sym, ◌∙◌}
use mathlib.Core.Logic.{◌≢◌}
use Prim.Native.Nat.{ℕ, zero, suc, ◌+◌, ◌≤◌, ◌<◌}
use native.Mathlib.Decide.{ℕ_discrete, dec_lt}
use native.Mathlib.Omega.{arith}
use mathlib.Core.Bool.{Bool, true, false, cond, ◌&&◌, ◌||◌, true≢false, not, false≢true, or-true}
use borrow.Author.Tests.{not-false}

-- by cases on two numbers being equal
pub by-eq {ℓ} : {C : Type ℓ} (i j : ℕ) → (i ≡ j → C) → (i ≢ j → C) → C
by-eq i j f g = elim (ℕ_discrete i j) [ yes e ↦ f e | no h ↦ g h ]

-- by cases on an order
pub by_lt : {C : Type 0} (a b : ℕ) → (a < b → C) → (b ≤ a → C) → C
by_lt a b f g = elim (dec_lt a b) [ yes h ↦ f h | no h ↦ g (omega arith) ]

-- a number that is not 1 or more
pub zero_of : {n : ℕ} → (1 ≤ n → ⊥) → n ≡ 0
zero_of {n} f = let no : ¬ (1 ≤ n) = f in omega arith

-- one that is k or more, and not k
pub above : {n : ℕ} (k : ℕ) → k ≤ n → (n ≡ k → ⊥) → k < n
above k h f = omega arith

-- two that are never both 1
pub sum_once : (x y : ℕ) → x ≤ 1 → y ≤ 1 → (1 ≤ y → x ≡ 0) → x + y ≤ 1
sum_once x zero hx hy h = omega arith
sum_once x (suc y) hx hy h = omega (arith, h (omega arith))

pub bool_cases : {P : Type 0} (b : Bool) → (b ≡ true → P) → (b ≡ false → P) → P
bool_cases true f g = f refl
bool_cases false f g = g refl

-- a property of a choice, from its two cases
pub cond_case : {A : Type 0} (P : A → Type 0) (b : Bool) (x y : A) → (b ≡ true → P x) → (b ≡ false → P y) → P (cond b x y)
cond_case P true x y f g = f refl
cond_case P false x y f g = g refl

pub cond_same : {A : Type 0} (b : Bool) (x : A) → cond b x x ≡ x
cond_same true x = refl
cond_same false x = refl

pub cond_not : {A : Type 0} (b : Bool) (x y : A) → cond b x y ≡ cond (not b) y x
cond_not true x y = refl
cond_not false x y = refl

pub and_left : (a b : Bool) → (a && b) ≡ true → a ≡ true
and_left true b h = refl
and_left false b h = h

pub and_right : (a b : Bool) → (a && b) ≡ true → b ≡ true
and_right true b h = h
and_right false b h = cc

pub or_cases : {P : Type 0} (a b : Bool) → (a || b) ≡ true → (a ≡ true → P) → (b ≡ true → P) → P
or_cases true b h f g = f refl
or_cases false b h f g = g h

pub or_false : (a b : Bool) → (a || b) ≡ false → a ≡ false
or_false true b h = h
or_false false b h = refl

pub or_false_right : (a b : Bool) → (a || b) ≡ false → b ≡ false
or_false_right true b h = absurd (true≢false h)
or_false_right false b h = h

pub not_true : (b : Bool) → (b ≡ true → ⊥) → b ≡ false
not_true true f = absurd (f refl)
not_true false f = refl

pub and_false_left : (a b : Bool) → (a && b) ≡ false → b ≡ true → a ≡ false
and_false_left true b h t = absurd (true≢false (sym t ∙ h))
and_false_left false b h t = refl

pub not_or : (a b : Bool) → (not a || b) ≡ true → a ≡ true → b ≡ true
not_or true b h t = h
not_or false b h t = absurd (false≢true t)

pub or_right : (a b : Bool) → (a || b) ≡ true → a ≡ false → b ≡ true
or_right true b h n = absurd (true≢false n)
or_right false b h n = h

pub not_and : (a b : Bool) → (not a && b) ≡ false → a ≡ false → b ≡ false
not_and true b h e = absurd (true≢false e)
not_and false b h e = h

pub not_not : (a b : Bool) → (not a && not b) ≡ false → a ≡ false → b ≡ true
not_not a b h e = not-false b (not_and a (not b) h e)

pub or_swap : (a b c : Bool) → (a || (b || c)) ≡ (b || (a || c))
or_swap true b c = sym (or-true b)
or_swap false b c = refl

pub and_false_of : (a b : Bool) → a ≡ false → (a && b) ≡ false
and_false_of a b e = rw e

pub and_false_right : (a b : Bool) → b ≡ false → (a && b) ≡ false
and_false_right true b e = e
and_false_right false b e = refl

pub both_true : (a b : Bool) → a ≡ true → b ≡ true → (a && b) ≡ true
both_true true b p q = q
both_true false b p q = p

pub left_true : (a b : Bool) → a ≡ true → (a || b) ≡ true
left_true true b p = refl
left_true false b p = absurd (false≢true p)

pub right_true : (a b : Bool) → b ≡ true → (a || b) ≡ true
right_true true b p = refl
right_true false b p = p

pub same_truth : (a b : Bool) → (a ≡ true → b ≡ true) → (b ≡ true → a ≡ true) → a ≡ b
same_truth true b f g = sym (f refl)
same_truth false true f g = g refl
same_truth false false f g = refl
