-- What a caller learns of a check. Assumes nothing.
use mathlib.Core.Bool.{Bool, true, false, not, false≢true}
use mathlib.Core.Path.{◌≡◌, refl, sym, subst, ◌∙◌}
use borrow.Author.Tests.{not-true, not-false}
use mathlib.Core.List.{List}
use Prim.Native.Nat.{ℕ}
use mathlib.Core.Logic.{◌↔◌}
use Rattle.words.specs.Decides.{Decides}

-- a caller's `if check(..) {`: b is the call's result, to be written out
pub yes_of : {P : Type 0} (b : Bool) → Decides b P → b ≡ true → P
yes_of {P} b d e = subst (λ (t : Bool). Decides t P) e d

pub no_of : {P : Type 0} (b : Bool) → Decides b P → b ≡ false → P → ⊥
no_of {P} b d e = subst (λ (t : Bool). Decides t P) e d

-- a caller's `if !check(..) {`: its `.left` and its `.taken`
pub granted : {P : Type 0} (b : Bool) → Decides b P → not b ≡ false → P
granted b d e = yes_of b d (not-false b e)

pub denied : {P : Type 0} (b : Bool) → Decides b P → not b ≡ true → P → ⊥
denied b d e = no_of b d (not-true b e)

-- what is decided of what decides_true is true
pub decides_true : {P : Type 0} (b : Bool) → Decides b P → P → b ≡ true
decides_true true d p = refl
decides_true false d p = absurd (d p)

-- a test that is true exactly if two lists are the same decides what comes to the same
pub decides_equal : (P : Type 0) (x y : List ℕ) (b : Bool) → (b ≡ true → x ≡ y) × (x ≡ y → b ≡ true) → (x ≡ y → P) → (P → x ≡ y) → Decides b P
decides_equal P x y true h to from = to (h.0 refl)
decides_equal P x y false h to from = λ p. false≢true (h.1 (from p))

pub decides_same : {P Q : Type 0} (b c : Bool) → Decides b P → Decides c Q → P ↔ Q → b ≡ c
decides_same true true p q e = refl
decides_same true false p q e = absurd (q (e.0 p))
decides_same false true p q e = absurd (p (e.1 q))
decides_same false false p q e = refl

-- what is decided of a proposition is decided of one that comes to the same
pub decides_on : {P Q : Type 0} (b : Bool) → P ↔ Q → Decides b P → Decides b Q
decides_on true e d = e.0 d
decides_on false e d = λ q. d (e.1 q)

-- a check whose answer is a test's decides that the test is true
pub decides_test : (b t : Bool) → b ≡ t → Decides b (t ≡ true)
decides_test true t e = sym e
decides_test false t e = λ h. false≢true (e ∙ h)

-- where a part of it does not hold, the whole does not
pub decides_less : (P Q : Type 0) (b : Bool) → Decides b P → b ≡ false → (Q → P) → Decides b Q
decides_less P Q true d e f = absurd (false≢true (sym e))
decides_less P Q false d e f = λ q. d (f q)

-- where an `&&` joins: v is what the two tests came to
pub decides_both : (P Q : Type 0) {v : Bool} (a : Bool) → Decides a P → a ≡ true → (b : Bool) → Decides b Q → v ≡ b → Decides v (P × Q)
decides_both P Q a p e true q j = subst (λ (t : Bool). Decides t (P × Q)) (sym j) (yes_of a p e, q)
decides_both P Q a p e false q j = subst (λ (t : Bool). Decides t (P × Q)) (sym j) (λ h. q h.1)

pub decides_neither : (P Q : Type 0) {v : Bool} (a : Bool) → Decides a P → a ≡ false → v ≡ a → Decides v (P × Q)
decides_neither P Q a p e j = subst (λ (t : Bool). Decides t (P × Q)) (sym (j ∙ e)) (λ h. no_of a p e h.0)
