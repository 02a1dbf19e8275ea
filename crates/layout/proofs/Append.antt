-- Appending to the used front of an array. Assumes nothing.
use mathlib.Core.Path.{◌≡◌, sym, ap, ◌∙◌}
use mathlib.Core.List.{List, ◌++◌, append_assoc}
use Prim.Native.Nat.{ℕ, ◌+◌, ◌-◌, ◌≤◌}
use native.Mathlib.Omega.{arith}
use lib.ListN.{length, take, drop, length-append, length-drop}
use lib.Seq.{length-take-le}
use Rattle.layout.specs.Grow.{Appended, Spread}

-- two in a row append the two together
pub append_two : (d₀ d₁ d₂ s t : List ℕ) (at r₁ r₂ : ℕ) → Appended d₀ at s d₁ r₁ → Appended d₁ r₁ t d₂ r₂ → Appended d₀ at (s ++ t) d₂ r₂
append_two d₀ d₁ d₂ s t at r₁ r₂ a b =
    let n : r₁ ≡ at + length s = a.next in
    let m : r₂ ≡ r₁ + length t = b.next in
    let long : at + length (s ++ t) ≡ r₁ + length t = omega (arith, length-append s t) in
    record {
      next = m ∙ sym long;
      size = b.size ∙ a.size;
      front =
          ap (λ (k : ℕ). take k d₂) long ∙ b.front ∙ ap (λ (l : List ℕ). l ++ t) (ap (λ (k : ℕ). take k d₁) n ∙ a.front)
          ∙ append_assoc (take at d₀) s t;
    }

pub append_three : (d₀ d₁ d₂ d₃ x y z : List ℕ) (at r₁ r₂ r₃ : ℕ) → Appended d₀ at x d₁ r₁ → Appended d₁ r₁ y d₂ r₂ → Appended d₂ r₂ z d₃ r₃ → Appended d₀ at (x ++ (y ++ z)) d₃ r₃
append_three d₀ d₁ d₂ d₃ x y z at r₁ r₂ r₃ a b c =
    append_two d₀ d₁ d₃ x (y ++ z) at r₁ r₃ a (append_two d₁ d₂ d₃ y z r₁ r₂ r₃ b c)

-- three from the start spread more into s
pub spread_three : (d₀ d₁ d₂ d₃ s more : List ℕ) (a e r₁ r₂ r₃ : ℕ) → a ≤ length s
    → Appended d₀ 0 (take a s) d₁ r₁ → Appended d₁ r₁ more d₂ r₂ → Appended d₂ r₂ (drop e s) d₃ r₃ → Spread d₀ s a e more d₃
spread_three d₀ d₁ d₂ d₃ s more a e r₁ r₂ r₃ h x y z =
    let w = append_three d₀ d₁ d₂ d₃ (take a s) more (drop e s) 0 r₁ r₂ r₃ x y z in
    let long : 0 + length (take a s ++ (more ++ drop e s)) ≡ a + length more + (length s - e) =
    omega (arith, length-append (take a s) (more ++ drop e s), length-append more (drop e s), length-take-le a s h, length-drop e s) in
    record { size = w.size; front = ap (λ (k : ℕ). take k d₃) (sym long) ∙ w.front }

-- appended from the start, it is all that there is
pub append_all : (d₀ s d : List ℕ) (r : ℕ) → Appended d₀ 0 s d r → (take r d ≡ s) × (r ≡ length s)
append_all d₀ s d r a = let n : r ≡ 0 + length s = a.next in (ap (λ (k : ℕ). take k d) n ∙ a.front, omega arith)
