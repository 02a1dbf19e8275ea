-- The loop that zeroes every group's count. Assumes nothing.
use mathlib.Core.Path.{◌≡◌, refl, ap, ap₂, sym, ◌∙◌, subst}
use mathlib.Core.List.{List, [], ◌∷◌, map}
use Prim.Native.Nat.{ℕ, zero, suc, ◌+◌, ◌-◌, ◌≤◌, ◌<◌}
use native.Mathlib.Omega.{arith}
use native.Mathlib.Nat.{le_of_suc-le-suc, not-suc-le-zero}
use native.Mathlib.Numerals.{add-one}
use native.Mathlib.Decide.{dec_lt}
use borrow.Author.Tests.{lt-ltb, le-ltb}
use lib.ListN.{length}
use Rattle.model.specs.Model.{Family, Storage, groups_of, zero_count, clear_all}
use Rattle.model.specs.Store.{Store, on_storage, with_layout}
use Rattle.memory.specs.Meaning.{meaning}
use Rattle.memory.specs.Arranged.{Arranged, Becomes}
use Rattle.memory.proofs.Becomes.{stays}
use Rattle.kinds.specs.Kinds.{emptied}
use Rattle.group.specs.Flat.{set_in, set_count}
use Rattle.group.proofs.Storing.{becomes_then}

-- the first i groups of a family, and of the layout, count nothing
pub zero_in : ℕ → Family → Family
zero_in i [] = []
zero_in zero (r ∷ rs) = r ∷ rs
zero_in (suc i) (r ∷ rs) = zero_count r ∷ zero_in i rs

pub zero_to : ℕ → List Family → List Family
zero_to i [] = []
zero_to i (f ∷ fs) = zero_in i f ∷ zero_to (i - length f) fs

length_zero : (i : ℕ) (f : Family) → length (zero_in i f) ≡ length f
unfolding zero_in
length_zero i [] = refl
length_zero zero (r ∷ rs) = refl
length_zero (suc i) (r ∷ rs) = ap suc (length_zero i rs)

zero_none : (f : Family) → zero_in 0 f ≡ f
unfolding zero_in
zero_none [] = refl
zero_none (r ∷ rs) = refl

zero_family : (i : ℕ) (f : Family) → length f ≤ i → zero_in i f ≡ map zero_count f
unfolding zero_in
zero_family i [] h = refl
zero_family zero (r ∷ rs) h = absurd (not-suc-le-zero h)
zero_family (suc i) (r ∷ rs) h = ap {B = Family} (λ l. zero_count r ∷ l) (zero_family i rs (le_of_suc-le-suc h))

zero_next : (i : ℕ) (f : Family) → i < length f → set_in i 0 (zero_in i f) ≡ zero_in (suc i) f
unfolding zero_in
zero_next i [] h = absurd (not-suc-le-zero h)
zero_next zero (r ∷ rs) h = ap {B = Family} (λ l. zero_count r ∷ l) (sym (zero_none rs))
zero_next (suc i) (r ∷ rs) h = ap {B = Family} (λ l. zero_count r ∷ l) (zero_next i rs (le_of_suc-le-suc h))

pub zero_start : (fs : List Family) → zero_to 0 fs ≡ fs
unfolding zero_to
zero_start [] = refl
zero_start (f ∷ fs) =
    let z : 0 - length f ≡ 0 = omega arith in
    ap₂ {C = List Family} (λ (g : Family) (l : List Family). g ∷ l) (zero_none f) (ap (λ (n : ℕ). zero_to n fs) z ∙ zero_start fs)

pub zero_groups : (i : ℕ) (fs : List Family) → groups_of (zero_to i fs) ≡ groups_of fs
unfolding zero_to
zero_groups i [] = refl
zero_groups i (f ∷ fs) = ap₂ (λ (a b : ℕ). a + b) (length_zero i f) (zero_groups (i - length f) fs)

pub zero_step : (i : ℕ) (fs : List Family) → i < groups_of fs → set_count i 0 (zero_to i fs) ≡ zero_to (suc i) fs
unfolding zero_to
zero_step i [] h = absurd (not-suc-le-zero h)
zero_step i (f ∷ fs) h = go (λ l. zero_step (i - length f) fs l) (dec_lt i (length f))
  where
    go : (i - length f < groups_of fs → set_count (i - length f) 0 (zero_to (i - length f) fs) ≡ zero_to (suc (i - length f)) fs) → Dec (i < length f) → set_count i 0 (zero_in i f ∷ zero_to (i - length f) fs) ≡ zero_in (suc i) f ∷ zero_to (suc i - length f) fs
    go later (yes q) =
        let t = lt-ltb i (length (zero_in i f)) (omega (arith, length_zero i f)) in
        let a : i - length f ≡ 0 = omega arith in
        let b : suc i - length f ≡ 0 = omega arith in
        rw (t, a, b) (ap {B = List Family} (λ (g : Family). g ∷ zero_to 0 fs) (zero_next i f q))
    go later (no q) =
        let t = le-ltb i (length (zero_in i f)) (omega (arith, length_zero i f)) in
        let a : i - length (zero_in i f) ≡ i - length f = ap (λ (n : ℕ). i - n) (length_zero i f) in
        let b : suc i - length f ≡ suc (i - length f) = omega arith in
        rw (t, a, b)
        (ap₂ {C = List Family} (λ (g : Family) (l : List Family). g ∷ l) (zero_family i f (omega arith) ∙ sym (zero_family (suc i) f (omega arith))) (later (omega arith)))

pub zero_end : (i : ℕ) (fs : List Family) → groups_of fs ≤ i → zero_to i fs ≡ map (map zero_count) fs
unfolding zero_to
zero_end i [] h = refl
zero_end i (f ∷ fs) h =
    ap₂ {C = List Family} (λ (g : Family) (l : List Family). g ∷ l) (zero_family i f (omega arith)) (zero_end (i - length f) fs (omega arith))

-- ---- the loop

module _ (w₀ : List ℕ) where
  abbrev pub Zeroed : List ℕ → ℕ → Type 0
  Zeroed w g = Becomes w₀ w (on_storage (λ (s : Storage). with_layout s (zero_to g s.layout)) (meaning w₀))

  by_layout : (w : List ℕ) (fs gs : List Family) → fs ≡ gs → Becomes w₀ w (on_storage (λ (s : Storage). with_layout s fs) (meaning w₀)) → Becomes w₀ w (on_storage (λ (s : Storage). with_layout s gs) (meaning w₀))
  by_layout w fs gs e B = subst (λ (l : List Family). Becomes w₀ w (on_storage (λ (s : Storage). with_layout s l) (meaning w₀))) e B

  pub zeroed_none : Arranged w₀ → Zeroed w₀ 0
  zeroed_none A = by_layout w₀ (meaning w₀).storage.layout (zero_to 0 (meaning w₀).storage.layout) (sym (zero_start (meaning w₀).storage.layout)) (stays A)

  pub zeroed_below : (w : List ℕ) (g : ℕ) → Zeroed w g → g < groups_of (meaning w₀).storage.layout → g < groups_of (meaning w).storage.layout
  zeroed_below w g B h = rw (ap (λ (m : Store). groups_of m.storage.layout) B.means ∙ zero_groups g (meaning w₀).storage.layout) h

  pub zeroed_turn : (w w' : List ℕ) (g : ℕ) → g < groups_of (meaning w₀).storage.layout → Zeroed w g
      → Becomes w w' (on_storage (λ (s : Storage). with_layout s (set_count g 0 s.layout)) (meaning w)) → Zeroed w' (g + 1)
  zeroed_turn w w' g h B C =
      by_layout w' (set_count g 0 (zero_to g (meaning w₀).storage.layout)) (zero_to (g + 1) (meaning w₀).storage.layout)
      (zero_step g (meaning w₀).storage.layout h ∙ ap (λ (n : ℕ). zero_to n (meaning w₀).storage.layout) (sym (add-one g)))
      (becomes_then w₀ w w' (λ (s : Storage). with_layout s (zero_to g s.layout)) (on_storage (λ (s : Storage). with_layout s (set_count g 0 s.layout))) B C)

  pub zeroed_all : (w : List ℕ) (g : ℕ) → groups_of (meaning w₀).storage.layout ≤ g → Zeroed w g
      → Becomes w₀ w (on_storage (λ (s : Storage). with_layout s (map (map zero_count) s.layout)) (meaning w₀))
  zeroed_all w g h B = by_layout w (zero_to g (meaning w₀).storage.layout) (map (map zero_count) (meaning w₀).storage.layout) (zero_end g (meaning w₀).storage.layout h) B

  pub cleared_all : (w w' : List ℕ) → Becomes w₀ w (on_storage emptied (meaning w₀)) → Becomes w w' (on_storage (λ (s : Storage). with_layout s (map (map zero_count) s.layout)) (meaning w))
      → Becomes w₀ w' (on_storage clear_all (meaning w₀))
  unfolding clear_all
  cleared_all w w' B C = becomes_then w₀ w w' emptied (on_storage (λ (s : Storage). with_layout s (map (map zero_count) s.layout))) B C
