-- Rising lists of positions: a mask's is one, and skipping a part of it leaves its end. Assumes nothing.
use mathlib.Core.Path.{◌≡◌, refl, sym, ◌∙◌, subst}
use mathlib.Core.Bool.{Bool, true, false, not, ◌||◌}
use mathlib.Core.List.{List, [], ◌∷◌}
use Prim.Native.Nat.{ℕ, zero, suc, ◌≤◌, ◌<◌}
use native.Mathlib.Omega.{arith}
use borrow.Author.Tests.{le-leb, leb-true, leb-false, eqb-true}
use lib.Dec.{eqb, leb}
use Rattle.masks.specs.Masks.{bits_of, up_from, has, keep_if, keep, is_between, common_of, skipping}
use Rattle.masks.proofs.Digits.{has_bit}
use Rattle.masks.proofs.Lists.{and_parts, up_parts, has_keep, keep_same, keep_all, skip_common, between_in, between_high}
use Rattle.masks.proofs.Bits.{bits_keep}

-- positions at t or past it
abbrev pub From : ℕ → List ℕ → Type 0
From t ps = (i : ℕ) → has i ps ≡ true → t ≤ i

abbrev pub Ascending : List ℕ → Type 0
Ascending [] = Unit {0}
Ascending (g ∷ ps) = From (suc g) ps × Ascending ps

pub from_cons : (t g : ℕ) (ps : List ℕ) → t ≤ g → From (suc g) ps → From t (g ∷ ps)
unfolding has
from_cons t g ps h f i e = go (eqb i g) refl e
  where
    go : (b : Bool) → eqb i g ≡ b → (b || has i ps) ≡ true → t ≤ i
    go true q m = omega (arith, eqb-true i g q)
    go false q m = omega (arith, f i m)

ascending_up : (p k : ℕ) → Ascending (up_from p k)
unfolding up_from
ascending_up p zero = tt
ascending_up p (suc k) = ((λ i h. (up_parts (suc p) k i h).0), ascending_up (suc p) k)

ascending_keep : (f : ℕ → Bool) (ps : List ℕ) → Ascending ps → Ascending (keep f ps)
unfolding keep
ascending_keep f [] a = tt
ascending_keep f (g ∷ ps) a = go (f g) (ascending_keep f ps a.1)
  where
    go : (t : Bool) → Ascending (keep f ps) → Ascending (keep_if t g (keep f ps))
    go true r = ((λ i h. a.0 i (and_parts (has i ps) (f i) (sym (has_keep i f ps) ∙ h)).0), r)
    go false r = r

pub ascending_bits : (w m : ℕ) → Ascending (bits_of w m)
ascending_bits w m = subst Ascending (sym (bits_keep w m)) (ascending_keep (has_bit m) (up_from 0 w) (ascending_up 0 w))

pub keep_from : (t : ℕ) (ps : List ℕ) → From t ps → keep (leb t) ps ≡ ps
keep_from t ps f = keep_all (leb t) ps (λ i h. le-leb t i (f i h))

-- without the positions from g to top - 1, where all are past g
pub skip_rest : (w g top : ℕ) (ps : List ℕ) → From (suc g) ps → ((i : ℕ) → has i ps ≡ true → i < w) → common_of ps (skipping w g top) ≡ keep (leb top) ps
skip_rest w g top ps f low =
    skip_common w g top ps low ∙ keep_same (λ i. not (is_between g top i)) (leb top) ps (λ i h. go i (f i h) (leb top i) refl)
  where
    go : (i : ℕ) → suc g ≤ i → (t : Bool) → leb top i ≡ t → not (is_between g top i) ≡ leb top i
    go i gt true q = rw (between_high g top i (leb-true top i q), q)
    go i gt false q = rw (between_in g top i (omega arith) (leb-false top i q), q)
