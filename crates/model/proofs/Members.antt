-- What the library's `contains`, `all` and `any` answer of a list of kinds, in the model's words. Assumes nothing.
use mathlib.Core.Path.{◌≡◌, refl, ap, ap₂, ◌∙◌, sym}
use mathlib.Core.Bool.{Bool, ◌&&◌, ◌||◌}
use mathlib.Core.List.{List, [], ◌∷◌}
use Prim.Native.Nat.{ℕ}
use borrow.Author.Tests.{ne_eqb}
use lib.Dec.{eqb}
use Rattle.std.specs.List.{list_any, list_all}
use Rattle.model.specs.Model.{mem, all_of, any_of}
use Rattle.model.proofs.BoolLaws.{by-eq}

eqb_turned : (i j : ℕ) → eqb i j ≡ eqb j i
eqb_turned i j = by-eq i j (λ e. ap₂ eqb e (sym e)) (λ n. ne_eqb i j n ∙ sym (ne_eqb j i (λ e. n (sym e))))

-- the library compares an item with the kind, the model the kind with an item
pub any_is_mem : (k : ℕ) (ks : List ℕ) → list_any (λ j. eqb j k) ks ≡ mem k ks
any_is_mem k [] = refl
any_is_mem k (j ∷ ks) = rw (any_is_mem k ks) (ap (λ (b : Bool). b || mem k ks) (eqb_turned j k))

pub all_is_all_of : (p : ℕ → Bool) (ks : List ℕ) → list_all p ks ≡ all_of p ks
all_is_all_of p [] = refl
all_is_all_of p (k ∷ ks) = ap (λ (b : Bool). p k && b) (all_is_all_of p ks)

pub any_is_any_of : (p : ℕ → Bool) (ks : List ℕ) → list_any p ks ≡ any_of p ks
any_is_any_of p [] = refl
any_is_any_of p (k ∷ ks) = ap (λ (b : Bool). p k || b) (any_is_any_of p ks)
