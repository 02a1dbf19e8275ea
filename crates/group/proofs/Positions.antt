-- The positions of the groups that pass a test: family by family, and as what the test keeps of all positions. Assumes nothing.
use mathlib.Core.Path.{◌≡◌, refl, ap, ap₂, sym, ◌∙◌}
use mathlib.Core.Bool.{Bool, true, false, ◌||◌}
use mathlib.Core.List.{List, [], ◌∷◌, ◌++◌}
use Prim.Native.Nat.{ℕ, suc, ◌+◌, ◌-◌, ◌≤◌, ◌<◌}
use native.Mathlib.Omega.{arith}
use native.Mathlib.Nat.{add-zero, add-suc, suc-add}
use lib.ListN.{length, get_or, length-append}
use Rattle.model.specs.Model.{Family, groups_of}
use Rattle.masks.specs.Masks.{up_from, has, keep, keep_if, union_of}
use Rattle.masks.proofs.Lists.{and_parts, up_parts, has_keep, keep_same, keep_all, keep_none, union_kept}
use Rattle.group.specs.Flat.{family_members, members, passing, positions_where}

length_family : (f : Family) (acc : List ℕ) (rs : Family) → length (family_members f acc rs) ≡ length rs
length_family f acc [] = refl
length_family f acc (r ∷ rs) = ap suc (length_family f (acc ++ r.new_kinds) rs)

length_members : (fs : List Family) → length (members fs) ≡ groups_of fs
length_members [] = refl
length_members (f ∷ fs) = length-append (family_members f [] f) (members fs) ∙ ap₂ ◌+◌ (length_family f [] f) (length_members fs)

module _ (t : Family → List ℕ → Bool) where
  -- ---- family by family

  passing_append : (p : ℕ) (xs ys : List (Family × List ℕ)) → passing t p (xs ++ ys) ≡ passing t p xs ++ passing t (p + length xs) ys
  unfolding passing
  passing_append p [] ys = ap (λ (n : ℕ). passing t n ys) (sym (add-zero p))
  passing_append p (x ∷ xs) ys =
      go (t x.0 x.1) (passing_append (suc p) xs ys ∙ ap (λ (n : ℕ). passing t (suc p) xs ++ passing t n ys) (suc-add p (length xs) ∙ sym (add-suc p (length xs))))
    where
      go : (b : Bool) → passing t (suc p) (xs ++ ys) ≡ passing t (suc p) xs ++ passing t (p + suc (length xs)) ys
          → keep_if b p (passing t (suc p) (xs ++ ys)) ≡ keep_if b p (passing t (suc p) xs) ++ passing t (p + suc (length xs)) ys
      go true e = ap (λ (l : List ℕ). p ∷ l) e
      go false e = e

  pub where_family : (p : ℕ) (f : Family) (fs : List Family) → positions_where t p (f ∷ fs) ≡ passing t p (family_members f [] f) ++ positions_where t (p + length f) fs
  where_family p f fs =
      passing_append p (family_members f [] f) (members fs)
      ∙ ap (λ (n : ℕ). passing t p (family_members f [] f) ++ positions_where t (p + n) fs) (length_family f [] f)

  -- a family that passes, or does not, whatever the group's kinds
  pub family_all : (f : Family) → ((ks : List ℕ) → t f ks ≡ true) → (p : ℕ) (acc : List ℕ) (rs : Family) → passing t p (family_members f acc rs) ≡ up_from p (length rs)
  unfolding passing up_from
  family_all f h p acc [] = refl
  family_all f h p acc (r ∷ rs) = rw (h (acc ++ r.new_kinds), family_all f h (suc p) (acc ++ r.new_kinds) rs)

  pub family_none : (f : Family) → ((ks : List ℕ) → t f ks ≡ false) → (p : ℕ) (acc : List ℕ) (rs : Family) → passing t p (family_members f acc rs) ≡ []
  unfolding passing
  family_none f h p acc [] = refl
  family_none f h p acc (r ∷ rs) = rw (h (acc ++ r.new_kinds)) (family_none f h (suc p) (acc ++ r.new_kinds) rs)

  -- ---- of all positions, those that pass

  at : List (Family × List ℕ) → ℕ → Bool
  at ms i = t (get_or ms i ([], [])).0 (get_or ms i ([], [])).1

  passing_keep : (p : ℕ) (ms : List (Family × List ℕ)) → passing t p ms ≡ keep (λ i. at ms (i - p)) (up_from p (length ms))
  unfolding passing keep up_from at
  passing_keep p [] = refl
  passing_keep p (m ∷ ms) =
      let z : p - p ≡ 0 = omega arith in
      ap₂ (λ (b : Bool) (l : List ℕ). keep_if b p l) (ap (at (m ∷ ms)) (sym z))
      (passing_keep (suc p) ms ∙ keep_same (λ i. at ms (i - suc p)) (λ i. at (m ∷ ms) (i - p)) (up_from (suc p) (length ms)) later)
    where
      later : (i : ℕ) → has i (up_from (suc p) (length ms)) ≡ true → at ms (i - suc p) ≡ at (m ∷ ms) (i - p)
      later i h = let q : suc (i - suc p) ≡ i - p = omega (arith, (up_parts (suc p) (length ms) i h).0) in ap (at (m ∷ ms)) q

  where_keep : (p : ℕ) (fs : List Family) → positions_where t p fs ≡ keep (λ i. at (members fs) (i - p)) (up_from p (groups_of fs))
  where_keep p fs = passing_keep p (members fs) ∙ ap (λ (n : ℕ). keep (λ i. at (members fs) (i - p)) (up_from p n)) (length_members fs)

  pub where_within : (p : ℕ) (fs : List Family) (i : ℕ) → has i (positions_where t p fs) ≡ true → (p ≤ i) × (i < p + groups_of fs)
  where_within p fs i h =
      let all = up_from p (groups_of fs) in
      up_parts p (groups_of fs) i (and_parts (has i all) (at (members fs) (i - p)) (sym (ap (has i) (where_keep p fs) ∙ has_keep i (λ j. at (members fs) (j - p)) all) ∙ h)).0

pub where_all : (p : ℕ) (fs : List Family) → positions_where (λ f ks. true) p fs ≡ up_from p (groups_of fs)
unfolding at
where_all p fs = where_keep (λ f ks. true) p fs ∙ keep_all (λ i. true) (up_from p (groups_of fs)) (λ i h. refl)

pub where_none : (p : ℕ) (fs : List Family) → positions_where (λ f ks. false) p fs ≡ []
unfolding at
where_none p fs = where_keep (λ f ks. false) p fs ∙ keep_none (λ i. false) (up_from p (groups_of fs)) (λ i h. refl)

-- where a group passes by either of two tests
pub where_union : (w : ℕ) (t u : Family → List ℕ → Bool) (fs : List Family) → groups_of fs ≤ w → positions_where (λ f ks. t f ks || u f ks) 0 fs ≡ union_of w (positions_where t 0 fs) (positions_where u 0 fs)
unfolding at
where_union w t u fs le =
    where_keep (λ f ks. t f ks || u f ks) 0 fs
    ∙ sym (ap₂ (union_of w) (where_keep t 0 fs) (where_keep u 0 fs) ∙ union_kept w (groups_of fs) (λ i. at t (members fs) (i - 0)) (λ i. at u (members fs) (i - 0)) le)
