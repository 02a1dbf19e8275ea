-- What a count that is set leaves as it was, and where a group's family begins and ends. Assumes nothing.
use mathlib.Core.Path.{◌≡◌, refl, ap, sym, ◌∙◌}
use mathlib.Core.List.{List, [], ◌∷◌, ◌++◌, map}
use Prim.Native.Nat.{ℕ, zero, suc, ◌+◌, ◌-◌, ◌≤◌, ◌<◌}
use native.Mathlib.Omega.{arith}
use native.Mathlib.Nat.{le_of_suc-le-suc, not-suc-le-zero}
use lib.Dec.{ltb}
use lib.ListN.{length, get_or}
use Rattle.model.specs.Model.{Family, zero_count, kinds_of, groups_of}
use Rattle.model.specs.Sound.{In, layout_kinds}
use Rattle.model.proofs.BoolLaws.{cond_case}
use Rattle.model.proofs.KindLists.{in_left, in_right}
use Rattle.model.proofs.Shape.{plain, groups_of_plain}
use Rattle.group.specs.Flat.{Located, nowhere, family_groups, group_list, located, set_in, set_count}
use Rattle.group.proofs.Fronts.{by_family}

-- all of the layout but the counts
plain_in : (g c : ℕ) (f : Family) → map zero_count (set_in g c f) ≡ map zero_count f
plain_in g c [] = refl
plain_in zero c (r ∷ rs) = refl
plain_in (suc g) c (r ∷ rs) = ap {B = Family} (λ l. zero_count r ∷ l) (plain_in g c rs)

pub plain_set : (g c : ℕ) (fs : List Family) → plain (set_count g c fs) ≡ plain fs
plain_set g c [] = refl
plain_set g c (f ∷ fs) =
    cond_case (λ (l : List Family). plain l ≡ plain (f ∷ fs)) (ltb g (length f)) _ _
    (λ h. ap {B = List Family} (λ x. x ∷ plain fs) (plain_in g c f))
    (λ h. ap {B = List Family} (λ x. map zero_count f ∷ x) (plain_set (g - length f) c fs))

pub plain_groups : (fs gs : List Family) → plain fs ≡ plain gs → groups_of fs ≡ groups_of gs
plain_groups fs gs q = sym (groups_of_plain fs) ∙ ap groups_of q ∙ groups_of_plain gs

pub groups_set : (g c : ℕ) (fs : List Family) → groups_of (set_count g c fs) ≡ groups_of fs
groups_set g c fs = plain_groups (set_count g c fs) fs (plain_set g c fs)

-- ---- where a group's family begins and ends, and what has its new kinds

-- the group l of the family rs
pub record OfFamily (low high : ℕ) (rs : Family) (l : Located) : Type 0 where
  pub first : l.first ≡ low
  pub top : l.top ≡ high
  pub has : (k : ℕ) → In l.new_kinds k → In (kinds_of rs) k

pub family_at_law : (first top : ℕ) (acc : List ℕ) (f : Family) (i : ℕ) → i < length f → OfFamily first top f (get_or (family_groups first top acc f) i nowhere)
family_at_law first top acc [] i h = absurd (not-suc-le-zero h)
family_at_law first top acc (r ∷ rs) zero h = record { first = refl; top = refl; has = in_left r.new_kinds (kinds_of rs) }
family_at_law first top acc (r ∷ rs) (suc i) h =
    let F = family_at_law first top (acc ++ r.new_kinds) rs i (le_of_suc-le-suc h) in
    record { first = F.first; top = F.top; has = λ k n. in_right r.new_kinds (kinds_of rs) k (F.has k n) }

-- the group l, numbered p + i, of the families fs
pub record Placed (p : ℕ) (fs : List Family) (i : ℕ) (l : Located) : Type 0 where
  pub begun : l.first ≤ p + i
  pub within : p + i < l.top
  pub ends : l.top ≤ p + groups_of fs
  pub has : (k : ℕ) → In l.new_kinds k → In (layout_kinds fs) k

pub placed_from : (p : ℕ) (fs : List Family) (i : ℕ) → i < groups_of fs → Placed p fs i (get_or (group_list p fs) i nowhere)
placed_from p [] i h = absurd (not-suc-le-zero h)
placed_from p (f ∷ fs) i h =
    by_family (λ l i. Placed p (f ∷ fs) i l) p f fs i
    (λ q.
    let F = family_at_law p (p + length f) [] f i q in
    record { begun = omega (arith, F.first); within = omega (arith, F.top); ends = omega (arith, F.top); has = λ k n. in_left (kinds_of f) (layout_kinds fs) k (F.has k n) })
    (λ j e.
    let P = placed_from (p + length f) fs j (omega arith) in
    record { begun = omega (arith, P.begun); within = omega (arith, P.within); ends = omega (arith, P.ends); has = λ k n. in_right (kinds_of f) (layout_kinds fs) k (P.has k n) })

pub placed : (fs : List Family) (g : ℕ) → g < groups_of fs → ((located fs g).first ≤ g) × (g < (located fs g).top) × ((located fs g).top ≤ groups_of fs)
placed fs g h =
    let P = placed_from 0 fs g h in
    (omega (arith, P.begun), omega (arith, P.within), omega (arith, P.ends))
