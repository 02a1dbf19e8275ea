-- Groups as sets of kinds: equal sets, groups within others, groups that share a kind; lists of groups, whose order and repeats say nothing; the groups of
-- a layout. Assumes nothing.
use mathlib.Core.Path.{◌≡◌, refl, ap, ap₂, sym, ◌∙◌}
use mathlib.Core.Bool.{Bool, true, false, ◌||◌, or_assoc, true≢false, false≢true}
use mathlib.Core.List.{List, [], ◌∷◌, ◌++◌, flatten, append_assoc}
use Prim.Native.Nat.{ℕ, zero, suc, ◌≤◌, ◌<◌}
use native.Mathlib.Omega.{arith}
use lib.ListN.{length, get_or}
use Rattle.model.specs.Numbers.{MAX_GROUP_ARITY}
use Rattle.model.specs.Model.{Family, mem, within, meets, same_set, nested, kinds_of, is_group, present}
use Rattle.model.specs.Sound.{In, Distinct, layout_kinds, BuildableFamilies}
use Rattle.model.specs.Forms.{groups_in, all_groups, has_group, SameGroups, IsChain, each_of}
use Rattle.model.proofs.BoolLaws.{and_left, and_right, or_cases, or_swap, not_true, both_true, left_true, right_true, same_truth}
use Rattle.model.proofs.ListLaws.{shorter}
use Rattle.model.proofs.KindLists.{in_left, in_right, in_cases, all_true, any_in, any_at, same_to, same_from, unmet_all, unmet_in, within_in, within_counts, distinct_apart}

-- ---- a set within another, two sets that share a kind, by their kinds

pub within_of : (a b : List ℕ) → ((k : ℕ) → In a k → In b k) → within a b ≡ true
within_of a b h = all_true (λ k. mem k b) a h

pub within_trans : (a b c : List ℕ) → within a b ≡ true → within b c ≡ true → within a c ≡ true
within_trans a b c u v = within_of a c (λ k i. within_in b c v k (within_in a b u k i))

pub within_append : (a b : List ℕ) → within a (a ++ b) ≡ true
within_append a b = within_of a (a ++ b) (in_left a b)

pub meets_at : (a b : List ℕ) → meets a b ≡ true → (k : ℕ) × In a k × In b k
meets_at a b m = any_at (λ k. mem k b) a m

pub meets_of : (a b : List ℕ) (k : ℕ) → In a k → In b k → meets a b ≡ true
meets_of a b k i j = any_in (λ k. mem k b) a k i j

pub meets_sym : (a b : List ℕ) → meets a b ≡ true → meets b a ≡ true
meets_sym a b m = let x = meets_at a b m in meets_of b a x.0 x.2 x.1

-- ---- equal sets

pub same_of : (a b : List ℕ) → ((k : ℕ) → In a k → In b k) → ((k : ℕ) → In b k → In a k) → same_set a b ≡ true
same_of a b f g = both_true (within a b) (within b a) (within_of a b f) (within_of b a g)

pub same_set_refl : (a : List ℕ) → same_set a a ≡ true
same_set_refl a = same_of a a (λ k i. i) (λ k i. i)

pub same_set_sym : (a b : List ℕ) → same_set a b ≡ true → same_set b a ≡ true
same_set_sym a b s = same_of b a (same_from a b s) (same_to a b s)

pub same_set_trans : (a b c : List ℕ) → same_set a b ≡ true → same_set b c ≡ true → same_set a c ≡ true
same_set_trans a b c s t = same_of a c (λ k i. same_to b c t k (same_to a b s k i)) (λ k i. same_from a b s k (same_from b c t k i))

pub same_within : (a b : List ℕ) → same_set a b ≡ true → within a b ≡ true
same_within a b s = and_left (within a b) (within b a) s

-- ---- one of two holds the other

pub nested_left : (a b : List ℕ) → within a b ≡ true → nested a b ≡ true
nested_left a b w = left_true (within a b) (within b a) w

pub nested_right : (a b : List ℕ) → within b a ≡ true → nested a b ≡ true
nested_right a b w = right_true (within a b) (within b a) w

-- two that are not empty then share a kind
pub nested_meets : (a b : List ℕ) (i j : ℕ) → In a i → In b j → nested a b ≡ true → meets a b ≡ true
nested_meets a b i j u v n =
    or_cases (within a b) (within b a) n
    (λ w. meets_of a b i u (within_in a b w i u))
    (λ w. meets_of a b j (within_in b a w j v) v)

-- ---- what is so of sets is so of equal sets

module _ (a a' b b' : List ℕ) (s : same_set a a' ≡ true) (t : same_set b b' ≡ true) where
  pub within_over : within a b ≡ true → within a' b' ≡ true
  within_over w = within_of a' b' (λ k i. same_to b b' t k (within_in a b w k (same_from a a' s k i)))

  pub meets_over : meets a b ≡ true → meets a' b' ≡ true
  meets_over m = let x = meets_at a b m in meets_of a' b' x.0 (same_to a a' s x.0 x.1) (same_to b b' t x.0 x.2)

module _ (a a' b b' : List ℕ) (s : same_set a a' ≡ true) (t : same_set b b' ≡ true) where
  pub nested_over : nested a b ≡ true → nested a' b' ≡ true
  nested_over n =
      or_cases (within a b) (within b a) n
      (λ w. nested_left a' b' (within_over a a' b b' s t w))
      (λ w. nested_right a' b' (within_over b b' a a' t s w))

  pub meets_same : meets a b ≡ meets a' b'
  meets_same = same_truth (meets a b) (meets a' b') (meets_over a a' b b' s t) (meets_over a' a b' b (same_set_sym a a' s) (same_set_sym b b' t))

  pub set_same : same_set a b ≡ same_set a' b'
  set_same =
      same_truth (same_set a b) (same_set a' b')
      (λ u. same_set_trans a' a b' (same_set_sym a a' s) (same_set_trans a b b' u t))
      (λ u. same_set_trans a a' b s (same_set_trans a' b' b u (same_set_sym b b' t)))

-- ---- a group in a list

pub has_here : (g h : List ℕ) (hs : List (List ℕ)) → same_set g h ≡ true → has_group g (h ∷ hs) ≡ true
has_here g h hs s = left_true (same_set g h) (has_group g hs) s

pub has_there : (g h : List ℕ) (hs : List (List ℕ)) → has_group g hs ≡ true → has_group g (h ∷ hs) ≡ true
has_there g h hs i = right_true (same_set g h) (has_group g hs) i

pub has_first : (h : List ℕ) (hs : List (List ℕ)) → has_group h (h ∷ hs) ≡ true
has_first h hs = has_here h h hs (same_set_refl h)

pub has_cases : {P : Type 0} (g h : List ℕ) (hs : List (List ℕ)) → has_group g (h ∷ hs) ≡ true → (same_set g h ≡ true → P) → (has_group g hs ≡ true → P) → P
has_cases g h hs i = or_cases (same_set g h) (has_group g hs) i

pub has_append : (g : List ℕ) (a b : List (List ℕ)) → has_group g (a ++ b) ≡ (has_group g a || has_group g b)
has_append g [] b = refl
has_append g (h ∷ a) b = ap (λ (t : Bool). same_set g h || t) (has_append g a b) ∙ sym (or_assoc (same_set g h) (has_group g a) (has_group g b))

pub has_left : (g : List ℕ) (a b : List (List ℕ)) → has_group g a ≡ true → has_group g (a ++ b) ≡ true
has_left g a b i = has_append g a b ∙ left_true (has_group g a) (has_group g b) i

pub has_right : (g : List ℕ) (a b : List (List ℕ)) → has_group g b ≡ true → has_group g (a ++ b) ≡ true
has_right g a b i = has_append g a b ∙ right_true (has_group g a) (has_group g b) i

pub has_split : {P : Type 0} (g : List ℕ) (a b : List (List ℕ)) → has_group g (a ++ b) ≡ true → (has_group g a ≡ true → P) → (has_group g b ≡ true → P) → P
has_split g a b i = or_cases (has_group g a) (has_group g b) (sym (has_append g a b) ∙ i)

pub has_over : (g h : List ℕ) (gs : List (List ℕ)) → same_set g h ≡ true → has_group g gs ≡ true → has_group h gs ≡ true
has_over g h [] s i = i
has_over g h (x ∷ gs) s i =
    has_cases g x gs i
    (λ t. has_here h x gs (same_set_trans h g x (same_set_sym g h s) t))
    (λ t. has_there h x gs (has_over g h gs s t))

pub has_same : (g h : List ℕ) (gs : List (List ℕ)) → same_set g h ≡ true → has_group g gs ≡ has_group h gs
has_same g h gs s = same_truth (has_group g gs) (has_group h gs) (has_over g h gs s) (has_over h g gs (same_set_sym g h s))

-- each group of gs is one of hs
abbrev pub Among : List (List ℕ) → List (List ℕ) → Type 0
Among gs hs = (g : List ℕ) → has_group g gs ≡ true → has_group g hs ≡ true

-- the place of a group that is the same set
pub record Member (g : List ℕ) (gs : List (List ℕ)) : Type 0 where
  pub place : ℕ
  pub inside : place < length gs
  pub same : same_set g (get_or gs place []) ≡ true

pub has_member : (g : List ℕ) (gs : List (List ℕ)) → has_group g gs ≡ true → Member g gs
has_member g [] i = absurd (false≢true i)
has_member g (h ∷ hs) i =
    has_cases g h hs i
    (λ s. record { place = 0; inside = omega arith; same = s })
    (λ t. let m = has_member g hs t in record { place = suc m.place; inside = omega (arith, m.inside); same = m.same })

-- ---- the same groups

pub same_groups_refl : (gs : List (List ℕ)) → SameGroups gs gs
same_groups_refl gs g = refl

pub same_groups_sym : (gs hs : List (List ℕ)) → SameGroups gs hs → SameGroups hs gs
same_groups_sym gs hs s g = sym (s g)

pub same_groups_trans : (fs gs hs : List (List ℕ)) → SameGroups fs gs → SameGroups gs hs → SameGroups fs hs
same_groups_trans fs gs hs s t g = s g ∙ t g

pub same_groups_of : (gs hs : List (List ℕ)) → Among gs hs → Among hs gs → SameGroups gs hs
same_groups_of gs hs f h g = same_truth (has_group g gs) (has_group g hs) (f g) (h g)

pub same_groups_to : (gs hs : List (List ℕ)) → SameGroups gs hs → Among gs hs
same_groups_to gs hs s g i = sym (s g) ∙ i

pub same_groups_from : (gs hs : List (List ℕ)) → SameGroups gs hs → Among hs gs
same_groups_from gs hs s g i = s g ∙ i

pub same_groups_cons : (g h : List ℕ) (gs hs : List (List ℕ)) → same_set g h ≡ true → SameGroups gs hs → SameGroups (g ∷ gs) (h ∷ hs)
same_groups_cons g h gs hs s t x = ap₂ ◌||◌ (set_same x x g h (same_set_refl x) s) (t x)

pub same_groups_append : (a a' b b' : List (List ℕ)) → SameGroups a a' → SameGroups b b' → SameGroups (a ++ b) (a' ++ b')
same_groups_append a a' b b' s t x = has_append x a b ∙ ap₂ ◌||◌ (s x) (t x) ∙ sym (has_append x a' b')

pub same_groups_swap : (g h : List ℕ) (gs : List (List ℕ)) → SameGroups (g ∷ h ∷ gs) (h ∷ g ∷ gs)
same_groups_swap g h gs x = or_swap (same_set x g) (same_set x h) (has_group x gs)

-- a group in the middle, to the front
pub same_groups_middle : (a : List (List ℕ)) (g : List ℕ) (b : List (List ℕ)) → SameGroups (a ++ (g ∷ b)) (g ∷ (a ++ b))
same_groups_middle [] g b x = refl
same_groups_middle (h ∷ a) g b x = ap (λ (t : Bool). same_set x h || t) (same_groups_middle a g b x) ∙ or_swap (same_set x h) (same_set x g) (has_group x (a ++ b))

-- a group that is there already
pub same_groups_again : (g : List ℕ) (gs : List (List ℕ)) → has_group g gs ≡ true → SameGroups (g ∷ gs) gs
same_groups_again g gs i =
    same_groups_of (g ∷ gs) gs
    (λ x j. has_cases x g gs j (λ s. has_over g x gs (same_set_sym x g s) i) (λ t. t))
    (λ x j. has_there x g gs j)

-- ---- a test of each group

-- a test that equal sets pass alike
abbrev pub OfSets : (List ℕ → Bool) → Type 0
OfSets p = (g h : List ℕ) → same_set g h ≡ true → p g ≡ true → p h ≡ true

pub each_has : (p : List ℕ → Bool) → OfSets p → (gs : List (List ℕ)) → each_of p gs ≡ true → (g : List ℕ) → has_group g gs ≡ true → p g ≡ true
each_has p o [] t g i = absurd (false≢true i)
each_has p o (h ∷ hs) t g i =
    has_cases g h hs i
    (λ s. o h g (same_set_sym g h s) (and_left (p h) (each_of p hs) t))
    (λ j. each_has p o hs (and_right (p h) (each_of p hs) t) g j)

pub has_each : (p : List ℕ → Bool) (gs : List (List ℕ)) → ((g : List ℕ) → has_group g gs ≡ true → p g ≡ true) → each_of p gs ≡ true
has_each p [] f = refl
has_each p (h ∷ hs) f = both_true (p h) (each_of p hs) (f h (has_first h hs)) (has_each p hs (λ g i. f g (has_there g h hs i)))

pub each_at : (p : List ℕ → Bool) (gs : List (List ℕ)) → each_of p gs ≡ true → (i : ℕ) → i < length gs → p (get_or gs i []) ≡ true
each_at p [] t i h = absurd (omega arith)
each_at p (g ∷ gs) t zero h = and_left (p g) (each_of p gs) t
each_at p (g ∷ gs) t (suc i) h = each_at p gs (and_right (p g) (each_of p gs) t) i (omega arith)

pub each_same : (p : List ℕ → Bool) → OfSets p → (gs hs : List (List ℕ)) → SameGroups gs hs → each_of p gs ≡ each_of p hs
each_same p o gs hs s =
    same_truth (each_of p gs) (each_of p hs)
    (λ t. has_each p hs (λ g i. each_has p o gs t g (same_groups_from gs hs s g i)))
    (λ t. has_each p gs (λ g i. each_has p o hs t g (same_groups_to gs hs s g i)))

-- ---- the kinds of a list of groups

pub flat_in : (gs : List (List ℕ)) (g : List ℕ) (k : ℕ) → has_group g gs ≡ true → In g k → In (flatten gs) k
unfolding flatten
flat_in [] g k i u = absurd (false≢true i)
flat_in (h ∷ hs) g k i u =
    has_cases g h hs i
    (λ s. in_left h (flatten hs) k (same_to g h s k u))
    (λ t. in_right h (flatten hs) k (flat_in hs g k t u))

pub flat_at : (gs : List (List ℕ)) (k : ℕ) → In (flatten gs) k → (g : List ℕ) × (has_group g gs ≡ true) × In g k
unfolding flatten
flat_at [] k i = absurd (false≢true i)
flat_at (h ∷ hs) k i =
    in_cases h (flatten hs) k i
    (λ u. (h, has_first h hs, u))
    (λ u. let r = flat_at hs k u in (r.0, has_there r.0 h hs r.1, r.2))

pub flat_more : (gs hs : List (List ℕ)) → Among gs hs → (k : ℕ) → In (flatten gs) k → In (flatten hs) k
flat_more gs hs f k i = let r = flat_at gs k i in flat_in hs r.0 k (f r.0 r.1) r.2

-- groups of lists that have no kind in common
pub apart_groups : (a b : List (List ℕ)) → meets (flatten a) (flatten b) ≡ false → (g h : List ℕ) → has_group g a ≡ true → has_group h b ≡ true → meets g h ≡ false
apart_groups a b m g h i j =
    unmet_all g h (λ k u. not_true (mem k h) (λ v. true≢false (sym (flat_in a g k i u) ∙ unmet_in (flatten a) (flatten b) m k (flat_in b h k j v))))

-- ---- chains

pub chain_tail : (g : List ℕ) (gs : List (List ℕ)) → IsChain (g ∷ gs) → IsChain gs
chain_tail g [] c = tt
chain_tail g (h ∷ hs) c = c.1

-- a chain's first group is within each other
pub chain_over : (g : List ℕ) (gs : List (List ℕ)) → IsChain (g ∷ gs) → (x : List ℕ) → has_group x gs ≡ true → within g x ≡ true
chain_over g [] c x i = absurd (false≢true i)
chain_over g (h ∷ hs) c x i =
    has_cases x h hs i
    (λ s. within_over g g h x (same_set_refl g) (same_set_sym x h s) c.0)
    (λ t. within_trans g h x c.0 (chain_over h hs c.1 x t))

pub chain_cons : (g : List ℕ) (gs : List (List ℕ)) → IsChain gs → ((x : List ℕ) → has_group x gs ≡ true → within g x ≡ true) → IsChain (g ∷ gs)
chain_cons g [] c f = tt
chain_cons g (h ∷ hs) c f = (f h (has_first h hs), c)

-- of any two groups of a chain one holds the other
pub chain_nested : (gs : List (List ℕ)) → IsChain gs → (a b : List ℕ) → has_group a gs ≡ true → has_group b gs ≡ true → nested a b ≡ true
chain_nested [] c a b i j = absurd (false≢true i)
chain_nested (g ∷ gs) c a b i j =
    has_cases a g gs i
    (λ s. has_cases b g gs j
    (λ t. nested_left a b (same_within a b (same_set_trans a g b s (same_set_sym b g t))))
    (λ t. nested_left a b (within_over g a b b (same_set_sym a g s) (same_set_refl b) (chain_over g gs c b t))))
    (λ s. has_cases b g gs j
    (λ t. nested_right a b (within_over g b a a (same_set_sym b g t) (same_set_refl a) (chain_over g gs c a s)))
    (λ t. chain_nested gs (chain_tail g gs c) a b s t))

-- ---- the groups of a family

pub family_has : (ks acc : List ℕ) (f : Family) → is_group ks acc f ≡ has_group ks (groups_in acc f)
family_has ks acc [] = refl
family_has ks acc (r ∷ rs) = ap (λ (t : Bool). same_set ks (acc ++ r.new_kinds) || t) (family_has ks (acc ++ r.new_kinds) rs)

pub family_chain : (acc : List ℕ) (f : Family) → IsChain (groups_in acc f)
family_chain acc [] = tt
family_chain acc (r ∷ []) = tt
family_chain acc (r ∷ q ∷ rs) = (within_append (acc ++ r.new_kinds) q.new_kinds, family_chain (acc ++ r.new_kinds) (q ∷ rs))

-- a group has no kind but the family's
pub family_within : (acc : List ℕ) (f : Family) (g : List ℕ) → has_group g (groups_in acc f) ≡ true → within g (acc ++ kinds_of f) ≡ true
family_within acc [] g i = absurd (false≢true i)
family_within acc (r ∷ rs) g i =
    ap (λ (l : List ℕ). within g l) (sym (append_assoc acc r.new_kinds (kinds_of rs)))
    ∙ has_cases g (acc ++ r.new_kinds) (groups_in (acc ++ r.new_kinds) rs) i
    (λ s. within_trans g (acc ++ r.new_kinds) ((acc ++ r.new_kinds) ++ kinds_of rs) (same_within g (acc ++ r.new_kinds) s) (within_append (acc ++ r.new_kinds) (kinds_of rs)))
    (λ t. family_within (acc ++ r.new_kinds) rs g t)

-- and each kind of the family is in a group
pub kinds_flat : (acc : List ℕ) (f : Family) (k : ℕ) → In (kinds_of f) k → In (flatten (groups_in acc f)) k
unfolding flatten
kinds_flat acc [] k i = i
kinds_flat acc (r ∷ rs) k i =
    in_cases r.new_kinds (kinds_of rs) k i
    (λ u. in_left (acc ++ r.new_kinds) (flatten (groups_in (acc ++ r.new_kinds) rs)) k (in_right acc r.new_kinds k u))
    (λ u. in_right (acc ++ r.new_kinds) (flatten (groups_in (acc ++ r.new_kinds) rs)) k (kinds_flat (acc ++ r.new_kinds) rs k u))

pub flat_kinds : (f : Family) (k : ℕ) → In (flatten (groups_in [] f)) k → In (kinds_of f) k
flat_kinds f k i =
    let r = flat_at (groups_in [] f) k i in
    within_in r.0 (kinds_of f) (family_within [] f r.0 r.1) k r.2

-- groups that go on from equal sets
pub family_same : (a b : List ℕ) (f : Family) → same_set a b ≡ true → SameGroups (groups_in a f) (groups_in b f)
family_same a b [] s = same_groups_refl []
family_same a b (r ∷ rs) s =
    same_groups_cons (a ++ r.new_kinds) (b ++ r.new_kinds) (groups_in (a ++ r.new_kinds) rs) (groups_in (b ++ r.new_kinds) rs) more (family_same (a ++ r.new_kinds) (b ++ r.new_kinds) rs more)
  where
    more : same_set (a ++ r.new_kinds) (b ++ r.new_kinds) ≡ true
    more =
        same_of (a ++ r.new_kinds) (b ++ r.new_kinds)
        (λ k i. in_cases a r.new_kinds k i (λ u. in_left b r.new_kinds k (same_to a b s k u)) (λ u. in_right b r.new_kinds k u))
        (λ k i. in_cases b r.new_kinds k i (λ u. in_left a r.new_kinds k (same_from a b s k u)) (λ u. in_right a r.new_kinds k u))

pub family_count : (acc : List ℕ) (f : Family) → length (groups_in acc f) ≡ length f
family_count acc [] = refl
family_count acc (r ∷ rs) = ap suc (family_count (acc ++ r.new_kinds) rs)

-- ---- the groups of a layout

pub present_has : (ks : List ℕ) (fs : List Family) → present ks fs ≡ has_group ks (all_groups fs)
present_has ks [] = refl
present_has ks (f ∷ fs) = ap₂ ◌||◌ (family_has ks [] f) (present_has ks fs) ∙ sym (has_append ks (groups_in [] f) (all_groups fs))

pub layout_append : (fs gs : List Family) → all_groups (fs ++ gs) ≡ all_groups fs ++ all_groups gs
layout_append [] gs = refl
layout_append (f ∷ fs) gs = ap (λ (l : List (List ℕ)). groups_in [] f ++ l) (layout_append fs gs) ∙ sym (append_assoc (groups_in [] f) (all_groups fs) (all_groups gs))

-- a group has no kind but the layout's
pub layout_within : (fs : List Family) (g : List ℕ) → has_group g (all_groups fs) ≡ true → within g (layout_kinds fs) ≡ true
layout_within [] g i = absurd (false≢true i)
layout_within (f ∷ fs) g i =
    has_split g (groups_in [] f) (all_groups fs) i
    (λ t. within_trans g (kinds_of f) (kinds_of f ++ layout_kinds fs) (family_within [] f g t) (within_append (kinds_of f) (layout_kinds fs)))
    (λ t. within_trans g (layout_kinds fs) (kinds_of f ++ layout_kinds fs) (layout_within fs g t) (within_of (layout_kinds fs) (kinds_of f ++ layout_kinds fs) (in_right (kinds_of f) (layout_kinds fs))))

pub flat_layout : (fs : List Family) (k : ℕ) → In (flatten (all_groups fs)) k → In (layout_kinds fs) k
flat_layout fs k i =
    let r = flat_at (all_groups fs) k i in
    within_in r.0 (layout_kinds fs) (layout_within fs r.0 r.1) k r.2

-- and each kind of the layout is in a group
pub layout_flat : (fs : List Family) (k : ℕ) → In (layout_kinds fs) k → In (flatten (all_groups fs)) k
layout_flat [] k i = absurd (false≢true i)
layout_flat (f ∷ fs) k i =
    in_cases (kinds_of f) (layout_kinds fs) k i
    (λ u. flat_more (groups_in [] f) (all_groups (f ∷ fs)) (λ g t. has_left g (groups_in [] f) (all_groups fs) t) k (kinds_flat [] f k u))
    (λ u. flat_more (all_groups fs) (all_groups (f ∷ fs)) (λ g t. has_right g (groups_in [] f) (all_groups fs) t) k (layout_flat fs k u))

-- a layout that has each kind once: its first family has no kind in common with the others
pub family_apart : (f : Family) (fs : List Family) → Distinct (layout_kinds (f ∷ fs)) → meets (flatten (groups_in [] f)) (flatten (all_groups fs)) ≡ false
family_apart f fs d =
    unmet_all (flatten (groups_in [] f)) (flatten (all_groups fs))
    (λ k i. not_true (mem k (flatten (all_groups fs))) (λ t. true≢false (sym (flat_layout fs k t) ∙ distinct_apart (kinds_of f) (layout_kinds fs) d k (flat_kinds f k i))))

-- a group has no more kinds than a family may have
pub group_narrow : (ks : List ℕ) (fs : List Family) → Distinct ks → BuildableFamilies fs → has_group ks (all_groups fs) ≡ true → length ks ≤ MAX_GROUP_ARITY
group_narrow ks [] d b i = absurd (false≢true i)
group_narrow ks ([] ∷ fs) d b i = absurd b.0
group_narrow ks ((r ∷ rs) ∷ fs) d b i =
    has_split ks (groups_in [] (r ∷ rs)) (all_groups fs) i
    (λ t. omega (arith, b.0.2, shorter ks (kinds_of (r ∷ rs)) (within_counts ks (kinds_of (r ∷ rs)) d (family_within [] (r ∷ rs) ks t))))
    (λ t. group_narrow ks fs d b.1 t)
