-- Which groups form a layout: exactly those that pass the test on three; and a hand joins a draft exactly where it forms a layout with the draft's groups.
-- Assumes nothing.
use mathlib.Core.Path.{◌≡◌, refl, ap, sym, ◌∙◌, subst}
use mathlib.Core.Logic.{◌↔◌}
use mathlib.Core.Bool.{Bool, true, false, not, ◌&&◌, ◌||◌, true≢false, false≢true}
use mathlib.Core.List.{List, [], ◌∷◌, ◌++◌, map, flatten, append-nil}
use Prim.Native.Nat.{ℕ, ◌≤◌}
use native.Mathlib.Omega.{arith}
use borrow.Author.Tests.{leb-true, le-leb, eq-eqb}
use lib.Dec.{eqb, leb}
use lib.ListN.{get_or}
use Rattle.model.specs.Model.{Family, mem, within, meets, same_set, without, common, kinds_of, touched, nested, chains, chained, new_group, family_with, families_with, joins, with_group}
use Rattle.model.specs.Sound.{In, Distinct, layout_kinds}
use Rattle.model.specs.Forms.{groups_in, all_groups, has_group, SameGroups, IsChain, AreFamilies, Forms, each_of, is_layout}
use Rattle.model.proofs.BoolLaws.{bool_cases, cond_case, and_left, and_right, or_right, not_true, both_true}
use Rattle.model.proofs.Draft.{untouched, untouched_chained, families_with_same, chains_here, chains_rest, holds_staged, chained_first, chained_rest}
use Rattle.model.proofs.KindLists.{Missing, all_missing, in_left, in_right, in_cases, meets_none, unmet_all, any_none, distinct_right, in_without, in_common, within_in, common_in, without_in}
use Rattle.drafts.proofs.Sets.{within_over, meets_at, meets_of, meets_sym, same_of, same_set_refl, same_set_sym, same_within, nested_left, nested_meets, nested_over, meets_over, meets_same, has_first, has_here, has_there, has_cases, has_left, has_right, has_split, Among, Member, has_member, same_groups_refl, same_groups_trans, same_groups_to, same_groups_from, same_groups_cons, same_groups_append, same_groups_swap, same_groups_middle, has_each, each_at, flat_in, flat_at, apart_groups, chain_tail, chain_over, chain_cons, chain_nested, family_chain, family_same, kinds_flat, flat_kinds, flat_layout, layout_flat, layout_append, family_apart}

-- ---- the test, of all groups of the list

-- where b shares a kind with a and with c, one of a and c holds the other
abbrev pub Tested : List (List ℕ) → Type 0
Tested gs = (a b c : List ℕ) → has_group a gs ≡ true → has_group b gs ≡ true → has_group c gs ≡ true → meets a b ≡ true → meets b c ≡ true → nested a c ≡ true

abbrev third : List ℕ → List ℕ → List ℕ → Bool
third a b c = not (meets a b && meets b c) || nested a c

abbrev second : List (List ℕ) → List ℕ → List ℕ → Bool
second gs a b = each_of (third a b) gs

implies : (x y z : Bool) → (x ≡ true → y ≡ true → z ≡ true) → (not (x && y) || z) ≡ true
implies true true z f = f refl refl
implies true false z f = refl
implies false y z f = refl

implied : (x y z : Bool) → (not (x && y) || z) ≡ true → x ≡ true → y ≡ true → z ≡ true
implied true true z h p q = h
implied true false z h p q = absurd (false≢true q)
implied false y z h p q = absurd (false≢true p)

pub test_of : (gs : List (List ℕ)) → Tested gs → is_layout gs ≡ true
test_of gs T =
    has_each (λ a. each_of (second gs a) gs) gs
    (λ a i. has_each (second gs a) gs
    (λ b j. has_each (third a b) gs
    (λ c l. implies (meets a b) (meets b c) (nested a c) (T a b c i j l))))

pub test_to : (gs : List (List ℕ)) → is_layout gs ≡ true → Tested gs
test_to gs t a b c i j l m n =
    let A : Member a gs = has_member a gs i in
    let B : Member b gs = has_member b gs j in
    let C : Member c gs = has_member c gs l in
    let x : List ℕ = get_or gs A.place [] in
    let y : List ℕ = get_or gs B.place [] in
    let z : List ℕ = get_or gs C.place [] in
    let ta : each_of (second gs x) gs ≡ true = each_at (λ u. each_of (second gs u) gs) gs t A.place A.inside in
    let tb : each_of (third x y) gs ≡ true = each_at (second gs x) gs ta B.place B.inside in
    let tc : third x y z ≡ true = each_at (third x y) gs tb C.place C.inside in
    nested_over x a z c (same_set_sym a x A.same) (same_set_sym c z C.same)
    (implied (meets x y) (meets y z) (nested x z) tc (meets_over a x b y A.same B.same m) (meets_over b y c z B.same C.same n))

-- it passes to fewer groups
test_part : (gs hs : List (List ℕ)) → Among hs gs → Tested gs → Tested hs
test_part gs hs f T a b c i j l = T a b c (f a i) (f b j) (f c l)

-- ---- families with no kind in common, each a chain, pass it

families_tested : (fs : List (List (List ℕ))) → AreFamilies fs → Tested (flatten fs)
unfolding flatten
families_tested [] L a b c i j l m n = absurd (false≢true i)
families_tested (f ∷ fs) L a b c i j l m n =
    has_split a f (flatten fs) i
    (λ u. has_split b f (flatten fs) j
    (λ v. has_split c f (flatten fs) l
    (λ w. chain_nested f L.0 a c u w)
    (λ w. never b c v w n))
    (λ v. never a b u v m))
    (λ u. has_split b f (flatten fs) j
    (λ v. never b a v u (meets_sym a b m))
    (λ v. has_split c f (flatten fs) l
    (λ w. never c b w v (meets_sym b c n))
    (λ w. families_tested fs L.2 a b c u v w m n)))
  where
    never : (x y : List ℕ) → has_group x f ≡ true → has_group y (flatten fs) ≡ true → meets x y ≡ true → nested a c ≡ true
    never x y u v m = absurd (true≢false (sym m ∙ apart_groups f (flatten fs) L.1 x y u v))

pub forms_tested : (gs : List (List ℕ)) → Forms gs → Tested gs
forms_tested gs F = test_part (flatten F.families) gs (same_groups_from (flatten F.families) gs F.groups) (families_tested F.families F.layout)

-- groups that form a layout pass the test
pub forms_test : (gs : List (List ℕ)) → Forms gs → is_layout gs ≡ true
forms_test gs F = test_of gs (forms_tested gs F)

-- ---- a group that fits families: it shares kinds with one at most, and with its groups is a chain

abbrev FitsIn : List ℕ → List (List (List ℕ)) → Type 0
FitsIn g [] = Unit {0}
FitsIn g (f ∷ fs) =
    (meets g (flatten f) ≡ true → ((x : List ℕ) → has_group x f ≡ true → nested x g ≡ true) × (meets g (flatten (flatten fs)) ≡ false))
    × (meets g (flatten f) ≡ false → FitsIn g fs)

-- a chain with the group in its place
record Longer (g : List ℕ) (f : List (List ℕ)) : Type 0 where
  pub chain : List (List ℕ)
  pub rises : IsChain chain
  pub groups : SameGroups chain (g ∷ f)

-- behind the groups that it holds
chain_longer : (g : List ℕ) (f : List (List ℕ)) → IsChain f → ((x : List ℕ) → has_group x f ≡ true → nested x g ≡ true) → Longer g f
chain_longer g [] c n = record { chain = g ∷ []; rises = tt; groups = same_groups_refl (g ∷ []) }
chain_longer g (h ∷ hs) c n = bool_cases (within h g) (further (chain_longer g hs (chain_tail h hs c) (λ x i. n x (has_there x h hs i)))) here
  where
    further : Longer g hs → within h g ≡ true → Longer g (h ∷ hs)
    further r w =
        record {
          chain = h ∷ r.chain;
          rises = chain_cons h r.chain r.rises
              (λ x i. has_cases x g hs (same_groups_to r.chain (g ∷ hs) r.groups x i)
              (λ s. within_over h h g x (same_set_refl h) (same_set_sym x g s) w)
              (λ t. chain_over h hs c x t));
          groups = same_groups_trans (h ∷ r.chain) (h ∷ g ∷ hs) (g ∷ h ∷ hs)
              (same_groups_cons h h r.chain (g ∷ hs) (same_set_refl h) r.groups)
              (same_groups_swap h g hs);
        }

    here : within h g ≡ false → Longer g (h ∷ hs)
    here w =
        record {
          chain = g ∷ h ∷ hs;
          rises = (or_right (within h g) (within g h) (n h (has_first h hs)) w, c);
          groups = same_groups_refl (g ∷ h ∷ hs);
        }

-- families that the group fits form a layout with it: it goes to the one that it shares kinds with, or is one of its own
taken : (g : List ℕ) (fs : List (List (List ℕ))) → AreFamilies fs → FitsIn g fs → Forms (g ∷ flatten fs)
unfolding flatten
taken g [] L F = record { families = (g ∷ []) ∷ []; layout = (tt, meets_none (flatten (g ∷ [])), tt); groups = same_groups_refl (g ∷ []) }
taken g (f ∷ fs) L F = bool_cases (meets g (flatten f)) (λ m. here (chain_longer g f L.0 (F.0 m).0) (F.0 m).1) (λ m. further m (taken g fs L.2 (F.1 m)))
  where
    here : Longer g f → meets g (flatten (flatten fs)) ≡ false → Forms (g ∷ flatten (f ∷ fs))
    here r n =
        record {
          families = r.chain ∷ fs;
          layout = (r.rises, unmet_all (flatten r.chain) (flatten (flatten fs)) outside, L.2);
          groups = same_groups_append r.chain (g ∷ f) (flatten fs) (flatten fs) r.groups (same_groups_refl (flatten fs));
        }
      where
        outside : (k : ℕ) → In (flatten r.chain) k → mem k (flatten (flatten fs)) ≡ false
        outside k i =
            let x = flat_at r.chain k i in
            has_cases x.0 g f (same_groups_to r.chain (g ∷ f) r.groups x.0 x.1)
            (λ s. any_none (λ j. mem j (flatten (flatten fs))) g k n (within_in x.0 g (same_within x.0 g s) k x.2))
            (λ t. any_none (λ j. mem j (flatten (flatten fs))) (flatten f) k L.1 (flat_in f x.0 k t x.2))

    further : meets g (flatten f) ≡ false → Forms (g ∷ flatten fs) → Forms (g ∷ flatten (f ∷ fs))
    further m r =
        record {
          families = f ∷ r.families;
          layout = (L.0, unmet_all (flatten f) (flatten (flatten r.families)) (λ k i. not_true (mem k (flatten (flatten r.families))) (outside k i)), r.layout);
          groups = same_groups_trans (f ++ flatten r.families) (f ++ (g ∷ flatten fs)) (g ∷ (f ++ flatten fs))
              (same_groups_append f f (flatten r.families) (g ∷ flatten fs) (same_groups_refl f) r.groups)
              (same_groups_middle f g (flatten fs));
        }
      where
        outside : (k : ℕ) → In (flatten f) k → In (flatten (flatten r.families)) k → ⊥
        outside k i j =
            let x = flat_at (flatten r.families) k j in
            has_cases x.0 g (flatten fs) (same_groups_to (flatten r.families) (g ∷ flatten fs) r.groups x.0 x.1)
            (λ s. true≢false (sym (meets_of g (flatten f) k (within_in x.0 g (same_within x.0 g s) k x.2) i) ∙ m))
            (λ t. true≢false (sym (meets_of (flatten f) (flatten (flatten fs)) k i (flat_in (flatten fs) x.0 k t x.2)) ∙ L.1))

-- ---- a group that passes the test with them fits

-- each group of a family that g shares a kind with holds g or is within it
nested_all : (g : List ℕ) (f gs : List (List ℕ)) → IsChain f → Tested (g ∷ gs) → Among f gs → meets g (flatten f) ≡ true → (x : List ℕ) → has_group x f ≡ true → nested x g ≡ true
nested_all g f gs c T sub m x i =
    bool_cases (within x g) (λ w. nested_left x g w)
    (λ w.
    let y : Missing (λ k. mem k g) x = all_missing (λ k. mem k g) x w in
    let z = meets_at g (flatten f) m in
    let h = flat_at f z.0 z.2 in
    T x h.0 g (has_there x g gs (sub x i)) (has_there h.0 g gs (sub h.0 h.1)) (has_first g gs)
    (nested_meets x h.0 y.kind z.0 y.is_in h.2 (chain_nested f c x h.0 i h.1))
    (meets_of h.0 g z.0 h.2 z.1))

-- and with no other family it shares one
none_else : (g : List ℕ) (f gs : List (List ℕ)) → Tested (g ∷ (f ++ gs)) → meets (flatten f) (flatten gs) ≡ false → meets g (flatten f) ≡ true → meets g (flatten gs) ≡ false
none_else g f gs T apart m =
    not_true (meets g (flatten gs))
    (λ n.
    let u = meets_at g (flatten f) m in
    let x = flat_at f u.0 u.2 in
    let v = meets_at g (flatten gs) n in
    let y = flat_at gs v.0 v.2 in
    let e : nested x.0 y.0 ≡ true = T x.0 g y.0 (has_there x.0 g (f ++ gs) (has_left x.0 f gs x.1)) (has_first g (f ++ gs)) (has_there y.0 g (f ++ gs) (has_right y.0 f gs y.1)) (meets_of x.0 g u.0 x.2 u.1) (meets_of g y.0 v.0 v.1 y.2) in
    true≢false (sym (nested_meets x.0 y.0 u.0 v.0 x.2 y.2 e) ∙ apart_groups f gs apart x.0 y.0 x.1 y.1))

tested_fits : (g : List ℕ) (fs : List (List (List ℕ))) → AreFamilies fs → Tested (g ∷ flatten fs) → FitsIn g fs
unfolding flatten
tested_fits g [] L T = tt
tested_fits g (f ∷ fs) L T = (
  (λ m. (nested_all g f (f ++ flatten fs) L.0 T (λ x i. has_left x f (flatten fs) i) m, none_else g f (flatten fs) T L.1 m)),
  (λ m. tested_fits g fs L.2 (test_part (g ∷ (f ++ flatten fs)) (g ∷ flatten fs) rest T)),
)
  where
    rest : Among (g ∷ flatten fs) (g ∷ (f ++ flatten fs))
    rest x i = has_cases x g (flatten fs) i (λ s. has_here x g (f ++ flatten fs) s) (λ t. has_there x g (f ++ flatten fs) (has_right x f (flatten fs) t))

-- ---- groups that pass the test form a layout

pub forms_same : (gs hs : List (List ℕ)) → SameGroups gs hs → Forms gs → Forms hs
forms_same gs hs s F = record { families = F.families; layout = F.layout; groups = same_groups_trans (flatten F.families) gs hs F.groups s }

pub tested_forms : (gs : List (List ℕ)) → Tested gs → Forms gs
unfolding flatten
tested_forms [] T = record { families = []; layout = tt; groups = same_groups_refl [] }
tested_forms (g ∷ gs) T =
    let r : Forms gs = tested_forms gs (test_part (g ∷ gs) gs (λ x i. has_there x g gs i) T) in
    let e : SameGroups (g ∷ flatten r.families) (g ∷ gs) = same_groups_cons g g (flatten r.families) gs (same_set_refl g) r.groups in
    forms_same (g ∷ flatten r.families) (g ∷ gs) e
    (taken g r.families r.layout (tested_fits g r.families r.layout (test_part (g ∷ gs) (g ∷ flatten r.families) (same_groups_to (g ∷ flatten r.families) (g ∷ gs) e) T)))

pub test_forms : (gs : List (List ℕ)) → is_layout gs ≡ true → Forms gs
test_forms gs t = tested_forms gs (test_to gs t)

-- groups form a layout exactly if they pass the test
pub layout_test : (gs : List (List ℕ)) → Forms gs ↔ (is_layout gs ≡ true)
layout_test gs = (forms_test gs, test_forms gs)

-- ---- that groups form a layout goes by which they are

pub forms_part : (gs hs : List (List ℕ)) → Among hs gs → Forms gs → Forms hs
forms_part gs hs f F = tested_forms hs (test_part gs hs f (forms_tested gs F))

-- ---- the families of a layout

-- the groups of each family
abbrev chains_of : List Family → List (List (List ℕ))
chains_of fs = map (groups_in []) fs

chains_flat : (fs : List Family) → flatten (chains_of fs) ≡ all_groups fs
unfolding flatten
chains_flat [] = refl
chains_flat (f ∷ fs) = ap (λ (l : List (List ℕ)). groups_in [] f ++ l) (chains_flat fs)

layout_families_law : (fs : List Family) → Distinct (layout_kinds fs) → AreFamilies (chains_of fs)
layout_families_law [] d = tt
layout_families_law (f ∷ fs) d = (
  family_chain [] f,
  ap (λ (l : List (List ℕ)). meets (flatten (groups_in [] f)) (flatten l)) (chains_flat fs) ∙ family_apart f fs d,
  layout_families_law fs (distinct_right (kinds_of f) (layout_kinds fs) d),
)

-- the groups of a layout that has each kind once form one
pub layout_forms : (fs : List Family) → Distinct (layout_kinds fs) → Forms (all_groups fs)
layout_forms fs d = record { families = chains_of fs; layout = layout_families_law fs d; groups = subst (λ (l : List (List ℕ)). SameGroups l (all_groups fs)) (sym (chains_flat fs)) (same_groups_refl (all_groups fs)) }

-- ---- the rule of GROUP is that the hand fits

-- no family is touched: no kind of the layout is one of ks
touched_none : (ks : List ℕ) (fs : List Family) → touched ks fs ≡ 0 → meets ks (flatten (all_groups fs)) ≡ false
touched_none ks fs z = unmet_all ks (flatten (all_groups fs)) (λ k i. not_true (mem k (flatten (all_groups fs))) (λ t. true≢false (sym i ∙ untouched ks fs z k (flat_layout fs k t))))

none_touched : (ks : List ℕ) (fs : List Family) → meets ks (flatten (all_groups fs)) ≡ false → touched ks fs ≡ 0
none_touched ks [] n = refl
none_touched ks (f ∷ fs) n =
    let here : meets ks (kinds_of f) ≡ false = unmet_all ks (kinds_of f) (λ k i. not_true (mem k (kinds_of f)) (λ t. out k i (in_left (kinds_of f) (layout_kinds fs) k t))) in
    let rest : meets ks (flatten (all_groups fs)) ≡ false = unmet_all ks (flatten (all_groups fs)) (λ k i. not_true (mem k (flatten (all_groups fs))) (λ t. out k i (in_right (kinds_of f) (layout_kinds fs) k (flat_layout fs k t)))) in
    rw here (none_touched ks fs rest)
  where
    out : (k : ℕ) → In ks k → In (layout_kinds (f ∷ fs)) k → ⊥
    out k i j = true≢false (sym (meets_of ks (flatten (all_groups (f ∷ fs))) k i (layout_flat (f ∷ fs) k j)) ∙ n)

-- the chain test of a family is of each of its groups
chains_nested : (ks acc : List ℕ) (f : Family) → chains ks acc f ≡ true → (x : List ℕ) → has_group x (groups_in acc f) ≡ true → nested x ks ≡ true
chains_nested ks acc [] c x i = absurd (false≢true i)
chains_nested ks acc (r ∷ rs) c x i =
    has_cases x (acc ++ r.new_kinds) (groups_in (acc ++ r.new_kinds) rs) i
    (λ s. nested_over (acc ++ r.new_kinds) x ks ks (same_set_sym x (acc ++ r.new_kinds) s) (same_set_refl ks) (chains_here ks acc r rs c))
    (λ t. chains_nested ks (acc ++ r.new_kinds) rs (chains_rest ks acc r rs c) x t)

nested_chains : (ks acc : List ℕ) (f : Family) → ((x : List ℕ) → has_group x (groups_in acc f) ≡ true → nested x ks ≡ true) → chains ks acc f ≡ true
nested_chains ks acc [] n = refl
nested_chains ks acc (r ∷ rs) n =
    both_true (nested (acc ++ r.new_kinds) ks) (chains ks (acc ++ r.new_kinds) rs)
    (n (acc ++ r.new_kinds) (has_first (acc ++ r.new_kinds) (groups_in (acc ++ r.new_kinds) rs)))
    (nested_chains ks (acc ++ r.new_kinds) rs (λ x i. n x (has_there x (acc ++ r.new_kinds) (groups_in (acc ++ r.new_kinds) rs) i)))

-- a family's kinds are those of its groups
family_meets : (ks : List ℕ) (f : Family) → meets ks (flatten (groups_in [] f)) ≡ meets ks (kinds_of f)
family_meets ks f = meets_same ks ks (flatten (groups_in [] f)) (kinds_of f) (same_set_refl ks) (same_of (flatten (groups_in [] f)) (kinds_of f) (flat_kinds f) (kinds_flat [] f))

rule_fits : (ks : List ℕ) (fs : List Family) → touched ks fs ≤ 1 → chained ks fs ≡ true → FitsIn ks (chains_of fs)
rule_fits ks [] t c = tt
rule_fits ks (f ∷ fs) t c = (
  (λ m.
      let m' : meets ks (kinds_of f) ≡ true = sym (family_meets ks f) ∙ m in
      let z : touched ks fs ≡ 0 = omega (arith, rw m' at t) in (
        chains_nested ks [] f (chained_first ks f fs c m'),
        ap (λ (l : List (List ℕ)). meets ks (flatten l)) (chains_flat fs) ∙ touched_none ks fs z,
      )),
  (λ m.
      let m' : meets ks (kinds_of f) ≡ false = sym (family_meets ks f) ∙ m in
      rule_fits ks fs (rw m' at t) (chained_rest ks f fs c)),
)

fits_rule : (ks : List ℕ) (fs : List Family) → FitsIn ks (chains_of fs) → (touched ks fs ≤ 1) × (chained ks fs ≡ true)
fits_rule ks [] F = (omega arith, refl)
fits_rule ks (f ∷ fs) F =
    bool_cases (meets ks (kinds_of f))
    (λ m.
    let p = F.0 (family_meets ks f ∙ m) in
    let z : touched ks fs ≡ 0 = none_touched ks fs (ap (λ (l : List (List ℕ)). meets ks (flatten l)) (sym (chains_flat fs)) ∙ p.1) in
    (rw m (omega (arith, z)), rw m (both_true (chains ks [] f) (chained ks fs) (nested_chains ks [] f p.0) (untouched_chained ks fs z))))
    (λ m.
    let p = fits_rule ks fs (F.1 (family_meets ks f ∙ m)) in
    (rw m p.0, rw m p.1))

joins_fits : (ks : List ℕ) (fs : List Family) → joins ks fs ≡ true → FitsIn ks (chains_of fs)
joins_fits ks fs j = rule_fits ks fs (leb-true (touched ks fs) 1 (and_left (leb (touched ks fs) 1) (chained ks fs) j)) (and_right (leb (touched ks fs) 1) (chained ks fs) j)

fits_joins : (ks : List ℕ) (fs : List Family) → FitsIn ks (chains_of fs) → joins ks fs ≡ true
fits_joins ks fs F = let p = fits_rule ks fs F in both_true (leb (touched ks fs) 1) (chained ks fs) (le-leb (touched ks fs) 1 p.0) p.1

-- a hand joins a draft exactly if it forms a layout with the draft's groups
pub joins_forms : (ks : List ℕ) (fs : List Family) → Distinct (layout_kinds fs) → (joins ks fs ≡ true) ↔ Forms (ks ∷ all_groups fs)
joins_forms ks fs d = (to, from)
  where
    to : joins ks fs ≡ true → Forms (ks ∷ all_groups fs)
    to j = subst (λ (l : List (List ℕ)). Forms (ks ∷ l)) (chains_flat fs) (taken ks (chains_of fs) (layout_families_law fs d) (joins_fits ks fs j))

    from : Forms (ks ∷ all_groups fs) → joins ks fs ≡ true
    from F =
        fits_joins ks fs
        (tested_fits ks (chains_of fs) (layout_families_law fs d)
        (subst (λ (l : List (List ℕ)). Tested (ks ∷ l)) (sym (chains_flat fs)) (forms_tested (ks ∷ all_groups fs) F)))

-- ---- the draft that GROUP makes has exactly the groups of before and the new one

-- a set, and what another has besides
rest_same : (acc ks : List ℕ) → within acc ks ≡ true → same_set (acc ++ without ks acc) ks ≡ true
rest_same acc ks w =
    same_of (acc ++ without ks acc) ks
    (λ k i. in_cases acc (without ks acc) k i (within_in acc ks w k) (without_in ks acc k))
    (λ k i. bool_cases (mem k acc) (λ t. in_left acc (without ks acc) k t) (λ t. in_right acc (without ks acc) k (in_without ks acc k i t)))

-- a set between acc and acc with the ring
between_same : (acc ring ks : List ℕ) → within acc ks ≡ true → within ks (acc ++ ring) ≡ true → same_set (acc ++ common ring ks) ks ≡ true
between_same acc ring ks w v =
    same_of (acc ++ common ring ks) ks
    (λ k i. in_cases acc (common ring ks) k i (within_in acc ks w k) (λ u. (common_in ring ks k u).1))
    (λ k i. in_cases acc ring k (within_in ks (acc ++ ring) v k i) (in_left acc (common ring ks) k) (λ u. in_right acc (common ring ks) k (in_common ring ks k u i)))

-- the ring in two parts
parts_same : (acc ring ks : List ℕ) → same_set ((acc ++ common ring ks) ++ without ring ks) (acc ++ ring) ≡ true
parts_same acc ring ks =
    same_of ((acc ++ common ring ks) ++ without ring ks) (acc ++ ring)
    (λ k i. in_cases (acc ++ common ring ks) (without ring ks) k i
    (λ u. in_cases acc (common ring ks) k u (in_left acc ring k) (λ v. in_right acc ring k (common_in ring ks k v).0))
    (λ u. in_right acc ring k (without_in ring ks k u)))
    (λ k i. in_cases acc ring k i
    (λ u. in_left (acc ++ common ring ks) (without ring ks) k (in_left acc (common ring ks) k u))
    (λ u. bool_cases (mem k ks)
    (λ t. in_left (acc ++ common ring ks) (without ring ks) k (in_right acc (common ring ks) k (in_common ring ks k u t)))
    (λ t. in_right (acc ++ common ring ks) (without ring ks) k (in_without ring ks k u t))))

-- of the one family
family_with_has : (ks acc : List ℕ) (f : Family) → within acc ks ≡ true → chains ks acc f ≡ true → SameGroups (groups_in acc (family_with ks acc f)) (ks ∷ groups_in acc f)
family_with_has ks acc [] w c = same_groups_cons (acc ++ without ks acc) ks [] [] (rest_same acc ks w) (same_groups_refl [])
family_with_has ks acc (r ∷ rs) w c =
    cond_case (λ (h : Family). SameGroups (groups_in acc h) (ks ∷ groups_in acc (r ∷ rs))) (within (acc ++ r.new_kinds) ks) _ _
    (λ t. further t (family_with_has ks (acc ++ r.new_kinds) rs t (chains_rest ks acc r rs c)))
    (λ t. here (holds_staged ks acc r rs c t))
  where
    g : List ℕ
    g = acc ++ r.new_kinds

    further : within (acc ++ r.new_kinds) ks ≡ true → SameGroups (groups_in (acc ++ r.new_kinds) (family_with ks (acc ++ r.new_kinds) rs)) (ks ∷ groups_in (acc ++ r.new_kinds) rs) → SameGroups (groups_in acc (r ∷ family_with ks (acc ++ r.new_kinds) rs)) (ks ∷ groups_in acc (r ∷ rs))
    further t s =
        same_groups_trans (g ∷ groups_in g (family_with ks g rs)) (g ∷ ks ∷ groups_in g rs) (ks ∷ g ∷ groups_in g rs)
        (same_groups_cons g g (groups_in g (family_with ks g rs)) (ks ∷ groups_in g rs) (same_set_refl g) s)
        (same_groups_swap g ks (groups_in g rs))

    here : within ks (acc ++ r.new_kinds) ≡ true → SameGroups (groups_in acc (new_group (common r.new_kinds ks) ∷ record { new_kinds = without r.new_kinds ks; count = r.count } ∷ rs)) (ks ∷ groups_in acc (r ∷ rs))
    here v =
        let a : List ℕ = acc ++ common r.new_kinds ks in
        let b : List ℕ = (acc ++ common r.new_kinds ks) ++ without r.new_kinds ks in
        let e : same_set b g ≡ true = parts_same acc r.new_kinds ks in
        same_groups_cons a ks (b ∷ groups_in b rs) (g ∷ groups_in g rs) (between_same acc r.new_kinds ks w v)
        (same_groups_cons b g (groups_in b rs) (groups_in g rs) e (family_same b g rs e))

families_with_has : (ks : List ℕ) (fs : List Family) → touched ks fs ≡ 1 → chained ks fs ≡ true → SameGroups (all_groups (families_with ks fs)) (ks ∷ all_groups fs)
families_with_has ks [] t c = absurd (omega arith)
families_with_has ks (f ∷ fs) t c = bool_cases (meets ks (kinds_of f)) here (λ m. further m (families_with_has ks fs (rw m at t) (chained_rest ks f fs c)))
  where
    here : meets ks (kinds_of f) ≡ true → SameGroups (all_groups (families_with ks (f ∷ fs))) (ks ∷ all_groups (f ∷ fs))
    here m =
        let z : touched ks fs ≡ 0 = omega (arith, rw m at t) in
        let h : chains ks [] f ≡ true = chained_first ks f fs c m in
        rw (m, families_with_same ks fs z)
        (same_groups_append (groups_in [] (family_with ks [] f)) (ks ∷ groups_in [] f) (all_groups fs) (all_groups fs) (family_with_has ks [] f refl h) (same_groups_refl (all_groups fs)))

    further : meets ks (kinds_of f) ≡ false → SameGroups (all_groups (families_with ks fs)) (ks ∷ all_groups fs) → SameGroups (all_groups (families_with ks (f ∷ fs))) (ks ∷ all_groups (f ∷ fs))
    further m s =
        rw m
        (same_groups_trans (groups_in [] f ++ all_groups (families_with ks fs)) (groups_in [] f ++ (ks ∷ all_groups fs)) (ks ∷ (groups_in [] f ++ all_groups fs))
        (same_groups_append (groups_in [] f) (groups_in [] f) (all_groups (families_with ks fs)) (ks ∷ all_groups fs) (same_groups_refl (groups_in [] f)) s)
        (same_groups_middle (groups_in [] f) ks (all_groups fs)))

one_left : (n : ℕ) → n ≤ 1 → (n ≡ 0 → ⊥) → n ≡ 1
one_left n h f = omega arith

pub with_group_groups : (ks : List ℕ) (fs : List Family) → joins ks fs ≡ true → SameGroups (all_groups (with_group ks fs)) (ks ∷ all_groups fs)
with_group_groups ks fs j =
    cond_case (λ (gs : List Family). SameGroups (all_groups gs) (ks ∷ all_groups fs)) (eqb (touched ks fs) 0) _ _ (λ z. own) joined
  where
    own : SameGroups (all_groups (fs ++ ((new_group ks ∷ []) ∷ []))) (ks ∷ all_groups fs)
    own =
        rw (layout_append fs ((new_group ks ∷ []) ∷ []))
        (same_groups_trans (all_groups fs ++ (ks ∷ [])) (ks ∷ (all_groups fs ++ [])) (ks ∷ all_groups fs)
        (same_groups_middle (all_groups fs) ks [])
        (subst (λ (l : List (List ℕ)). SameGroups (ks ∷ l) (ks ∷ all_groups fs)) (sym (append-nil (all_groups fs))) (same_groups_refl (ks ∷ all_groups fs))))

    joined : eqb (touched ks fs) 0 ≡ false → SameGroups (all_groups (families_with ks fs)) (ks ∷ all_groups fs)
    joined z =
        let n : touched ks fs ≤ 1 = leb-true (touched ks fs) 1 (and_left (leb (touched ks fs) 1) (chained ks fs) j) in
        families_with_has ks fs (one_left (touched ks fs) n (λ e. true≢false (sym (eq-eqb (touched ks fs) 0 e) ∙ z))) (and_right (leb (touched ks fs) 1) (chained ks fs) j)
