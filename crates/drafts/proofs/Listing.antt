-- The list of a layout's groups says which groups there are, and nothing else. Assumes nothing.
use mathlib.Core.Path.{◌≡◌, refl, ap, ap₂, sym, ◌∙◌, subst}
use mathlib.Core.Logic.{⊎_elim}
use mathlib.Core.Bool.{Bool, true, false, cond, not, ◌&&◌, ◌||◌, true≢false, false≢true}
use mathlib.Core.List.{List, [], ◌∷◌, ◌++◌, map, flatten, append_assoc, append-nil, Memᴰ}
use Prim.Native.Nat.{ℕ, zero, suc, ◌+◌, ◌*◌, ◌≤◌, ◌<◌}
use native.Mathlib.Omega.{arith}
use native.Mathlib.Nat.{zero-add}
use borrow.Author.Tests.{eqb-true, eq-eqb, ne_eqb, leb-true, le-leb, lt-ltb}
use lib.Dec.{eqb, leb, ltb}
use lib.ListN.{length, length-append, length-map}
use Rattle.model.specs.Numbers.{MAX_KINDS, MAX_GROUP_ARITY}
use Rattle.model.specs.Lists.{one, count_of}
use Rattle.model.specs.Model.{Family, mem, all_of, within, meets, same_set, head_kind, kinds_of, groups_of}
use Rattle.model.specs.Listed.{rising_from, rising_kinds, starts_at, starting_at, ordered_from, ordered, listed}
use Rattle.model.specs.Forms.{groups_in, all_groups, has_group, SameGroups, each_of}
use Rattle.model.specs.Sound.{In, Distinct, layout_kinds, Rising, BuildableFamily, BuildableFamilies, Buildable}
use Rattle.model.proofs.BoolLaws.{by-eq, by_lt, bool_cases, not_true, and_left, and_right, and_false_of, or_cases, both_true, same_truth}
use Rattle.model.proofs.ListLaws.{self_count, as_long, map_append}
use Rattle.model.proofs.KindLists.{in_count, out_count, count_in, all_true, all_in, same_to, same_from, in_left, in_right, in_cases, not_in_parts, in_one, head_in, distinct_left, distinct_right, distinct_apart, within_in}
use Rattle.drafts.specs.Drafted.{Small}
use Rattle.drafts.proofs.Sets.{OfSets, same_of, same_set_refl, within_of, meets_at, meets_of, meets_same, has_append, has_here, has_there, has_first, has_left, has_right, has_cases, has_split, has_same, each_has, has_each, each_same, Among, same_groups_refl, same_groups_cons, family_count, family_within, layout_append, layout_within, flat_layout}
use Rattle.drafts.proofs.Keyed.{Inside, Once, Rises, once_length, rises_join, rises_once, rises_equal}

-- ---- the kinds of a list, rising

module _ (ks : List ℕ) where
  before_none : (n k j : ℕ) → j < k → count_of eqb j (rising_from ks n k) ≡ 0
  before_none zero k j h = refl
  before_none (suc n) k j h =
      let r = before_none n (suc k) j (omega arith) in
      bool_cases (mem k ks) (λ t. rw t (omega (arith, r, ap one (ne_eqb j k (λ e. absurd (omega arith)))))) (λ t. rw t r)

  from_count : (n k j : ℕ) → k ≤ j → j < k + n → count_of eqb j (rising_from ks n k) ≡ one (mem j ks)
  from_count zero k j l h = absurd (omega arith)
  from_count (suc n) k j l h =
      by-eq j k
      (λ e. rw e (bool_cases (mem k ks) (λ t. rw t (omega (arith, before_none n (suc k) k (omega arith), self_count k))) (λ t. rw t (before_none n (suc k) k (omega arith)))))
      (λ ne.
      let r = from_count n (suc k) j (omega arith) (omega arith) in
      bool_cases (mem k ks) (λ t. rw t (omega (arith, r, ap one (ne_eqb j k ne)))) (λ t. rw t r))

  from_only : (n k j : ℕ) → In (rising_from ks n k) j → In ks j
  from_only zero k j i = absurd (false≢true i)
  from_only (suc n) k j i =
      bool_cases (mem k ks)
      (λ t. or_cases (eqb j k) (mem j (rising_from ks n (suc k))) (rw t at i) (λ u. rw (eqb-true j k u) t) (from_only n (suc k) j))
      (λ t. from_only n (suc k) j (rw t at i))

  pub rising_count : (j : ℕ) → j < MAX_KINDS → count_of eqb j (rising_kinds ks) ≡ one (mem j ks)
  unfolding rising_kinds
  rising_count j h = from_count MAX_KINDS 0 j (omega arith) (omega arith)

  pub rising_only : (j : ℕ) → In (rising_kinds ks) j → In ks j
  unfolding rising_kinds
  rising_only j i = from_only MAX_KINDS 0 j i

  pub rising_has : (j : ℕ) → j < MAX_KINDS → In ks j → In (rising_kinds ks) j
  rising_has j h i = count_in (rising_kinds ks) j (omega (arith, rising_count j h, ap one i))

  pub rising_mem : (j : ℕ) → j < MAX_KINDS → mem j (rising_kinds ks) ≡ mem j ks
  rising_mem j h = same_truth (mem j (rising_kinds ks)) (mem j ks) (rising_only j) (rising_has j h)

from_same : (ks js : List ℕ) → ((j : ℕ) → j < MAX_KINDS → mem j ks ≡ mem j js) → (n k : ℕ) → k + n ≤ MAX_KINDS → rising_from ks n k ≡ rising_from js n k
from_same ks js h zero k l = refl
from_same ks js h (suc n) k l = ap₂ (λ (b : Bool) (r : List ℕ). cond b (k ∷ r) r) (h k (omega arith)) (from_same ks js h n (suc k) (omega arith))

-- it is of the kinds that there are, whatever their order
pub rising_equal : (ks js : List ℕ) → ((j : ℕ) → j < MAX_KINDS → mem j ks ≡ mem j js) → rising_kinds ks ≡ rising_kinds js
unfolding rising_kinds
rising_equal ks js h = from_same ks js h MAX_KINDS 0 (omega arith)

pub rising_same : (ks js : List ℕ) → same_set ks js ≡ true → rising_kinds ks ≡ rising_kinds js
rising_same ks js s = rising_equal ks js (λ j h. same_truth (mem j ks) (mem j js) (same_to ks js s j) (same_from ks js s j))

pub rising_twice : (ks : List ℕ) → rising_kinds (rising_kinds ks) ≡ rising_kinds ks
rising_twice ks = rising_equal (rising_kinds ks) ks (rising_mem ks)

pub rising_set : (ks : List ℕ) → Small ks → same_set (rising_kinds ks) ks ≡ true
rising_set ks b = same_of (rising_kinds ks) ks (rising_only ks) (λ k i. rising_has ks k (b k i) i)

pub rising_length : (ks : List ℕ) → Distinct ks → Small ks → length (rising_kinds ks) ≡ length ks
rising_length ks d b =
    as_long (rising_kinds ks) ks
    (λ j. bool_cases (mem j ks)
    (λ t. omega (arith, rising_count ks j (b j t), ap one t, d j, in_count ks j t))
    (λ t. out_count (rising_kinds ks) j (not_true (mem j (rising_kinds ks)) (λ u. true≢false (sym (rising_only ks j u) ∙ t))) ∙ sym (out_count ks j t)))

-- ---- groups in a list

has_in : (g : List ℕ) (l : List (List ℕ)) → Memᴰ g l → has_group g l ≡ true
has_in g [] m = absurd (mathlib.Core.List.Memᴰ.not-nil m)
has_in g (h ∷ l) m =
    ⊎_elim (λ e. has_here g h l (subst (λ (x : List ℕ). same_set g x ≡ true) e (same_set_refl g))) (λ i. has_there g h l (has_in g l i))
    (mathlib.Core.List.Memᴰ.cases_cons m)

in_has : (g : List ℕ) (l : List (List ℕ)) → has_group g l ≡ true → (h : List ℕ) × Memᴰ h l × (same_set g h ≡ true)
in_has g [] t = absurd (false≢true t)
in_has g (h ∷ l) t =
    has_cases g h l t
    (λ u. (h, mathlib.Core.List.Memᴰ.head refl, u))
    (λ u. let r = in_has g l u in (r.0, mathlib.Core.List.Memᴰ.tail r.1, r.2))

-- ---- a family's smallest kind

-- s is the smallest of ks
record Smallest (s : ℕ) (ks : List ℕ) : Type 0 where
  pub is_in : In ks s
  pub least : (k : ℕ) → In ks k → s ≤ k

smallest : (ks : List ℕ) → 1 ≤ length ks → (s : ℕ) × Smallest s ks
smallest [] h = absurd (omega arith)
smallest (k ∷ []) h = (k, record { is_in = rw (eq-eqb k k refl); least = λ j i. omega (arith, in_one j k i) })
smallest (k ∷ j ∷ l) h =
    let r = smallest (j ∷ l) (omega arith) in
    by_lt r.0 k
    (λ lt. (r.0, record { is_in = in_right (k ∷ []) (j ∷ l) r.0 r.1.is_in; least = λ i m. in_cases (k ∷ []) (j ∷ l) i m (λ t. omega (arith, in_one i k t)) (r.1.least i) }))
    (λ le. (k, record { is_in = rw (eq-eqb k k refl); least = λ i m. in_cases (k ∷ []) (j ∷ l) i m (λ t. omega (arith, in_one i k t)) (λ t. omega (arith, r.1.least i t)) }))

family_smallest : (f : Family) → BuildableFamily f → (s : ℕ) × Smallest s (kinds_of f)
family_smallest [] b = absurd b
family_smallest (r ∷ rs) b = smallest (kinds_of (r ∷ rs)) (omega (arith, length-append r.new_kinds (kinds_of rs), b.0))

starts_at_law : (k : ℕ) (f : Family) → starts_at k f ≡ true → Smallest k (kinds_of f)
starts_at_law k f t =
    record {
      is_in = and_left (mem k (kinds_of f)) (all_of (leb k) (kinds_of f)) t;
      least = λ j i. leb-true k j (all_in (leb k) (kinds_of f) (and_right (mem k (kinds_of f)) (all_of (leb k) (kinds_of f)) t) j i);
    }

at_starts : (k : ℕ) (f : Family) → Smallest k (kinds_of f) → starts_at k f ≡ true
at_starts k f s = rw (s.is_in, all_true (leb k) (kinds_of f) (λ j i. le-leb k j (s.least j i)))

starts_one : (k s : ℕ) (f : Family) → Smallest s (kinds_of f) → (k ≡ s → ⊥) → starts_at k f ≡ false
starts_one k s f m ne =
    not_true (starts_at k f) (λ t. let n = starts_at_law k f t in ne (omega (arith, m.least k n.is_in, n.least s m.is_in)))

-- ---- the families in their order are the families, each once

module _ (w : Family → ℕ) where
  -- what families weigh together
  abbrev weigh : List Family → ℕ
  weigh [] = 0
  weigh (f ∷ fs) = w f + weigh fs

  weigh_append : (fs gs : List Family) → weigh (fs ++ gs) ≡ weigh fs + weigh gs
  weigh_append [] gs = omega arith
  weigh_append (f ∷ fs) gs = omega (arith, weigh_append fs gs)

  starting_more : (f : Family) (fs : List Family) (k : ℕ) → weigh (starting_at k (f ∷ fs)) ≡ weigh (starting_at k (f ∷ [])) + weigh (starting_at k fs)
  starting_more f fs k = bool_cases (starts_at k f) (λ t. rw t (omega arith)) (λ t. rw t (omega arith))

  ordered_more : (f : Family) (fs : List Family) (n k : ℕ) → weigh (ordered_from (f ∷ fs) n k) ≡ weigh (ordered_from (f ∷ []) n k) + weigh (ordered_from fs n k)
  ordered_more f fs zero k = omega arith
  ordered_more f fs (suc n) k =
      omega (
        arith,
        starting_more f fs k,
        ordered_more f fs n (suc k),
        weigh_append (starting_at k (f ∷ fs)) (ordered_from (f ∷ fs) n (suc k)),
        weigh_append (starting_at k (f ∷ [])) (ordered_from (f ∷ []) n (suc k)),
        weigh_append (starting_at k fs) (ordered_from fs n (suc k)),
      )

  ordered_none : (n k : ℕ) → weigh (ordered_from [] n k) ≡ 0
  ordered_none zero k = refl
  ordered_none (suc n) k = ordered_none n (suc k)

  ordered_past : (f : Family) (s : ℕ) → Smallest s (kinds_of f) → (n k : ℕ) → s < k → weigh (ordered_from (f ∷ []) n k) ≡ 0
  ordered_past f s m zero k h = refl
  ordered_past f s m (suc n) k h = rw (starts_one k s f m (λ e. absurd (omega arith))) (ordered_past f s m n (suc k) (omega arith))

  ordered_one : (f : Family) (s : ℕ) → Smallest s (kinds_of f) → (n k : ℕ) → k ≤ s → s < k + n → weigh (ordered_from (f ∷ []) n k) ≡ w f
  ordered_one f s m zero k l h = absurd (omega arith)
  ordered_one f s m (suc n) k l h =
      by-eq k s
      (λ e. rw (ap (λ (j : ℕ). starts_at j f) e ∙ at_starts s f m) (omega (arith, ordered_past f s m n (suc k) (omega arith))))
      (λ ne. rw (starts_one k s f m ne) (ordered_one f s m n (suc k) (omega arith) (omega arith)))

  weigh_ordered : (n : ℕ) (fs : List Family) → BuildableFamilies fs → ((k : ℕ) → In (layout_kinds fs) k → k < n) → weigh (ordered_from fs n 0) ≡ weigh fs
  weigh_ordered n [] b s = ordered_none n 0
  weigh_ordered n (f ∷ fs) b s =
      let m = family_smallest f b.0 in
      let here : weigh (ordered_from (f ∷ []) n 0) ≡ w f = ordered_one f m.0 m.1 n 0 (omega arith) (omega (arith, s m.0 (in_left (kinds_of f) (layout_kinds fs) m.0 m.1.is_in))) in
      let rest : weigh (ordered_from fs n 0) ≡ weigh fs = weigh_ordered n fs b.1 (λ k i. s k (in_right (kinds_of f) (layout_kinds fs) k i)) in
      omega (arith, ordered_more f fs n 0)

-- ---- the list has the groups of the layout, and no other

listed_weighs : (g : List ℕ) (fs : List Family) → has_group g (map rising_kinds (all_groups fs)) ≡ ltb 0 (weigh (λ f. one (has_group g (map rising_kinds (groups_in [] f)))) fs)
listed_weighs g [] = refl
listed_weighs g (f ∷ fs) =
    ap (has_group g) (map_append rising_kinds (groups_in [] f) (all_groups fs))
    ∙ has_append g (map rising_kinds (groups_in [] f)) (map rising_kinds (all_groups fs))
    ∙ go (has_group g (map rising_kinds (groups_in [] f))) (listed_weighs g fs)
  where
    W : ℕ
    W = weigh (λ f. one (has_group g (map rising_kinds (groups_in [] f)))) fs

    go : (b : Bool) → has_group g (map rising_kinds (all_groups fs)) ≡ ltb 0 W → (b || has_group g (map rising_kinds (all_groups fs))) ≡ ltb 0 (one b + W)
    go true r = sym (lt-ltb 0 (1 + W) (omega arith))
    go false r = r ∙ ap (ltb 0) (sym (zero-add W))

rising_groups : (gs : List (List ℕ)) → Small (flatten gs) → SameGroups (map rising_kinds gs) gs
unfolding flatten
rising_groups [] s = same_groups_refl []
rising_groups (g ∷ gs) s =
    same_groups_cons (rising_kinds g) g (map rising_kinds gs) gs (rising_set g (λ k i. s k (in_left g (flatten gs) k i))) (rising_groups gs (λ k i. s k (in_right g (flatten gs) k i)))

groups_length : (fs : List Family) → length (all_groups fs) ≡ weigh length fs
groups_length [] = refl
groups_length (f ∷ fs) = length-append (groups_in [] f) (all_groups fs) ∙ ap₂ (λ (a b : ℕ). a + b) (family_count [] f) (groups_length fs)

groups_weigh : (fs : List Family) → groups_of fs ≡ weigh length fs
groups_weigh [] = refl
groups_weigh (f ∷ fs) = ap (λ (n : ℕ). length f + n) (groups_weigh fs)

-- of drafts and layouts that commands can build
module _ (kinds : List ℕ) (small : Small kinds) (fs : List Family) (b : Buildable kinds fs) where
  small_layout : Small (layout_kinds fs)
  small_layout k i = small k (b.known k i)

  pub listed_groups : SameGroups (listed fs) (all_groups fs)
  unfolding listed ordered
  listed_groups g =
      listed_weighs g (ordered_from fs MAX_KINDS 0)
      ∙ ap (ltb 0) (weigh_ordered (λ f. one (has_group g (map rising_kinds (groups_in [] f)))) MAX_KINDS fs b.families small_layout)
      ∙ sym (listed_weighs g fs)
      ∙ rising_groups (all_groups fs) (λ k i. small_layout k (flat_layout fs k i)) g

  pub listed_length : length (listed fs) ≡ groups_of fs
  unfolding listed ordered
  listed_length =
      length-map (all_groups (ordered_from fs MAX_KINDS 0)) rising_kinds
      ∙ groups_length (ordered_from fs MAX_KINDS 0)
      ∙ weigh_ordered length MAX_KINDS fs b.families small_layout
      ∙ sym (groups_weigh fs)

-- ---- a group's key: by its family's smallest kind, then by its size. A group's family is the groups that share a kind with one another, so that the key is of
-- the set of groups

-- more than a group has kinds
abbrev KEY_STEP : ℕ
KEY_STEP = suc MAX_GROUP_ARITY

-- no group of the list that shares a kind with x has k
abbrev far : List (List ℕ) → List ℕ → ℕ → Bool
far gs x k = each_of (λ g. not (meets x g && mem k g)) gs

-- the first of the n kinds from k on that does not pass
unfoldable first_not : (ℕ → Bool) → ℕ → ℕ → ℕ
first_not p zero k = k
first_not p (suc n) k = let r = first_not p n (suc k) in cond (p k) r k

unfoldable group_key : List (List ℕ) → List ℕ → ℕ
group_key gs x = KEY_STEP * first_not (far gs x) MAX_KINDS 0 + length x

first_at_law : (p : ℕ → Bool) (s : ℕ) → p s ≡ false → ((j : ℕ) → p j ≡ false → s ≤ j) → (n k : ℕ) → k ≤ s → s < k + n → first_not p n k ≡ s
unfolding first_not
first_at_law p s z least zero k l h = absurd (omega arith)
first_at_law p s z least (suc n) k l h =
    bool_cases (p k)
    (λ t. rw t (by-eq k s (λ e. absurd (true≢false (sym t ∙ ap p e ∙ z))) (λ ne. first_at_law p s z least n (suc k) (omega arith) (omega arith))))
    (λ t. rw t (omega (arith, least k t)))

far_sets : (x : List ℕ) (k : ℕ) → OfSets (λ g. not (meets x g && mem k g))
far_sets x k g h s t =
    ap (λ (b : Bool). not b) (sym (ap₂ (λ (a b : Bool). a && b) (meets_same x x g h (same_set_refl x) s) (same_truth (mem k g) (mem k h) (same_to g h s k) (same_from g h s k)))) ∙ t

key_same : (gs hs : List (List ℕ)) → SameGroups gs hs → group_key gs ≡ group_key hs
unfolding group_key
key_same gs hs s = λ i x. KEY_STEP * first_not (λ k. each_same (λ g. not (meets x g && mem k g)) (far_sets x k) gs hs s i) MAX_KINDS 0 + length x

-- ---- the family of a group

kinds_in_law : (fs : List Family) (f : Family) → Memᴰ f fs → (k : ℕ) → In (kinds_of f) k → In (layout_kinds fs) k
kinds_in_law [] f m k i = absurd (mathlib.Core.List.Memᴰ.not-nil m)
kinds_in_law (g ∷ fs) f m k i =
    ⊎_elim
    (λ e. in_left (kinds_of g) (layout_kinds fs) k (subst (λ (h : Family). In (kinds_of h) k) e i))
    (λ n. in_right (kinds_of g) (layout_kinds fs) k (kinds_in_law fs f n k i))
    (mathlib.Core.List.Memᴰ.cases_cons m)

-- all a family's kinds are its largest group
family_all : (acc : List ℕ) (f : Family) → 1 ≤ length f → has_group (acc ++ kinds_of f) (groups_in acc f) ≡ true
family_all acc [] h = absurd (omega arith)
family_all acc (r ∷ []) h = rw (append-nil r.new_kinds) (has_first (acc ++ r.new_kinds) [])
family_all acc (r ∷ q ∷ rs) h =
    subst (λ (ks : List ℕ). has_group ks (groups_in acc (r ∷ q ∷ rs)) ≡ true) (append_assoc acc r.new_kinds (kinds_of (q ∷ rs)))
    (has_there ((acc ++ r.new_kinds) ++ kinds_of (q ∷ rs)) (acc ++ r.new_kinds) (groups_in (acc ++ r.new_kinds) (q ∷ rs)) (family_all (acc ++ r.new_kinds) (q ∷ rs) (omega arith)))

layout_all : (fs : List Family) → BuildableFamilies fs → (f : Family) → Memᴰ f fs → has_group (kinds_of f) (all_groups fs) ≡ true
layout_all [] b f m = absurd (mathlib.Core.List.Memᴰ.not-nil m)
layout_all (g ∷ fs) b f m =
    ⊎_elim
    (λ e. subst (λ (h : Family). has_group (kinds_of h) (all_groups (g ∷ fs)) ≡ true) (sym e) (has_left (kinds_of g) (groups_in [] g) (all_groups fs) (family_all [] g (not_empty g b.0))))
    (λ n. has_right (kinds_of f) (groups_in [] g) (all_groups fs) (layout_all fs b.1 f n))
    (mathlib.Core.List.Memᴰ.cases_cons m)
  where
    not_empty : (f : Family) → BuildableFamily f → 1 ≤ length f
    not_empty [] h = absurd h
    not_empty (r ∷ rs) h = omega arith

-- a group that has a kind of a family has no other kinds
one_family : (fs : List Family) → Distinct (layout_kinds fs) → (f : Family) → Memᴰ f fs → (g : List ℕ) → has_group g (all_groups fs) ≡ true → (j : ℕ) → In g j → In (kinds_of f) j → within g (kinds_of f) ≡ true
one_family [] d f m g i j u v = absurd (mathlib.Core.List.Memᴰ.not-nil m)
one_family (h ∷ fs) d f m g i j u v =
    has_split g (groups_in [] h) (all_groups fs) i
    (λ t. ⊎_elim
    (λ e. subst (λ (l : Family). within g (kinds_of l) ≡ true) (sym e) (family_within [] h g t))
    (λ n. absurd (true≢false (sym (kinds_in_law fs f n j v) ∙ distinct_apart (kinds_of h) (layout_kinds fs) d j (within_in g (kinds_of h) (family_within [] h g t) j u))))
    (mathlib.Core.List.Memᴰ.cases_cons m))
    (λ t. ⊎_elim
    (λ e. absurd (true≢false (sym (within_in g (layout_kinds fs) (layout_within fs g t) j u) ∙ distinct_apart (kinds_of h) (layout_kinds fs) d j (subst (λ (l : Family). In (kinds_of l) j) e v))))
    (λ n. one_family fs (distinct_right (kinds_of h) (layout_kinds fs) d) f n g t j u v)
    (mathlib.Core.List.Memᴰ.cases_cons m))

module _ (fs : List Family) (b : BuildableFamilies fs) (d : Distinct (layout_kinds fs)) (f : Family) (m : Memᴰ f fs) (x : List ℕ) (w : within x (kinds_of f) ≡ true) (some : 1 ≤ length x) where
  far_not : (k : ℕ) → In (kinds_of f) k → far (all_groups fs) x k ≡ false
  far_not k i =
      not_true (far (all_groups fs) x k) (λ t.
      let p = each_has (λ g. not (meets x g && mem k g)) (far_sets x k) (all_groups fs) t (kinds_of f) (layout_all fs b f m) in
      let q : (meets x (kinds_of f) && mem k (kinds_of f)) ≡ true = both_true (meets x (kinds_of f)) (mem k (kinds_of f)) (meets_of x (kinds_of f) (head_kind x) (head_in x some) (within_in x (kinds_of f) w (head_kind x) (head_in x some))) i in
      true≢false (sym p ∙ ap (λ (c : Bool). not c) q))

  not_far : (k : ℕ) → far (all_groups fs) x k ≡ false → In (kinds_of f) k
  not_far k z =
      bool_cases (mem k (kinds_of f)) (λ t. t) (λ n. absurd (true≢false (sym (has_each (λ g. not (meets x g && mem k g)) (all_groups fs) (none n)) ∙ z)))
    where
      none : mem k (kinds_of f) ≡ false → (g : List ℕ) → has_group g (all_groups fs) ≡ true → not (meets x g && mem k g) ≡ true
      none n g i =
          bool_cases (meets x g && mem k g)
          (λ t.
          let a = meets_at x g (and_left (meets x g) (mem k g) t) in
          let v = one_family fs d f m g i a.0 a.2 (within_in x (kinds_of f) w a.0 a.1) in
          absurd (true≢false (sym (within_in g (kinds_of f) v k (and_right (meets x g) (mem k g) t)) ∙ n)))
          (λ t. ap (λ (c : Bool). not c) t)

  key_of : (s : ℕ) → Smallest s (kinds_of f) → s < MAX_KINDS → group_key (all_groups fs) x ≡ KEY_STEP * s + length x
  unfolding group_key
  key_of s l h = ap (λ (n : ℕ). KEY_STEP * n + length x) (first_at_law (far (all_groups fs) x) s (far_not s l.is_in) (λ j z. l.least j (not_far j z)) MAX_KINDS 0 (omega arith) (omega arith))

-- ---- the list rises by the key

map_groups : (fs gs : List Family) → map rising_kinds (all_groups (fs ++ gs)) ≡ map rising_kinds (all_groups fs) ++ map rising_kinds (all_groups gs)
map_groups fs gs = ap (map rising_kinds) (layout_append fs gs) ∙ map_append rising_kinds (all_groups fs) (all_groups gs)

starting_none : (k : ℕ) (fs : List Family) → mem k (layout_kinds fs) ≡ false → starting_at k fs ≡ []
starting_none k [] n = refl
starting_none k (f ∷ fs) n =
    let p = not_in_parts k (kinds_of f) (layout_kinds fs) n in
    rw (and_false_of (mem k (kinds_of f)) (all_of (leb k) (kinds_of f)) p.0) (starting_none k fs p.1)

module _ (key : List ℕ → ℕ) where
  -- the key of the groups of a family with the kinds ks, whose smallest is s
  abbrev KeyIn : ℕ → List ℕ → Type 0
  KeyIn s ks = (x : List ℕ) → within x ks ≡ true → 1 ≤ length x → key x ≡ KEY_STEP * s + length x

  family_rises : (s lo : ℕ) (acc : List ℕ) (f : Family) → lo ≤ suc (KEY_STEP * s + length acc) → Rising f → Distinct (acc ++ kinds_of f) → Small (acc ++ kinds_of f) → length (acc ++ kinds_of f) ≤ MAX_GROUP_ARITY → KeyIn s (acc ++ kinds_of f)
      → Rises key lo (KEY_STEP * suc s) (map rising_kinds (groups_in acc f))
  family_rises s lo acc [] l r d sm n h = omega (arith, length-append acc [])
  family_rises s lo acc (r ∷ rs) l u d sm n h =
      let g : List ℕ = acc ++ r.new_kinds in
      let e : g ++ kinds_of rs ≡ acc ++ (r.new_kinds ++ kinds_of rs) = append_assoc acc r.new_kinds (kinds_of rs) in
      let d' : Distinct (g ++ kinds_of rs) = rw e d in
      let sm' : Small (g ++ kinds_of rs) = rw e sm in
      let h' : KeyIn s (g ++ kinds_of rs) = rw e h in
      let size : length (rising_kinds g) ≡ length g = rising_length g (distinct_left g (kinds_of rs) d') (λ k i. sm' k (in_left g (kinds_of rs) k i)) in
      let k : key (rising_kinds g) ≡ KEY_STEP * s + length (rising_kinds g) = h' (rising_kinds g) (within_of (rising_kinds g) (g ++ kinds_of rs) (λ j i. in_left g (kinds_of rs) j (rising_only g j i))) (omega (arith, length-append acc r.new_kinds, u.0)) in
      (omega (arith, length-append acc r.new_kinds, u.0), family_rises s (suc (key (rising_kinds g))) g rs (omega arith) u.1 d' sm' (rw e n) h')

  own_rises : (s : ℕ) (f : Family) → BuildableFamily f → Distinct (kinds_of f) → Small (kinds_of f) → KeyIn s (kinds_of f) → Rises key (KEY_STEP * s) (KEY_STEP * suc s) (map rising_kinds (groups_in [] f))
  own_rises s [] b d sm h = absurd b
  own_rises s (r ∷ rs) b d sm h = family_rises s (KEY_STEP * s) [] (r ∷ rs) (omega arith) (omega (arith, b.0), b.1) d sm b.2 h

  starting_rises : (k : ℕ) (fs : List Family) → BuildableFamilies fs → Distinct (layout_kinds fs) → Small (layout_kinds fs) → ((f : Family) → Memᴰ f fs → Smallest k (kinds_of f) → KeyIn k (kinds_of f))
      → Rises key (KEY_STEP * k) (KEY_STEP * suc k) (map rising_kinds (all_groups (starting_at k fs)))
  starting_rises k [] b d sm h = omega arith
  starting_rises k (f ∷ fs) b d sm h =
      bool_cases (starts_at k f)
      (λ t.
      let s = starts_at_law k f t in
      rw (t, starting_none k fs (distinct_apart (kinds_of f) (layout_kinds fs) d k s.is_in), append-nil (groups_in [] f))
      (own_rises k f b.0 (distinct_left (kinds_of f) (layout_kinds fs) d) (λ j i. sm j (in_left (kinds_of f) (layout_kinds fs) j i)) (h f (mathlib.Core.List.Memᴰ.head refl) s)))
      (λ t. rw t (starting_rises k fs b.1 (distinct_right (kinds_of f) (layout_kinds fs) d) (λ j i. sm j (in_right (kinds_of f) (layout_kinds fs) j i)) (λ g m. h g (mathlib.Core.List.Memᴰ.tail m))))

  ordered_rises : (fs : List Family) (hi : ℕ) → ((k : ℕ) → Rises key (KEY_STEP * k) (KEY_STEP * suc k) (map rising_kinds (all_groups (starting_at k fs)))) → (n k : ℕ) → KEY_STEP * (k + n) ≤ hi → Rises key (KEY_STEP * k) hi (map rising_kinds (all_groups (ordered_from fs n k)))
  ordered_rises fs hi h zero k l = omega arith
  ordered_rises fs hi h (suc n) k l =
      rw (map_groups (starting_at k fs) (ordered_from fs n (suc k)))
      (rises_join key (KEY_STEP * k) (KEY_STEP * suc k) hi (map rising_kinds (all_groups (starting_at k fs))) (map rising_kinds (all_groups (ordered_from fs n (suc k)))) (h k) (ordered_rises fs hi h n (suc k) (omega arith)))

module _ (kinds : List ℕ) (small : Small kinds) (fs : List Family) (b : Buildable kinds fs) where
  listed_rises : Rises (group_key (all_groups fs)) (KEY_STEP * 0) (KEY_STEP * MAX_KINDS) (listed fs)
  unfolding listed ordered
  listed_rises =
      ordered_rises (group_key (all_groups fs)) fs (KEY_STEP * MAX_KINDS)
      (λ k. starting_rises (group_key (all_groups fs)) k fs b.families b.once s (λ f m l x w n. key_of fs b.families b.once f m x w n k l (s k (kinds_in_law fs f m k l.is_in))))
      MAX_KINDS 0 (omega arith)
    where
      s : Small (layout_kinds fs)
      s = small_layout kinds small fs b

  -- each group once
  pub listed_once : Once (listed fs)
  listed_once = rises_once (group_key (all_groups fs)) (KEY_STEP * 0) (KEY_STEP * MAX_KINDS) (listed fs) listed_rises

-- ---- the list is of the set of groups

rising_mapped : (gs : List (List ℕ)) (x : List ℕ) → Memᴰ x (map rising_kinds gs) → rising_kinds x ≡ x
rising_mapped [] x m = absurd (mathlib.Core.List.Memᴰ.not-nil m)
rising_mapped (g ∷ gs) x m = ⊎_elim (λ e. ap rising_kinds e ∙ rising_twice g ∙ sym e) (rising_mapped gs x) (mathlib.Core.List.Memᴰ.cases_cons m)

-- each group stands in it by its kinds, rising
pub listed_rising : (fs : List Family) (x : List ℕ) → Memᴰ x (listed fs) → rising_kinds x ≡ x
unfolding listed
listed_rising fs x m = rising_mapped (all_groups (ordered fs)) x m

pub listed_has : (fs : List Family) (g : List ℕ) → has_group g (listed fs) ≡ true → Memᴰ (rising_kinds g) (listed fs)
listed_has fs g t =
    let r = in_has g (listed fs) t in
    mathlib.Core.List.Memᴰ.cast (rising_same g r.0 r.2 ∙ listed_rising fs r.0 r.1) r.1

-- ---- of two drafts or layouts that commands can build

module _ (kinds kinds' : List ℕ) (small : Small kinds) (small' : Small kinds') (fs gs : List Family) (b : Buildable kinds fs) (c : Buildable kinds' gs) where
  -- groups that another layout has too
  pub listed_inside : Among (all_groups fs) (all_groups gs) → Inside (listed fs) (listed gs)
  listed_inside h x m =
      let i = h x (sym (listed_groups kinds small fs b x) ∙ has_in x (listed fs) m) in
      mathlib.Core.List.Memᴰ.cast (sym (listed_rising fs x m)) (listed_has gs x (listed_groups kinds' small' gs c x ∙ i))

  -- the list says which groups there are
  pub listed_same : listed fs ≡ listed gs → SameGroups (all_groups fs) (all_groups gs)
  listed_same e g = sym (listed_groups kinds small fs b g) ∙ ap (has_group g) e ∙ listed_groups kinds' small' gs c g

  -- where one has a group more, it has more groups
  pub more_groups : Among (all_groups fs) (all_groups gs) → (h : List ℕ) → Small h → has_group h (all_groups fs) ≡ false → has_group h (all_groups gs) ≡ true → groups_of fs < groups_of gs
  more_groups sub h sm n y =
      let new : Memᴰ (rising_kinds h) (listed fs) → ⊥ = λ m. true≢false (sym (has_in (rising_kinds h) (listed fs) m) ∙ listed_groups kinds small fs b (rising_kinds h) ∙ has_same (rising_kinds h) h (all_groups fs) (rising_set h sm) ∙ n) in
      let here : Memᴰ (rising_kinds h) (listed gs) = listed_has gs h (listed_groups kinds' small' gs c h ∙ y) in
      let le = once_length (rising_kinds h ∷ listed fs) (listed gs) (new, listed_once kinds small fs b)
      (λ x m. ⊎_elim (λ e. mathlib.Core.List.Memᴰ.cast e here) (listed_inside sub x) (mathlib.Core.List.Memᴰ.cases_cons m)) in
      omega (arith, listed_length kinds small fs b, listed_length kinds' small' gs c)

-- and nothing else: layouts with the same groups have one list
pub listed_unique : (kinds kinds' : List ℕ) → Small kinds → Small kinds' → (fs gs : List Family) → Buildable kinds fs → Buildable kinds' gs → SameGroups (all_groups fs) (all_groups gs) → listed fs ≡ listed gs
listed_unique kinds kinds' small small' fs gs b c s =
    rises_equal (group_key (all_groups fs)) (KEY_STEP * 0) (KEY_STEP * MAX_KINDS) (KEY_STEP * 0) (KEY_STEP * MAX_KINDS) (listed fs) (listed gs) (listed_rises kinds small fs b)
    (subst (λ (key : List ℕ → ℕ). Rises key (KEY_STEP * 0) (KEY_STEP * MAX_KINDS) (listed gs)) (sym (key_same (all_groups fs) (all_groups gs) s)) (listed_rises kinds' small' gs c))
    (listed_inside kinds kinds' small small' fs gs b c (λ g t. sym (s g) ∙ t))
    (listed_inside kinds' kinds small' small gs fs c b (λ g t. s g ∙ t))
