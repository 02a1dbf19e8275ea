-- Adding a group keeps the draft a layout that commands can build, with all counts 0. Assumes nothing.
use mathlib.Core.Path.{◌≡◌, refl, ap, sym, ◌∙◌, subst}
use mathlib.Core.Bool.{true, false, not, ◌||◌, true≢false, false≢true}
use mathlib.Core.List.{List, [], ◌∷◌, ◌++◌, append_assoc, append-nil}
use Prim.Native.Nat.{ℕ, ◌+◌, ◌≤◌, ◌<◌}
use native.Mathlib.Omega.{arith}
use borrow.Author.Tests.{ltb-false, leb-true, leb-false, eqb-true, eqb-false, le-ltb, lt-leb}
use lib.Dec.{ltb, leb, eqb}
use lib.ListN.{length, length-append}
use Rattle.model.specs.Numbers.{MAX_GROUP_ARITY, MAX_GROUP_COUNT}
use Rattle.model.specs.Lists.{count_of}
use Rattle.model.proofs.ListLaws.{count_append, as_long}
use Rattle.model.specs.Model.{Group, Family, mem, meets, within, same_set, without, common, kinds_of, groups_of, is_group, present, touched, nested, chains, chained, new_group, family_with, families_with, adds_nothing, joins, with_group}
use Rattle.model.specs.Adding.{added, add_group}
use Rattle.model.specs.Sound.{Distinct, layout_kinds, Rising, BuildableFamily, BuildableFamilies, Uncounted, AllUncounted, In}
use Rattle.model.proofs.BoolLaws.{above, cond_case, and_left, and_right, or_cases, or_false, or_false_right, not_true, and_false_left, not_or, or_right, bool_cases}
use Rattle.model.proofs.KindLists.{Missing, all_missing, all_joined, in_left, in_cases, in_length, in_common, in_count, out_count, count_in, count_without, count_without_le, count_parted, without_all, without_length, within_in, within_left, common_length, lacks_some, distinct_left, distinct_right, unmet_in}
use Rattle.model.specs.Theorems.{AddedSound, DraftSound}

-- ---- a family with no kind of ks

pub untouched : (ks : List ℕ) (fs : List Family) → touched ks fs ≡ 0 → (k : ℕ) → In (layout_kinds fs) k → mem k ks ≡ false
untouched ks [] z k i = absurd (false≢true i)
untouched ks (f ∷ fs) z k i =
    bool_cases (meets ks (kinds_of f))
    (λ t. absurd (omega (arith, rw t at z)))
    (λ t. in_cases (kinds_of f) (layout_kinds fs) k i (λ j. unmet_in ks (kinds_of f) t k j) (λ j. untouched ks fs (rw t at z) k j))

pub untouched_chained : (ks : List ℕ) (fs : List Family) → touched ks fs ≡ 0 → chained ks fs ≡ true
untouched_chained ks [] z = refl
untouched_chained ks (f ∷ fs) z =
    bool_cases (meets ks (kinds_of f))
    (λ t. absurd (omega (arith, rw t at z)))
    (λ t. rw t (untouched_chained ks fs (rw t at z)))

pub families_with_same : (ks : List ℕ) (fs : List Family) → touched ks fs ≡ 0 → families_with ks fs ≡ fs
families_with_same ks [] z = refl
families_with_same ks (f ∷ fs) z =
    bool_cases (meets ks (kinds_of f))
    (λ t. absurd (omega (arith, rw t at z)))
    (λ t. rw t (ap {B = List Family} (λ r. f ∷ r) (families_with_same ks fs (rw t at z))))

-- ---- what is added

module _ (ks : List ℕ) (fs : List Family) (lo : 2 ≤ length ks) (hi : length ks ≤ MAX_GROUP_ARITY) (absent : present ks fs ≡ false) (room : groups_of fs < MAX_GROUP_COUNT) where
  -- kinds of which no family has one are a family of their own
  pub added_fresh : touched ks fs ≡ 0 → add_group ks fs ≡ added (fs ++ ((new_group ks ∷ []) ∷ []))
  unfolding add_group
  added_fresh none = rw (le-ltb (length ks) 2 lo, le-ltb MAX_GROUP_ARITY (length ks) hi, absent, none, untouched_chained ks fs none, lt-leb MAX_GROUP_COUNT (groups_of fs) room)

  -- kinds that are a chain with the groups of the one family that they touch go to their place in it
  pub added_onto : touched ks fs ≡ 1 → chained ks fs ≡ true → add_group ks fs ≡ added (families_with ks fs)
  unfolding add_group
  added_onto alone fits = rw (le-ltb (length ks) 2 lo, le-ltb MAX_GROUP_ARITY (length ks) hi, absent, alone, fits, lt-leb MAX_GROUP_COUNT (groups_of fs) room)

-- ---- groups of one family

pub family_joined : (f g : Family) → kinds_of (f ++ g) ≡ kinds_of f ++ kinds_of g
family_joined [] g = refl
family_joined (r ∷ f) g = ap (λ (l : List ℕ). r.new_kinds ++ l) (family_joined f g) ∙ sym (append_assoc r.new_kinds (kinds_of f) (kinds_of g))

-- kinds that are a chain with all groups: with the first, with those behind it, and with the largest
pub chains_here : (ks acc : List ℕ) (r : Group) (rs : Family) → chains ks acc (r ∷ rs) ≡ true → nested (acc ++ r.new_kinds) ks ≡ true
chains_here ks acc r rs c = and_left (nested (acc ++ r.new_kinds) ks) (chains ks (acc ++ r.new_kinds) rs) c

pub chains_rest : (ks acc : List ℕ) (r : Group) (rs : Family) → chains ks acc (r ∷ rs) ≡ true → chains ks (acc ++ r.new_kinds) rs ≡ true
chains_rest ks acc r rs c = and_right (nested (acc ++ r.new_kinds) ks) (chains ks (acc ++ r.new_kinds) rs) c

pub chains_largest : (ks acc : List ℕ) (f : Family) → 1 ≤ length f → chains ks acc f ≡ true → nested (acc ++ kinds_of f) ks ≡ true
chains_largest ks acc [] n c = absurd (omega arith)
chains_largest ks acc (r ∷ []) n c = rw (append-nil r.new_kinds) (chains_here ks acc r [] c)
chains_largest ks acc (r ∷ s ∷ rs) n c =
    subst (λ (l : List ℕ). nested l ks ≡ true) (append_assoc acc r.new_kinds (kinds_of (s ∷ rs)))
    (chains_largest ks (acc ++ r.new_kinds) (s ∷ rs) (omega arith) (chains_rest ks acc r (s ∷ rs) c))

module _ (ks : List ℕ) where
  -- ---- kinds that hold all groups go above them

  -- they hold those behind the first, and the first
  rest_held : (acc : List ℕ) (r : Group) (rs : Family) → within (acc ++ kinds_of (r ∷ rs)) ks ≡ true → within ((acc ++ r.new_kinds) ++ kinds_of rs) ks ≡ true
  rest_held acc r rs w = ap (λ (l : List ℕ). within l ks) (append_assoc acc r.new_kinds (kinds_of rs)) ∙ w

  first_held : (acc : List ℕ) (r : Group) (rs : Family) → within (acc ++ kinds_of (r ∷ rs)) ks ≡ true → within (acc ++ r.new_kinds) ks ≡ true
  first_held acc r rs w = within_left (acc ++ r.new_kinds) (kinds_of rs) ks (rest_held acc r rs w)

  pub chains_above : (acc : List ℕ) (f : Family) → within (acc ++ kinds_of f) ks ≡ true → chains ks acc f ≡ true
  chains_above acc [] w = refl
  chains_above acc (r ∷ rs) w = rw (first_held acc r rs w) (chains_above (acc ++ r.new_kinds) rs (rest_held acc r rs w))

  pub family_with_above : (acc : List ℕ) (f : Family) → within (acc ++ kinds_of f) ks ≡ true → family_with ks acc f ≡ f ++ (new_group (without ks (acc ++ kinds_of f)) ∷ [])
  family_with_above acc [] w = rw (append-nil acc)
  family_with_above acc (r ∷ rs) w =
      rw (first_held acc r rs w)
      (ap {B = Family} (λ l. r ∷ l) (family_with_above (acc ++ r.new_kinds) rs (rest_held acc r rs w) ∙ ap (λ (l : List ℕ). rs ++ (new_group (without ks l) ∷ [])) (append_assoc acc r.new_kinds (kinds_of rs))))

  -- ---- the family with the group in its place

  -- a group that the hand does not hold holds the hand, since the two are a chain
  pub holds_staged : (acc : List ℕ) (r : Group) (rs : Family) → chains ks acc (r ∷ rs) ≡ true → within (acc ++ r.new_kinds) ks ≡ false → within ks (acc ++ r.new_kinds) ≡ true
  holds_staged acc r rs c n = or_right (within (acc ++ r.new_kinds) ks) (within ks (acc ++ r.new_kinds)) (chains_here ks acc r rs c) n

  -- its kinds are those of the family, and those of the hand that the family lacks
  pub family_with_count : (acc : List ℕ) (f : Family) (z : ℕ) → chains ks acc f ≡ true → count_of eqb z (kinds_of (family_with ks acc f)) ≡ count_of eqb z (kinds_of f) + count_of eqb z (without ks (acc ++ kinds_of f))
  family_with_count acc [] z c = rw (append-nil acc, append-nil (without ks acc)) (omega arith)
  family_with_count acc (r ∷ rs) z c =
      let on = family_with_count (acc ++ r.new_kinds) rs z (chains_rest ks acc r rs c) in
      cond_case (λ (h : Family). count_of eqb z (kinds_of h) ≡ count_of eqb z (r.new_kinds ++ kinds_of rs) + count_of eqb z (without ks (acc ++ (r.new_kinds ++ kinds_of rs)))) (within (acc ++ r.new_kinds) ks) _ _
      (λ t. further on)
      (λ n. here (without_all ks (acc ++ (r.new_kinds ++ kinds_of rs)) (λ k i. held k (within_in ks (acc ++ r.new_kinds) (holds_staged acc r rs c n) k i))))
    where
      held : (k : ℕ) → In (acc ++ r.new_kinds) k → In (acc ++ (r.new_kinds ++ kinds_of rs)) k
      held k i = ap (mem k) (sym (append_assoc acc r.new_kinds (kinds_of rs))) ∙ in_left (acc ++ r.new_kinds) (kinds_of rs) k i

      further : count_of eqb z (kinds_of (family_with ks (acc ++ r.new_kinds) rs)) ≡ count_of eqb z (kinds_of rs) + count_of eqb z (without ks ((acc ++ r.new_kinds) ++ kinds_of rs))
          → count_of eqb z (r.new_kinds ++ kinds_of (family_with ks (acc ++ r.new_kinds) rs)) ≡ count_of eqb z (r.new_kinds ++ kinds_of rs) + count_of eqb z (without ks (acc ++ (r.new_kinds ++ kinds_of rs)))
      further on = omega (arith, on, ap (λ (l : List ℕ). count_of eqb z (without ks l)) (append_assoc acc r.new_kinds (kinds_of rs)), count_append eqb z r.new_kinds (kinds_of (family_with ks (acc ++ r.new_kinds) rs)), count_append eqb z r.new_kinds (kinds_of rs))

      here : without ks (acc ++ (r.new_kinds ++ kinds_of rs)) ≡ []
          → count_of eqb z (common r.new_kinds ks ++ (without r.new_kinds ks ++ kinds_of rs)) ≡ count_of eqb z (r.new_kinds ++ kinds_of rs) + count_of eqb z (without ks (acc ++ (r.new_kinds ++ kinds_of rs)))
      here e = omega (arith, ap (count_of eqb z) e, count_append eqb z (common r.new_kinds ks) (without r.new_kinds ks ++ kinds_of rs), count_append eqb z (without r.new_kinds ks) (kinds_of rs), count_parted r.new_kinds ks z, count_append eqb z r.new_kinds (kinds_of rs))

  pub family_with_groups : (acc : List ℕ) (f : Family) → length (family_with ks acc f) ≡ length f + 1
  family_with_groups acc [] = refl
  family_with_groups acc (r ∷ rs) =
      cond_case (λ (h : Family). length h ≡ length (r ∷ rs) + 1) (within (acc ++ r.new_kinds) ks) _ _
      (λ t. omega (arith, family_with_groups (acc ++ r.new_kinds) rs))
      (λ t. omega arith)

  family_with_uncounted : (acc : List ℕ) (f : Family) → Uncounted f → Uncounted (family_with ks acc f)
  family_with_uncounted acc [] u = (refl, tt)
  family_with_uncounted acc (r ∷ rs) u = cond_case Uncounted (within (acc ++ r.new_kinds) ks) _ _ (λ t. (u.0, family_with_uncounted (acc ++ r.new_kinds) rs u.1)) (λ t. (refl, u))

  -- ---- no ring is empty, since the hand is no group of the family

  -- a hand that holds a group, and is not that group, has a kind more
  more_kinds : (g : List ℕ) → within g ks ≡ true → same_set ks g ≡ false → 1 ≤ length (without ks g)
  more_kinds g w n = lacks_some ks g (and_false_left (within ks g) (within g ks) n w)

  -- a hand above the kinds acc, and in the group of them and a ring, has a kind of the ring
  has_some : (acc ring : List ℕ) → within acc ks ≡ true → same_set ks acc ≡ false → within ks (acc ++ ring) ≡ true → 1 ≤ length (common ring ks)
  has_some acc ring a n w =
      let l : within ks acc ≡ false = and_false_left (within ks acc) (within acc ks) n a in
      let x : Missing (λ k. mem k acc) ks = all_missing (λ k. mem k acc) ks l in
      let i : In ring x.kind = in_cases acc ring x.kind (within_in ks (acc ++ ring) w x.kind x.is_in) (λ t. absurd (true≢false (sym t ∙ x.fails))) (λ t. t) in
      in_length (common ring ks) x.kind (in_common ring ks x.kind i x.is_in)

  -- and lacks one, where it does not hold the group
  lacks_one : (acc ring : List ℕ) → within acc ks ≡ true → within (acc ++ ring) ks ≡ false → 1 ≤ length (without ring ks)
  lacks_one acc ring a n =
      lacks_some ring ks
      (not_true (within ring ks)
      (λ u.
      let e : within (acc ++ ring) ks ≡ true = all_joined (λ k. mem k ks) acc ring ∙ rw (a, u) in
      true≢false (sym e ∙ n)))

  family_with_rising : (acc : List ℕ) (f : Family) → within acc ks ≡ true → same_set ks acc ≡ false → is_group ks acc f ≡ false → chains ks acc f ≡ true → Rising f → Rising (family_with ks acc f)
  family_with_rising acc [] a n g c h = (more_kinds acc a n, tt)
  family_with_rising acc (r ∷ rs) a n g c h =
      let on : within (acc ++ r.new_kinds) ks ≡ true → Rising (family_with ks (acc ++ r.new_kinds) rs) = λ t. family_with_rising (acc ++ r.new_kinds) rs t (or_false (same_set ks (acc ++ r.new_kinds)) (is_group ks (acc ++ r.new_kinds) rs) g) (or_false_right (same_set ks (acc ++ r.new_kinds)) (is_group ks (acc ++ r.new_kinds) rs) g) (chains_rest ks acc r rs c) h.1 in
      cond_case Rising (within (acc ++ r.new_kinds) ks) _ _
      (λ t. (h.0, on t))
      (λ t. (has_some acc r.new_kinds a n (holds_staged acc r rs c t), (lacks_one acc r.new_kinds a t, h.1)))

  -- ---- and the family is one that commands can build

  -- the first group has two kinds or more
  family_with_first : (r : Group) (rs : Family) → 2 ≤ length ks → Distinct ks → is_group ks [] (r ∷ rs) ≡ false → chains ks [] (r ∷ rs) ≡ true → 2 ≤ length r.new_kinds → Rising rs → length (kinds_of (family_with ks [] (r ∷ rs))) ≤ MAX_GROUP_ARITY → BuildableFamily (family_with ks [] (r ∷ rs))
  family_with_first r rs two d g c lo up =
      cond_case (λ (h : Family). length (kinds_of h) ≤ MAX_GROUP_ARITY → BuildableFamily h) (within r.new_kinds ks) _ _
      (λ t w. (lo, family_with_rising r.new_kinds rs t (or_false (same_set ks r.new_kinds) (is_group ks r.new_kinds rs) g) (or_false_right (same_set ks r.new_kinds) (is_group ks r.new_kinds rs) g) (chains_rest ks [] r rs c) up, w))
      (λ t w. (omega (arith, common_length r.new_kinds ks d (holds_staged [] r rs c t)), (lacks_some r.new_kinds ks t, up), w))

  -- the last has as many as the hand, or as the family's last
  family_with_width : (f : Family) → 1 ≤ length f → length ks ≤ MAX_GROUP_ARITY → Distinct ks → Distinct (kinds_of f) → chains ks [] f ≡ true → length (kinds_of f) ≤ MAX_GROUP_ARITY → length (kinds_of (family_with ks [] f)) ≤ MAX_GROUP_ARITY
  family_with_width f some narrow dk df c w =
      let e : length (kinds_of (family_with ks [] f)) ≡ length (kinds_of f ++ without ks (kinds_of f)) = as_long (kinds_of (family_with ks [] f)) (kinds_of f ++ without ks (kinds_of f)) (λ z. family_with_count [] f z c ∙ sym (count_append eqb z (kinds_of f) (without ks (kinds_of f)))) in
      or_cases (within (kinds_of f) ks) (within ks (kinds_of f)) (chains_largest ks [] f some c)
      (λ t. omega (arith, e, length-append (kinds_of f) (without ks (kinds_of f)), without_length ks (kinds_of f) dk df t))
      (λ t. omega (arith, e, length-append (kinds_of f) (without ks (kinds_of f)), ap (length {A = ℕ}) (without_all ks (kinds_of f) (within_in ks (kinds_of f) t))))

  family_with_family : (f : Family) → 2 ≤ length ks → length ks ≤ MAX_GROUP_ARITY → Distinct ks → Distinct (kinds_of f) → is_group ks [] f ≡ false → chains ks [] f ≡ true → BuildableFamily f → BuildableFamily (family_with ks [] f)
  family_with_family [] two narrow dk df g c b = absurd b
  family_with_family (r ∷ rs) two narrow dk df g c b = family_with_first r rs two dk g c b.0 b.1 (family_with_width (r ∷ rs) (omega arith) narrow dk df c b.2)

-- ---- what the kinds of the draft are then

-- the first family, where the hand meets it, and the others
pub chained_first : (ks : List ℕ) (f : Family) (fs : List Family) → chained ks (f ∷ fs) ≡ true → meets ks (kinds_of f) ≡ true → chains ks [] f ≡ true
chained_first ks f fs c m = not_or (meets ks (kinds_of f)) _ (and_left _ (chained ks fs) c) m

pub chained_rest : (ks : List ℕ) (f : Family) (fs : List Family) → chained ks (f ∷ fs) ≡ true → chained ks fs ≡ true
chained_rest ks f fs c = and_right (not (meets ks (kinds_of f)) || _) (chained ks fs) c

-- of a kind that the hand has not, as many as before
families_with_out : (ks : List ℕ) (fs : List Family) (z : ℕ) → chained ks fs ≡ true → mem z ks ≡ false → count_of eqb z (layout_kinds (families_with ks fs)) ≡ count_of eqb z (layout_kinds fs)
families_with_out ks [] z c n = refl
families_with_out ks (f ∷ fs) z c n =
    let r = families_with_out ks fs z (chained_rest ks f fs c) n in
    cond_case (λ (h : Family). count_of eqb z (kinds_of h ++ layout_kinds (families_with ks fs)) ≡ count_of eqb z (kinds_of f ++ layout_kinds fs)) (meets ks (kinds_of f)) _ _
    (λ t. omega (arith, r, none, family_with_count ks [] f z (chained_first ks f fs c t), count_append eqb z (kinds_of (family_with ks [] f)) (layout_kinds (families_with ks fs)), count_append eqb z (kinds_of f) (layout_kinds fs)))
    (λ t. omega (arith, r, count_append eqb z (kinds_of f) (layout_kinds (families_with ks fs)), count_append eqb z (kinds_of f) (layout_kinds fs)))
  where
    none : count_of eqb z (without ks (kinds_of f)) ≡ 0
    none = omega (arith, count_without_le ks (kinds_of f) z, out_count ks z n)

families_with_once : (ks : List ℕ) (fs : List Family) → touched ks fs ≡ 1 → chained ks fs ≡ true → Distinct ks → Distinct (layout_kinds fs) → Distinct (layout_kinds (families_with ks fs))
families_with_once ks [] t c d o = absurd (omega arith)
families_with_once ks (f ∷ fs) t c d o = bool_cases (meets ks (kinds_of f)) here (λ m. later m (families_with_once ks fs (rw m at t) (chained_rest ks f fs c) d (distinct_right (kinds_of f) (layout_kinds fs) o)))
  where
    here : meets ks (kinds_of f) ≡ true → Distinct (layout_kinds (families_with ks (f ∷ fs)))
    here m z =
        let t0 : touched ks fs ≡ 0 = omega (arith, rw m at t) in
        rw (m, families_with_same ks fs t0)
        (bool_cases (mem z (kinds_of f))
        (λ u. omega (arith, parts z, o z, count_append eqb z (kinds_of f) (layout_kinds fs), rw u at (count_without ks (kinds_of f) z)))
        (λ u. bool_cases (mem z ks)
        (λ v. omega (arith, parts z, rw u at (count_without ks (kinds_of f) z), d z, out_count (kinds_of f) z u, out_count (layout_kinds fs) z (not_true (mem z (layout_kinds fs)) (λ i. true≢false (sym v ∙ untouched ks fs t0 z i)))))
        (λ v. omega (arith, parts z, rw u at (count_without ks (kinds_of f) z), out_count ks z v, o z, count_append eqb z (kinds_of f) (layout_kinds fs)))))
      where
        parts : (z : ℕ) → count_of eqb z (kinds_of (family_with ks [] f) ++ layout_kinds fs) ≡ count_of eqb z (kinds_of f) + count_of eqb z (without ks (kinds_of f)) + count_of eqb z (layout_kinds fs)
        parts z = omega (arith, count_append eqb z (kinds_of (family_with ks [] f)) (layout_kinds fs), family_with_count ks [] f z (chained_first ks f fs c m))

    later : meets ks (kinds_of f) ≡ false → Distinct (layout_kinds (families_with ks fs)) → Distinct (layout_kinds (families_with ks (f ∷ fs)))
    later m r z =
        rw m
        (bool_cases (mem z ks)
        (λ v. omega (arith, count_append eqb z (kinds_of f) (layout_kinds (families_with ks fs)), r z, out_count (kinds_of f) z (not_true (mem z (kinds_of f)) (λ i. true≢false (sym v ∙ unmet_in ks (kinds_of f) m z i)))))
        (λ v. omega (arith, count_append eqb z (kinds_of f) (layout_kinds (families_with ks fs)), families_with_out ks fs z (chained_rest ks f fs c) v, o z, count_append eqb z (kinds_of f) (layout_kinds fs))))

families_with_in : (ks : List ℕ) (fs : List Family) (k : ℕ) → chained ks fs ≡ true → In (layout_kinds (families_with ks fs)) k → mem k ks ≡ false → In (layout_kinds fs) k
families_with_in ks fs k c i n = count_in (layout_kinds fs) k (omega (arith, families_with_out ks fs k c n, in_count (layout_kinds (families_with ks fs)) k i))

pub families_with_groups : (ks : List ℕ) (fs : List Family) → groups_of (families_with ks fs) ≡ groups_of fs + touched ks fs
families_with_groups ks [] = refl
families_with_groups ks (f ∷ fs) =
    let r = families_with_groups ks fs in
    bool_cases (meets ks (kinds_of f))
    (λ t. rw t (omega (arith, r, family_with_groups ks [] f)))
    (λ t. rw t (omega (arith, r)))

-- ---- every family is one that commands can build, with all counts 0

record FamiliesSound (ks : List ℕ) (fs : List Family) : Type 0 where
  pub families : BuildableFamilies (families_with ks fs)
  pub uncounted : AllUncounted (families_with ks fs)

families_with_families : (ks : List ℕ) (fs : List Family) → chained ks fs ≡ true → present ks fs ≡ false → 2 ≤ length ks → length ks ≤ MAX_GROUP_ARITY → Distinct ks → Distinct (layout_kinds fs) → BuildableFamilies fs → AllUncounted fs → FamiliesSound ks fs
families_with_families ks [] c p two l k d b u = record { families = tt; uncounted = tt }
families_with_families ks (f ∷ fs) c p two l k d b u =
    let r = families_with_families ks fs (chained_rest ks f fs c) (or_false_right (is_group ks [] f) (present ks fs) p) two l k (distinct_right (kinds_of f) (layout_kinds fs) d) b.1 u.1 in
    record {
      families = (cond_case BuildableFamily (meets ks (kinds_of f)) _ _ (λ t. family_with_family ks f two l k (distinct_left (kinds_of f) (layout_kinds fs) d) (or_false (is_group ks [] f) (present ks fs) p) (chained_first ks f fs c t) b.0) (λ t. b.0), r.families);
      uncounted = (cond_case Uncounted (meets ks (kinds_of f)) _ _ (λ t. family_with_uncounted ks [] f u.0) (λ t. u.0), r.uncounted);
    }

-- ---- a family of its own

own_families : (ks : List ℕ) (fs : List Family) → 2 ≤ length ks → length ks ≤ MAX_GROUP_ARITY → BuildableFamilies fs → BuildableFamilies (fs ++ ((new_group ks ∷ []) ∷ []))
own_families ks [] h l b = ((h, tt, rw (append-nil ks) l), tt)
own_families ks (f ∷ fs) h l b = (b.0, own_families ks fs h l b.1)

own_uncounted : (ks : List ℕ) (fs : List Family) → AllUncounted fs → AllUncounted (fs ++ ((new_group ks ∷ []) ∷ []))
own_uncounted ks [] u = ((refl, tt), tt)
own_uncounted ks (f ∷ fs) u = (u.0, own_uncounted ks fs u.1)

pub kinds_append : (fs gs : List Family) → layout_kinds (fs ++ gs) ≡ layout_kinds fs ++ layout_kinds gs
kinds_append [] gs = refl
kinds_append (f ∷ fs) gs = ap (λ (l : List ℕ). kinds_of f ++ l) (kinds_append fs gs) ∙ sym (append_assoc (kinds_of f) (layout_kinds fs) (layout_kinds gs))

pub groups_append : (fs gs : List Family) → groups_of (fs ++ gs) ≡ groups_of fs + groups_of gs
groups_append [] gs = omega arith
groups_append (f ∷ fs) gs = omega (arith, groups_append fs gs)

own_kinds : (ks : List ℕ) (fs : List Family) → layout_kinds (fs ++ ((new_group ks ∷ []) ∷ [])) ≡ layout_kinds fs ++ ks
own_kinds ks fs = kinds_append fs ((new_group ks ∷ []) ∷ []) ∙ ap (λ (l : List ℕ). layout_kinds fs ++ l) (append-nil (ks ++ []) ∙ append-nil ks)

own_groups : (ks : List ℕ) (fs : List Family) → groups_of (fs ++ ((new_group ks ∷ []) ∷ [])) ≡ groups_of fs + 1
own_groups ks [] = refl
own_groups ks (f ∷ fs) = omega (arith, own_groups ks fs)

-- ---- the draft with the group

module _ (kinds ks : List ℕ) (fs : List Family) (d : Distinct ks) (known : (k : ℕ) → In ks k → In kinds k) (narrow : length ks ≤ MAX_GROUP_ARITY) (few : groups_of fs < MAX_GROUP_COUNT) (D : DraftSound kinds fs) where
  own_sound : 2 ≤ length ks → touched ks fs ≡ 0 → DraftSound kinds (fs ++ ((new_group ks ∷ []) ∷ []))
  own_sound two z =
      record {
        buildable = record {
          families = own_families ks fs two narrow D.buildable.families;
          once = rw (own_kinds ks fs) (λ k. bool_cases (mem k ks)
              (λ t. omega (arith, count_append eqb k (layout_kinds fs) ks, d k, out_count (layout_kinds fs) k (not_true (mem k (layout_kinds fs)) (λ i. true≢false (sym t ∙ untouched ks fs z k i)))))
              (λ t. omega (arith, count_append eqb k (layout_kinds fs) ks, D.buildable.once k, out_count ks k t)));
          known = rw (own_kinds ks fs) (λ k i. in_cases (layout_kinds fs) ks k i (D.buildable.known k) (known k));
          few = omega (arith, own_groups ks fs);
        };
        uncounted = own_uncounted ks fs D.uncounted;
      }

  families_with_sound : 2 ≤ length ks → touched ks fs ≡ 1 → chained ks fs ≡ true → present ks fs ≡ false → DraftSound kinds (families_with ks fs)
  families_with_sound two t c p =
      let G = families_with_families ks fs c p two narrow d D.buildable.once D.buildable.families D.uncounted in
      record {
        buildable = record {
          families = G.families;
          once = families_with_once ks fs t c d D.buildable.once;
          known = λ k i. bool_cases (mem k ks) (known k) (λ n. D.buildable.known k (families_with_in ks fs k c i n));
          few = omega (arith, families_with_groups ks fs);
        };
        uncounted = G.uncounted;
      }

  pub with_group_sound : adds_nothing ks fs ≡ false → joins ks fs ≡ true → DraftSound kinds (with_group ks fs)
  with_group_sound n j =
      let two : 2 ≤ length ks = omega (arith, ltb-false (length ks) 2 (or_false (ltb (length ks) 2) (present ks fs) n)) in
      cond_case (DraftSound kinds) (eqb (touched ks fs) 0) _ _
      (λ z. own_sound two (eqb-true (touched ks fs) 0 z))
      (λ z.
      let some : 0 < touched ks fs = above 0 (omega arith) (eqb-false (touched ks fs) 0 z) in
      let one : touched ks fs ≡ 1 = omega (arith, some, leb-true (touched ks fs) 1 (and_left (leb (touched ks fs) 1) (chained ks fs) j)) in
      families_with_sound two one (and_right (leb (touched ks fs) 1) (chained ks fs) j) (or_false_right (ltb (length ks) 2) (present ks fs) n))

-- ---- the same of add_group

pub add_group_sound : (kinds ks : List ℕ) (fs : List Family) → Distinct ks → ((k : ℕ) → In ks k → In kinds k) → DraftSound kinds fs → AddedSound kinds (add_group ks fs)
unfolding add_group
add_group_sound kinds ks fs d known D =
    cond_case (AddedSound kinds) (ltb MAX_GROUP_ARITY (length ks)) _ _ (λ t. tt)
    (λ wide. cond_case (AddedSound kinds) (adds_nothing ks fs) _ _ (λ t. tt)
    (λ new. cond_case (AddedSound kinds) (joins ks fs) _ _
    (λ fits. cond_case (AddedSound kinds) (leb MAX_GROUP_COUNT (groups_of fs)) _ _ (λ t. tt)
    (λ few. with_group_sound kinds ks fs d known (omega (arith, ltb-false MAX_GROUP_ARITY (length ks) wide)) (omega (arith, leb-false MAX_GROUP_COUNT (groups_of fs) few)) D new fits))
    (λ clash. tt)))
