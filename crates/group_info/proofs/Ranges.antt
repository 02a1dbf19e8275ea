-- What a query's infos say of a range is what the model's RANGE says of the kinds. Assumes nothing.
use mathlib.Core.Path.{◌≡◌, refl, sym, ap, ap₂, ◌∙◌, subst}
use mathlib.Core.Bool.{true, false, cond, true≢false}
use mathlib.Core.List.{List, [], ◌∷◌}
use Prim.Native.Nat.{ℕ, zero, suc, ◌+◌, ◌-◌, ◌≤◌, ◌<◌, max}
use native.Mathlib.Nat.{sub-zero}
use native.Mathlib.Decide.{dec_lt}
use native.Mathlib.Omega.{arith}
use lib.ListN.{length, get_or, take, drop}
use Rattle.std.specs.Prelude.{Option, Some, None}
use Rattle.model.specs.Numbers.{MAX_GROUP_ARITY}
use Rattle.model.specs.Model.{Family, none, found, mem, same_set, kinds_of, range_at, range_in, range_all}
use Rattle.model.proofs.KindLists.{mem_take, mem_take_le, not_in_take, same_to, same_from}
use Rattle.model.proofs.BoolLaws.{bool_cases, not_true, by-eq}
use Rattle.words.specs.Part.{between}
use Rattle.words.proofs.Part.{between_in}
use Rattle.masks.specs.Masks.{up_from}
use Rattle.layout.specs.Layout.{Arrays, start_of, kinds_at, arities_at, groups_from, families_of, KindSet, AritiesRising, WellFormed}
use Rattle.layout.specs.ByValue.{ArraysSized}
use Rattle.layout.specs.Group.{arity_of}
use Rattle.layout.proofs.Family.{rising_at, rising_less, start_prior, rising_step}
use Rattle.layout.proofs.Arrays.{families_length, families_at, family_kinds_of_law, family_kinds, family_rising, kinds_length, arities_length}
use Rattle.group_info.specs.Info.{places_of, IncludeSays, top_of, NextGroup, NextGroupRange, ExcludeSays}
use Rattle.group_info.specs.Describes.{range_of, InfoOfKinds}
use Rattle.group_info.specs.declared.GroupInfo.{GroupInfo}
use Rattle.group_info.specs.declared.GroupRange.{GroupRange}
use Rattle.group_info.proofs.Places.{place_of, mem_part, places_of_part, part_of_places}
use Rattle.group_info.proofs.Families.{lacks_staged, lacks_excluded, all_none, only_one, elsewhere, next_kind, at_group, empty_none, next_new_kinds, no_next}
use Rattle.layout.proofs.Groups as groups

-- ---- one family: which group its own is

module _ (ks ars : List ℕ) (s : KindSet ks) (r : AritiesRising 0 (length ks) ars) where
  start_below : (j : ℕ) → j < length ars → start_of ars j < get_or ars j 0
  start_below j h = omega (arith, rising_step 0 (length ks) ars j r h, start_prior ars j)

  -- a smaller group's kinds are all before a larger group's new ones
  before_start : (i j : ℕ) → i < j → j < length ars → get_or ars i 0 ≤ start_of ars j
  before_start i zero l h = absurd (omega arith)
  before_start i (suc j) l h = elim (dec_lt i j) [ yes q ↦ omega (arith, rising_less 0 (length ks) ars i j r q (omega arith)) | no q ↦ let e : i ≡ j = omega arith in rw e (omega arith) ]

  module _ (hs : List ℕ) (own top : ℕ) (group : own < length ars) (below : (k : ℕ) → mem k hs ≡ true → mem k (take (get_or ars own 0) ks) ≡ true)
      (top_in : mem top hs ≡ true) (top_new : mem top (take (start_of ars own) ks) ≡ false) where
    not_before : (j : ℕ) → own < j → j < length ars → (x : ℕ) → mem x hs ≡ true → mem x (take (start_of ars j) ks) ≡ true
    not_before j l h x m = mem_take_le x ks (get_or ars own 0) (start_of ars j) (before_start own j l h) (below x m)

    not_after : (j : ℕ) → j < own → mem top (take (get_or ars j 0) ks) ≡ false
    not_after j l = not_in_take top ks (get_or ars j 0) (start_of ars own) (before_start j own l group) top_new

    -- kinds equal to the group at j have it for their own
    pub own_group : (j : ℕ) → j < length ars → same_set hs (take (get_or ars j 0) ks) ≡ true → own ≡ j
    own_group j h e =
        elim (dec_lt own j) [
          | yes l ↦
              let x = next_kind ks s (start_of ars j) (get_or ars j 0) (start_below j h) (rising_at 0 (length ks) ars j r h) in
              absurd (true≢false (sym (not_before j l h (get_or ks (start_of ars j) 0) (same_from hs (take (get_or ars j 0) ks) e (get_or ks (start_of ars j) 0) x.0)) ∙ x.1))
          | no l ↦ elim (dec_lt j own) [
            | yes q ↦ absurd (true≢false (sym (same_to hs (take (get_or ars j 0) ks) e top top_in) ∙ not_after j q))
            | no q ↦ omega arith
          ]
        ]

    -- and so have kinds equal to its new ones
    pub own_new_kinds : (j : ℕ) → j < length ars → same_set hs (between (start_of ars j) (get_or ars j 0) ks) ≡ true → own ≡ j
    own_new_kinds j h e =
        let lo = start_of ars j in
        let hi = get_or ars j 0 in
        let in_ks = rising_at 0 (length ks) ars j r h in
        let ord : lo ≤ hi = omega (arith, start_below j h) in
        elim (dec_lt own j) [
          | yes l ↦
              let x = next_kind ks s lo hi (start_below j h) in_ks in
              let m = between_in lo hi lo ks (omega arith) (start_below j h) in_ks in
              absurd (true≢false (sym (not_before j l h (get_or ks lo 0) (same_from hs (between lo hi ks) e (get_or ks lo 0) m)) ∙ x.1))
          | no l ↦ elim (dec_lt j own) [
            | yes q ↦
                let y = mem_part ks s lo hi ord in_ks top (same_to hs (between lo hi ks) e top top_in) in
                let whole : mem top (between 0 hi ks) ≡ true = ap (λ (k : ℕ). mem k (between 0 hi ks)) (sym y.there) ∙ between_in 0 hi (place_of top ks) ks (omega arith) y.high in_ks in
                absurd (true≢false (sym (ap (λ (n : ℕ). mem top (take n ks)) (sym (sub-zero hi)) ∙ whole) ∙ not_after j q))
            | no q ↦ omega arith
          ]
        ]

-- ---- over the arrays

module _ (a : Arrays) (good : WellFormed a) (sized : ArraysSized a) where
  pub few_kinds : (f : ℕ) → f < a.families → length (kinds_at a f) ≤ MAX_GROUP_ARITY
  few_kinds f h = omega (arith, kinds_length a good sized f h, (good.family f h).most)

  -- two families that start at one group are one
  pub same_family : (f g : ℕ) → f < a.families → g < a.families → start_of a.ends f ≡ start_of a.ends g → f ≡ g
  same_family f g hf hg e =
      groups.same_family a good f g (start_of a.ends f) (record { family = hf; low = omega arith; high = (good.family f hf).some })
      (record { family = hg; low = omega arith; high = omega (arith, (good.family g hg).some) })

  -- an arity of a family stands in the array of all arities
  pub arity_of_law : (f j : ℕ) → f < a.families → j < length (arities_at a f) → arity_of a (start_of a.ends f + j) ≡ get_or (arities_at a f) j 0
  arity_of_law f j h l = sym (groups.arity_at a f j (omega (arith, arities_length a good sized f h)))

  module _ (f : ℕ) (hs : List ℕ) (i : GroupInfo) (x : InfoOfKinds a f hs i) where
    pub in_kinds_law : (k : ℕ) → mem k hs ≡ true → mem k (kinds_at a f) ≡ true
    in_kinds_law k m = mem_take k (get_or (arities_at a f) x.own 0) (kinds_at a f) (x.below k m)

    part_places : (lo hi : ℕ) → lo ≤ hi → hi ≤ length (kinds_at a f) → same_set hs (between lo hi (kinds_at a f)) ≡ true → places_of i ≡ up_from lo (hi - lo)
    part_places lo hi o t = places_of_part (kinds_at a f) (family_kinds a good f x.inside) lo hi o t hs i.storage_mask.0 (few_kinds f x.inside) in_kinds_law x.places

    places_part : (lo hi : ℕ) → lo ≤ hi → hi ≤ length (kinds_at a f) → places_of i ≡ up_from lo (hi - lo) → same_set hs (between lo hi (kinds_at a f)) ≡ true
    places_part lo hi o t = part_of_places (kinds_at a f) (family_kinds a good f x.inside) lo hi o t hs i.storage_mask.0 (few_kinds f x.inside) in_kinds_law x.places

    arity_inside : (j : ℕ) → j < length (arities_at a f) → get_or (arities_at a f) j 0 ≤ length (kinds_at a f)
    arity_inside j h = rising_at 0 (length (kinds_at a f)) (arities_at a f) j (family_rising a good sized f x.inside) h

    -- equal to the group at j, by kinds and by places
    pub group_places : (j : ℕ) → j < length (arities_at a f) → same_set hs (take (get_or (arities_at a f) j 0) (kinds_at a f)) ≡ true → places_of i ≡ up_from 0 (get_or (arities_at a f) j 0)
    group_places j h e =
        let n = get_or (arities_at a f) j 0 in
        part_places 0 n (omega arith) (arity_inside j h) (ap (λ (m : ℕ). same_set hs (take m (kinds_at a f))) (sub-zero n) ∙ e) ∙ ap (up_from 0) (sub-zero n)

    pub places_group : (j : ℕ) → j < length (arities_at a f) → places_of i ≡ up_from 0 (get_or (arities_at a f) j 0) → same_set hs (take (get_or (arities_at a f) j 0) (kinds_at a f)) ≡ true
    places_group j h e =
        let n = get_or (arities_at a f) j 0 in
        ap (λ (m : ℕ). same_set hs (take m (kinds_at a f))) (sym (sub-zero n)) ∙ places_part 0 n (omega arith) (arity_inside j h) (e ∙ ap (up_from 0) (sym (sub-zero n)))

    start_inside : (j : ℕ) → j < length (arities_at a f) → start_of (arities_at a f) j ≤ get_or (arities_at a f) j 0
    start_inside j h = omega (arith, start_below (kinds_at a f) (arities_at a f) (family_kinds a good f x.inside) (family_rising a good sized f x.inside) j h)

    pub next_places : (j : ℕ) → j < length (arities_at a f) → same_set hs (between (start_of (arities_at a f) j) (get_or (arities_at a f) j 0) (kinds_at a f)) ≡ true
        → places_of i ≡ up_from (start_of (arities_at a f) j) (get_or (arities_at a f) j 0 - start_of (arities_at a f) j)
    next_places j h e = part_places (start_of (arities_at a f) j) (get_or (arities_at a f) j 0) (start_inside j h) (arity_inside j h) e

    pub places_new_kinds : (j : ℕ) → j < length (arities_at a f) → places_of i ≡ up_from (start_of (arities_at a f) j) (get_or (arities_at a f) j 0 - start_of (arities_at a f) j)
        → same_set hs (between (start_of (arities_at a f) j) (get_or (arities_at a f) j 0) (kinds_at a f)) ≡ true
    places_new_kinds j h e = places_part (start_of (arities_at a f) j) (get_or (arities_at a f) j 0) (start_inside j h) (arity_inside j h) e

    pub is_group_law : (j : ℕ) → j < length (arities_at a f) → same_set hs (take (get_or (arities_at a f) j 0) (kinds_at a f)) ≡ true → x.own ≡ j
    is_group_law = own_group (kinds_at a f) (arities_at a f) (family_kinds a good f x.inside) (family_rising a good sized f x.inside) hs x.own x.top x.group x.below x.top_in x.top_new

    pub is_new_kinds : (j : ℕ) → j < length (arities_at a f) → same_set hs (between (start_of (arities_at a f) j) (get_or (arities_at a f) j 0) (kinds_at a f)) ≡ true → x.own ≡ j
    is_new_kinds = own_new_kinds (kinds_at a f) (arities_at a f) (family_kinds a good f x.inside) (family_rising a good sized f x.inside) hs x.own x.top x.group x.below x.top_in x.top_new

  module _ (counts : List ℕ) where
    abbrev fs : List Family
    fs = families_of counts a

    family_kinds_of : (i : ℕ) → i < length fs → kinds_of (get_or fs i []) ≡ kinds_at a i
    family_kinds_of i h =
        let l : i < a.families = omega (arith, families_length counts a) in
        ap kinds_of (families_at counts a i l) ∙ family_kinds_of_law a good sized counts i l

    -- a kind of each family's absence
    pub none_staged : (hs bs : List ℕ) → ((f : ℕ) → f < a.families → (k : ℕ) × (mem k hs ≡ true) × (mem k (kinds_at a f) ≡ false)) → range_all hs bs fs ≡ none
    none_staged hs bs h =
        all_none hs bs fs
        (λ i l. let k = h i (omega (arith, families_length counts a)) in lacks_staged hs bs [] (get_or fs i []) k.0 k.1 (ap (mem k.0) (family_kinds_of i l) ∙ k.2))

    pub none_excluded : (hs : List ℕ) (b : ℕ) (bs : List ℕ) → ((f : ℕ) → f < a.families → (k : ℕ) × (mem k (b ∷ bs) ≡ true) × (mem k (kinds_at a f) ≡ false)) → range_all hs (b ∷ bs) fs ≡ none
    none_excluded hs b bs h =
        all_none hs (b ∷ bs) fs
        (λ i l. let k = h i (omega (arith, families_length counts a)) in lacks_excluded hs b bs [] (get_or fs i []) k.0 k.1 (ap (mem k.0) (family_kinds_of i l) ∙ k.2))

    pub none_empty : (bs : List ℕ) → range_all [] bs fs ≡ none
    none_empty bs =
        all_none [] bs fs
        (λ i l. let h : i < a.families = omega (arith, families_length counts a) in
        ap (range_in [] bs []) (families_at counts a i h) ∙ empty_none [] bs counts (kinds_at a i) (family_kinds a good i h) (start_of a.ends i) 0 (arities_at a i) (family_rising a good sized i h) (λ k. refl))

    module _ (f : ℕ) (hs bs : List ℕ) (i : GroupInfo) (x : InfoOfKinds a f hs i) where
      abbrev ks : List ℕ
      ks = kinds_at a f

      abbrev ars : List ℕ
      ars = arities_at a f

      abbrev g : ℕ
      g = start_of a.ends f + x.own

      -- kinds of one family: they equal their own group or none
      pub family_range : range_all hs bs fs ≡ cond (same_set hs (take (get_or ars x.own 0) ks)) (range_at bs (get_or counts g 0) (groups_from counts (suc g) ks (get_or ars x.own 0) (drop (suc x.own) ars))) none
      family_range =
          only_one hs bs fs f (omega (arith, x.inside, families_length counts a))
          (λ j l ne. lacks_staged hs bs [] (get_or fs j []) x.top x.top_in (ap (mem x.top) (family_kinds_of j l) ∙ elsewhere a good x.top f j x.inside (omega (arith, families_length counts a)) ne (in_kinds_law f hs i x x.top x.top_in)))
          ∙ ap (range_in hs bs []) (families_at counts a f x.inside)
          ∙ at_group hs bs counts ks (family_kinds a good f x.inside) (start_of a.ends f) 0 ars x.own x.top (family_rising a good sized f x.inside) x.group x.below x.top_in
          (ap (λ (n : ℕ). mem x.top (take n ks)) (sym (start_prior ars x.own)) ∙ x.top_new)

    -- no bar
    module _ (f : ℕ) (hs : List ℕ) (i : GroupInfo) (x : InfoOfKinds a f hs i) where
      last_group : i.group_end - 1 ≡ start_of a.ends f + x.own
      last_group = omega (arith, x.last)

      last_arity : get_or a.arities (i.group_end - 1) 0 ≡ get_or (arities_at a f) x.own 0
      last_arity = ap (λ (j : ℕ). get_or a.arities j 0) last_group ∙ arity_of_law f x.own x.inside x.group

      pub include_range : (r : Option GroupRange) → IncludeSays a.arities counts i r → range_of r ≡ range_all hs [] fs
      include_range (Some r) w =
          let e = places_group f hs i x x.own x.group (w.places ∙ ap (up_from 0) last_arity) in
          ap₂ found w.from (w.to ∙ ap (λ (j : ℕ). get_or counts j 0) last_group) ∙ sym (family_range f hs [] i x ∙ rw e)
      include_range None w =
          let e = not_true (same_set hs (take (get_or (arities_at a f) x.own 0) (kinds_at a f))) (λ t. w (group_places f hs i x x.own x.group t ∙ ap (up_from 0) (sym last_arity))) in
          sym (family_range f hs [] i x ∙ rw e)

    -- a bar
    module _ (f h : ℕ) (hs : List ℕ) (b : ℕ) (bs : List ℕ) (i e : GroupInfo) (x : InfoOfKinds a f hs i) (y : InfoOfKinds a h (b ∷ bs) e) where
      own_top : (y' : InfoOfKinds a f (b ∷ bs) e) → top_of i e ≡ start_of a.ends f + max x.own y'.own
      own_top y' = omega (arith, x.last, y'.last)

      -- the ring is there: both are of family f, and the bar's own group follows the hand's
      next_found : (y' : InfoOfKinds a f (b ∷ bs) e) → (p q : ℕ) → NextGroupRange a.arities counts i e p q → found p q ≡ range_all hs (b ∷ bs) fs
      next_found y' p q w =
          let m = max x.own y'.own in
          let ars = arities_at a f in
          let ks = kinds_at a f in
          let in_m : m < length ars = omega (arith, x.group, y'.group) in
          let t = own_top y' in
          let later : 1 ≤ m = omega (arith, w.next.later, x.first) in
          let pred : suc (m - 1) ≡ m = omega arith in
          let before : get_or a.arities (top_of i e - 1) 0 ≡ get_or ars (m - 1) 0 = ap (λ (j : ℕ). get_or a.arities j 0) (omega arith) ∙ arity_of_law f (m - 1) x.inside (omega arith) in
          let at : get_or a.arities (top_of i e) 0 ≡ get_or ars m 0 = ap (λ (j : ℕ). get_or a.arities j 0) t ∙ arity_of_law f m x.inside in_m in
          let start : start_of ars m ≡ get_or ars (m - 1) 0 = ap (start_of ars) (sym pred) in
          let equal = places_group f hs i x (m - 1) (omega arith) (w.next.included ∙ ap (up_from 0) before) in
          let own : x.own ≡ m - 1 = is_group_law f hs i x (m - 1) (omega arith) equal in
          let next : suc x.own ≡ m = omega arith in
          let new_kinds_law = places_new_kinds f (b ∷ bs) e y' m in_m (w.next.excluded ∙ ap₂ (λ (u v : ℕ). up_from u (v - u)) (before ∙ sym start) at) in
          let here : same_set hs (take (get_or ars x.own 0) ks) ≡ true = ap (λ (j : ℕ). same_set hs (take (get_or ars j 0) ks)) own ∙ equal in
          let there : same_set (b ∷ bs) (between (get_or ars x.own 0) (get_or ars (suc x.own) 0) ks) ≡ true =
          ap₂ (λ (u v : ℕ). same_set (b ∷ bs) (between u v ks)) (ap (λ (j : ℕ). get_or ars j 0) own ∙ sym start) (ap (λ (j : ℕ). get_or ars j 0) next) ∙ new_kinds_law in
          let upper : top_of i e ≡ suc (start_of a.ends f + x.own) = omega arith in
          let lower : top_of i e - 1 ≡ start_of a.ends f + x.own = omega arith in
          ap₂ found (w.from ∙ ap (λ (j : ℕ). get_or counts j 0) upper) (w.to ∙ ap (λ (j : ℕ). get_or counts j 0) lower)
          ∙ sym (family_range f hs (b ∷ bs) i x ∙ rw here (next_new_kinds b bs counts ks (suc (start_of a.ends f + x.own)) (get_or ars x.own 0) (get_or counts (start_of a.ends f + x.own) 0) ars (suc x.own) (omega arith) ∙ rw there))

      -- no ring: then no next group has the bar's kinds for its new ones
      no_queue : (NextGroup a.arities i e → ⊥) → same_set hs (take (get_or (arities_at a f) x.own 0) (kinds_at a f)) ≡ true → suc x.own < length (arities_at a f)
          → same_set (b ∷ bs) (between (get_or (arities_at a f) x.own 0) (get_or (arities_at a f) (suc x.own) 0) (kinds_at a f)) ≡ false
      no_queue n equal in_m = not_true (same_set (b ∷ bs) (between (get_or (arities_at a f) x.own 0) (get_or (arities_at a f) (suc x.own) 0) (kinds_at a f))) go
        where
          go : same_set (b ∷ bs) (between (get_or (arities_at a f) x.own 0) (get_or (arities_at a f) (suc x.own) 0) (kinds_at a f)) ≡ true → ⊥
          go t =
              let ars = arities_at a f in
              let ks = kinds_at a f in
              let m = suc x.own in
              let sets = family_kinds a good f x.inside in
              let top_at = mem_part ks sets (start_of ars m) (get_or ars m 0) (start_inside f hs i x m in_m) (arity_inside f hs i x m in_m) y.top
              (same_to (b ∷ bs) (between (start_of ars m) (get_or ars m 0) ks) t y.top y.top_in) in
              let top_here_law : mem y.top ks ≡ true =
              ap (λ (k : ℕ). mem k ks) (sym top_at.there) ∙ mem_take (get_or ks (place_of y.top ks) 0) (get_or ars m 0) ks (ap (λ (u : ℕ). mem (get_or ks (place_of y.top ks) 0) (take u ks)) (sym (sub-zero (get_or ars m 0))) ∙ between_in 0 (get_or ars m 0) (place_of y.top ks) ks (omega arith) top_at.high (arity_inside f hs i x m in_m)) in
              let same : h ≡ f = family top_here_law in
              let y' = subst (λ (z : ℕ). InfoOfKinds a z (b ∷ bs) e) same y in
              let own : y'.own ≡ m = is_new_kinds f (b ∷ bs) e y' m in_m t in
              let t₁ = own_top y' in
              let before : get_or a.arities (top_of i e - 1) 0 ≡ get_or ars x.own 0 = ap (λ (j : ℕ). get_or a.arities j 0) (omega arith) ∙ arity_of_law f x.own x.inside x.group in
              let at : get_or a.arities (top_of i e) 0 ≡ get_or ars m 0 = ap (λ (j : ℕ). get_or a.arities j 0) (omega arith) ∙ arity_of_law f m x.inside in_m in
              n (record {
                same = x.first ∙ sym y'.first;
                later = omega (arith, x.first);
                included = group_places f hs i x x.own x.group equal ∙ ap (up_from 0) (sym before);
                excluded = next_places f (b ∷ bs) e y' m in_m t ∙ ap₂ (λ (u v : ℕ). up_from u (v - u)) (sym before) (sym at);
              })
            where
              family : mem y.top (kinds_at a f) ≡ true → h ≡ f
              family m =
                  by-eq h f (λ q. q)
                  (λ ne. absurd (true≢false (sym (in_kinds_law h (b ∷ bs) e y y.top y.top_in) ∙ elsewhere a good y.top f h x.inside y.inside ne m)))

      pub exclude_range : (r : Option GroupRange) → ExcludeSays a.arities counts i e r → range_of r ≡ range_all hs (b ∷ bs) fs
      exclude_range (Some r) w =
          let same : h ≡ f = same_family h f y.inside x.inside (sym y.first ∙ sym w.next.same ∙ x.first) in
          next_found (subst (λ (z : ℕ). InfoOfKinds a z (b ∷ bs) e) same y) r.start r.end w
      exclude_range None w =
          sym (family_range f hs (b ∷ bs) i x
          ∙ bool_cases (same_set hs (take (get_or (arities_at a f) x.own 0) (kinds_at a f)))
          (λ t. rw t (elim (dec_lt (suc x.own) (length (arities_at a f))) [
            | yes l ↦ next_new_kinds b bs counts (kinds_at a f) (suc (start_of a.ends f + x.own)) (get_or (arities_at a f) x.own 0) (get_or counts (start_of a.ends f + x.own) 0) (arities_at a f) (suc x.own) l ∙ rw (no_queue w t l)
            | no l ↦ no_next b bs counts (kinds_at a f) (suc (start_of a.ends f + x.own)) (get_or (arities_at a f) x.own 0) (get_or counts (start_of a.ends f + x.own) 0) (arities_at a f) (suc x.own) (omega arith)
          ]))
          (λ t. rw t))
