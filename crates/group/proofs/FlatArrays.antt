-- The groups that a layout's arrays list, by position: each group's kinds stand in a row among the layout's, and its count is its number's. Assumes nothing.
use mathlib.Core.Path.{◌≡◌, ap, ap₂, sym, ◌∙◌, subst}
use mathlib.Core.Logic.{◌≢◌}
use mathlib.Core.List.{List, [], ◌∷◌}
use Prim.Native.Nat.{ℕ, zero, suc, ◌+◌, ◌-◌, ◌≤◌, ◌<◌}
use native.Mathlib.Omega.{arith}
use native.Mathlib.Nat.{le_of_suc-le-suc, not-suc-le-zero, sub-zero}
use lib.ListN.{length, get_or, set, take}
use lib.Seq.{get_or-set_same, get_or-set_other, take-take}
use Rattle.model.specs.Model.{Family}
use Rattle.model.specs.Sound.{layout_kinds}
use Rattle.words.specs.Part.{between}
use Rattle.words.proofs.Part.{between_front, between_part, between_join}
use Rattle.words.specs.Table.{table}
use Rattle.words.proofs.Tables.{table_set}
use Rattle.layout.specs.Layout.{Arrays, start_of, width_of, kinds_at, arities_at, groups_from, family_at, families_of, AritiesRising, WellFormed}
use Rattle.layout.specs.ByValue.{ArraysSized}
use Rattle.layout.specs.Group.{InFamily, arity_of, prior_arity}
use Rattle.layout.proofs.Family.{groups_same}
use Rattle.layout.proofs.Arrays.{group_order, kinds_inside, arities_length, family_rising, groups_length, layout_kinds_law}
use Rattle.layout.proofs.Groups.{same_family, place_is, place_inside, arity_is, prior_is, arity_inside}
use Rattle.group.specs.Flat.{Located, nowhere, family_groups, located, set_in, set_count}
use Rattle.group.proofs.Fronts.{Front, whole, past, opened}

-- the group with arity kinds from start on, of which those from prior on are new
abbrev pub standing : List ℕ → ℕ → ℕ → ℕ → ℕ → ℕ → ℕ → Located
standing order start prior arity count first top =
    record { kinds = between start (start + arity) order; new_kinds = between (start + prior) (start + arity) order; count = count; first = first; top = top }

-- ---- a family's groups: ks are its kinds, ars the groups' arities from here on, b the arity before

family_group : (counts : List ℕ) (first top g : ℕ) (ks : List ℕ) (b n : ℕ) (ars : List ℕ) → AritiesRising b n ars → (i : ℕ) → i < length ars
    → get_or (family_groups first top (take b ks) (groups_from counts g ks b ars)) i nowhere
    ≡ record { kinds = take (get_or ars i 0) ks; new_kinds = between (get_or (b ∷ ars) i 0) (get_or ars i 0) ks; count = get_or counts (g + i) 0; first = first; top = top }
unfolding groups_from AritiesRising
family_group counts first top g ks b n [] r i h = absurd (not-suc-le-zero h)
family_group counts first top g ks b n (a ∷ ars) r zero h =
    let e : g ≡ g + 0 = omega arith in
    let joined = between_join ks b a (omega (arith, r.0)) in
    λ j. record { kinds = joined j; new_kinds = between b a ks; count = get_or counts (e j) 0; first = first; top = top }
family_group counts first top g ks b n (a ∷ ars) r (suc i) h =
    let e : suc g + i ≡ g + suc i = omega arith in
    ap (λ (acc : List ℕ). get_or (family_groups first top acc (groups_from counts (suc g) ks a ars)) i nowhere) (between_join ks b a (omega (arith, r.0)))
    ∙ family_group counts first top (suc g) ks a n ars r.1 i (le_of_suc-le-suc h)
    ∙ ap (λ (m : ℕ). record { kinds = take (get_or ars i 0) ks; new_kinds = between (get_or (a ∷ ars) i 0) (get_or ars i 0) ks; count = get_or counts m 0; first = first; top = top }) e

-- another count
group_set : (counts : List ℕ) (c g : ℕ) (ks : List ℕ) (b : ℕ) (ars : List ℕ) (i : ℕ) → i < length ars → g + i < length counts
    → groups_from (set counts (g + i) c) g ks b ars ≡ set_in i c (groups_from counts g ks b ars)
unfolding groups_from
group_set counts c g ks b [] i h l = absurd (not-suc-le-zero h)
group_set counts c g ks b (a ∷ ars) zero h l =
    let e : g ≡ g + 0 = omega arith in
    ap₂ (λ (c : ℕ) (rs : Family). record { new_kinds = between b a ks; count = c } ∷ rs)
    (ap (λ (n : ℕ). get_or (set counts (g + 0) c) n 0) e ∙ get_or-set_same counts (g + 0) c 0 l)
    (groups_same counts (set counts (g + 0) c) (suc g) ks a ars (λ j lo hi. get_or-set_other counts (g + 0) j c 0 (omega arith)))
group_set counts c g ks b (a ∷ ars) (suc i) h l =
    let e : g + suc i ≡ suc g + i = omega arith in
    ap₂ (λ (c : ℕ) (rs : Family). record { new_kinds = between b a ks; count = c } ∷ rs)
    (get_or-set_other counts (g + suc i) g c 0 (omega arith))
    (ap (λ (n : ℕ). groups_from (set counts n c) (suc g) ks a ars) e ∙ group_set counts c (suc g) ks a ars i (le_of_suc-le-suc h) (omega arith))

-- ---- families one after another, after those of X: family f's groups are numbered from s f on

module _ (c : ℕ) where
  table_at : (n : ℕ) (F : ℕ → Family) (s : ℕ → ℕ) (X : Front (s 0)) → ((f : ℕ) → f < n → s (suc f) ≡ s f + length (F f)) → (f i : ℕ) → f < n → i < length (F f)
      → (located (X.build (table n F)) (s f + i) ≡ get_or (family_groups (s f) (s (suc f)) [] (F f)) i nowhere) × (set_count (s f + i) c (X.build (table n F)) ≡ X.build (set (table n F) f (set_in i c (F f))))
  unfolding table
  table_at zero F s X e f i h l = absurd (not-suc-le-zero h)
  table_at (suc n) F s X e zero i h l =
      let H = opened X (s 1) (table n (λ m. F (suc m))) in
      (H.locate (F 0) (sym (e 0 h)) i l, H.put (F 0) i c l)
  table_at (suc n) F s X e (suc f) i h l =
      table_at n (λ m. F (suc m)) (λ m. s (suc m)) (past X (F 0) (e 0 (omega arith))) (λ m j. e (suc m) (omega arith)) f i (omega arith) l

-- ---- well-formed arrays

module _ (counts : List ℕ) (a : Arrays) (good : WellFormed a) (sized : ArraysSized a) where
  family_size : (f : ℕ) → f < a.families → length (family_at counts a f) ≡ get_or a.ends f 0 - start_of a.ends f
  family_size f h = groups_length counts (start_of a.ends f) (kinds_at a f) 0 (arities_at a f) ∙ arities_length a good sized f h

  steps : (f : ℕ) → f < a.families → start_of a.ends (suc f) ≡ start_of a.ends f + length (family_at counts a f)
  steps f h = omega (arith, group_order a good f h, family_size f h)

  -- family f's kinds are those from its start on
  kinds_in_law : (f x y : ℕ) → f < a.families → start_of a.kind_ends f + y ≤ get_or a.kind_ends f 0
      → between x y (kinds_at a f) ≡ between (start_of a.kind_ends f + x) (start_of a.kind_ends f + y) (layout_kinds (families_of counts a))
  kinds_in_law f x y h l =
      let s = start_of a.kind_ends f in
      let w = width_of a in
      between_part x y s (get_or a.kind_ends f 0) a.kinds l
      ∙ between_front w (s + x) (s + y) (take w a.kinds) a.kinds (omega (arith, kinds_inside a good f h)) (sym (take-take w w a.kinds (omega arith)))
      ∙ ap (between (s + x) (s + y)) (sym (layout_kinds_law counts a good sized))

  module _ (f g : ℕ) (G : InFamily a f g) where
    abbrev pub start : ℕ
    start = start_of a.kind_ends f

    abbrev i : ℕ
    i = g - start_of a.ends f

    at : (c : ℕ)
        → (located (families_of counts a) (start_of a.ends f + i) ≡ get_or (family_groups (start_of a.ends f) (get_or a.ends f 0) [] (family_at counts a f)) i nowhere)
        × (set_count (start_of a.ends f + i) c (families_of counts a) ≡ set (families_of counts a) f (set_in i c (family_at counts a f)))
    at c = table_at c a.families (family_at counts a) (start_of a.ends) whole steps f i G.family (omega (arith, family_size f G.family, G.low, G.high))

    -- what stands at position g
    pub located_is : located (families_of counts a) g ≡ standing (layout_kinds (families_of counts a)) start (prior_arity a f g) (arity_of a g) (get_or counts g 0) (start_of a.ends f) (get_or a.ends f 0)
    located_is =
        let arity = arity_of a g in
        let r : start + arity ≤ get_or a.kind_ends f 0 = arity_inside a good sized f g G in
        let z : start + 0 ≡ start = omega arith in
        let all : take (get_or (arities_at a f) i 0) (kinds_at a f) ≡ between start (start + arity) (layout_kinds (families_of counts a)) =
        ap (λ (n : ℕ). take n (kinds_at a f)) (arity_is a good sized f g G ∙ sym (sub-zero arity)) ∙ kinds_in_law f 0 arity G.family r ∙ ap (λ (n : ℕ). between n (start + arity) (layout_kinds (families_of counts a))) z in
        let new = (λ j. between (prior_is a good sized f g G j) (arity_is a good sized f g G j) (kinds_at a f)) ∙ kinds_in_law f (prior_arity a f g) arity G.family r in
        ap (located (families_of counts a)) (sym (place_is a good sized f g G)) ∙ (at 0).0
        ∙ family_group counts (start_of a.ends f) (get_or a.ends f 0) (start_of a.ends f) (kinds_at a f) 0 (length (kinds_at a f)) (arities_at a f) (family_rising a good sized f G.family) i (place_inside a good sized f g G)
        ∙ (λ j. record { kinds = all j; new_kinds = new j; count = get_or counts (place_is a good sized f g G j) 0; first = start_of a.ends f; top = get_or a.ends f 0 })

    -- another count at position g
    pub counts_are : (c : ℕ) → g < length counts → families_of (set counts g c) a ≡ set_count g c (families_of counts a)
    counts_are c l =
        let e = place_is a good sized f g G in
        let here : family_at (set counts g c) a f ≡ set_in i c (family_at counts a f) =
        ap (λ (m : ℕ). family_at (set counts m c) a f) (sym e) ∙ group_set counts c (start_of a.ends f) (kinds_at a f) 0 (arities_at a f) i (place_inside a good sized f g G) (omega (arith, e)) in
        table_set [] (set_in i c (family_at counts a f)) a.families (family_at counts a) (family_at (set counts g c) a) f G.family here
        (λ m h ne.
        groups_same counts (set counts g c) (start_of a.ends m) (kinds_at a m) 0 (arities_at a m)
        (λ j lo up. get_or-set_other counts g j c 0 (apart m h ne j lo up)))
        ∙ sym (ap (λ (m : ℕ). set_count m c (families_of counts a)) (sym e) ∙ (at c).1)
      where
        -- another family's groups are others
        apart : (m : ℕ) → m < a.families → m ≢ f → (j : ℕ) → start_of a.ends m ≤ j → j < start_of a.ends m + length (arities_at a m) → j ≢ g
        apart m h ne j lo up e =
            ne (same_family a good m f j (record { family = h; low = lo; high = omega (arith, arities_length a good sized m h, group_order a good m h) }) (subst (InFamily a f) (sym e) G))
