-- A family that gets other kinds and a group more: every other family keeps its meaning, and the layout stays well formed. Assumes nothing.
use mathlib.Core.Path.{◌≡◌, refl, sym, ap, ap₂, ◌∙◌}
use mathlib.Core.Logic.{◌≢◌}
use mathlib.Core.List.{List, [], ◌∷◌, ◌++◌, append_assoc, append-nil}
use Prim.Native.Nat.{ℕ, zero, suc, ◌+◌, ◌-◌, ◌≤◌, ◌<◌}
use native.Mathlib.Decide.{dec_lt}
use native.Mathlib.Omega.{arith}
use lib.ListN.{length, get_or, take, drop, length-append}
use lib.Seq.{take-take, take_at, drop-drop, drop-append-le, drop-append-add, length-take-le}
use Rattle.model.specs.Numbers.{MAX_GROUP_ARITY, MAX_KINDS}
use Rattle.words.specs.Part.{between}
use Rattle.words.proofs.Part.{between_front, between_none, between_split, length_between, drop_take}
use Rattle.model.proofs.BoolLaws.{by-eq}
use Rattle.layout.specs.Layout.{Arrays, arrays_in, start_of, width_of, group_count, kinds_at, arities_at, groups_from, family_at, KindSet, AritiesRising, FamilyFormed, WellFormed}
use Rattle.layout.specs.ByValue.{ArraysSized}
use Rattle.layout.specs.Grow.{Spread, Raised, LooseAt, replaced, put_in}
use Rattle.layout.proofs.Family.{no_counts_law}
use Rattle.layout.proofs.Arrays.{ends_rise, end_inside}
use Rattle.layout.proofs.KindSets.{pigeon}

-- ---- parts of a list with more in the place of its part from k to j, by elements longer

module _ (xs ys more : List ℕ) (k j w by : ℕ) (kj : k ≤ j) (jw : j ≤ w) (fits : w ≤ length xs) (size : k + length more ≡ j + by) (front : take (w + by) ys ≡ replaced xs k j more w) where
  part_before : (s e : ℕ) → e ≤ k → between s e ys ≡ between s e xs
  part_before s e h =
      between_front k s e xs ys h
      (sym (take-take k (w + by) ys (omega arith)) ∙ ap (take k) front ∙ take_at (take k xs) (more ++ between j w xs) k (length-take-le k xs (omega arith)))

  head_length : length (take k xs ++ more) ≡ j + by
  head_length = length-append (take k xs) more ∙ ap (λ (n : ℕ). n + length more) (length-take-le k xs (omega arith)) ∙ size

  front_split : take (w + by) ys ≡ (take k xs ++ more) ++ between j w xs
  front_split = front ∙ sym (append_assoc (take k xs) more (between j w xs))

  part_head : (s : ℕ) → s ≤ k → between s (j + by) ys ≡ between s k xs ++ more
  part_head s h =
      drop_take ys s (j + by) (omega arith)
      ∙ ap (drop s) (sym (take-take (j + by) (w + by) ys (omega arith)) ∙ ap (take (j + by)) front_split ∙ take_at (take k xs ++ more) (between j w xs) (j + by) head_length)
      ∙ drop-append-le s (take k xs) more (omega (arith, length-take-le k xs (omega arith)))
      ∙ ap (λ (l : List ℕ). l ++ more) (sym (drop_take xs s k h))

  part_after : (s e : ℕ) → j ≤ s → s ≤ e → e ≤ w → between (s + by) (e + by) ys ≡ between s e xs
  part_after s e js se ew =
      let gap : e + by - (s + by) ≡ e - s = omega arith in
      let gap' : e - s ≡ e - j - (s - j) = omega arith in
      let at : s + by ≡ length (take k xs ++ more) + (s - j) = omega (arith, head_length) in
      let at' : j + (s - j) ≡ s = omega arith in
      sym (between_front (w + by) (s + by) (e + by) ys (take (w + by) ys) (omega arith) (take-take (w + by) (w + by) ys (omega arith)))
      ∙ ap (between (s + by) (e + by)) front_split
      ∙ ap₂ (λ (n d : ℕ). take n (drop d ((take k xs ++ more) ++ between j w xs))) (gap ∙ gap') at
      ∙ ap (take (e - j - (s - j))) (drop-append-add (take k xs ++ more) (between j w xs) (s - j))
      ∙ between_front (w - j) (s - j) (e - j) (drop j xs) (between j w xs) (omega arith) (take-take (w - j) (w - j) (drop j xs) (omega arith))
      ∙ ap₂ (λ (n : ℕ) (l : List ℕ). take n l) (sym gap') (drop-drop (s - j) j xs ∙ ap (λ (n : ℕ). drop n xs) at')

  part_around : (s e : ℕ) → s ≤ k → j ≤ e → e ≤ w → between s (e + by) ys ≡ between s k xs ++ (more ++ between j e xs)
  part_around s e sk je ew =
      sym (between_split s (j + by) (e + by) ys (omega arith) (omega arith))
      ∙ ap₂ ◌++◌ (part_head s sk) (part_after j e (omega arith) je ew)
      ∙ append_assoc (between s k xs) more (between j e xs)

-- ---- the parts between ends, n of them, where in part f the elements from k to j are replaced and the ends from f on are raised

pub record Replaces (es es' xs ys more : List ℕ) (n f k j by : ℕ) : Type 0 where
  pub inside : f < n
  pub order : (i : ℕ) → i < n → start_of es i ≤ get_or es i 0
  pub fits : start_of es n ≤ length xs
  pub low : start_of es f ≤ k
  pub part : k ≤ j
  pub high : j ≤ get_or es f 0
  pub size : k + length more ≡ j + by
  pub raised : Raised es f n by es'
  pub front : take (start_of es n + by) ys ≡ replaced xs k j more (start_of es n)

module _ {es es' xs ys more : List ℕ} {n f k j by : ℕ} (R : Replaces es es' xs ys more n f k j by) where
  start_low : (i : ℕ) → i ≤ f → start_of es' i ≡ start_of es i
  start_low zero h = refl
  start_low (suc i) h = R.raised.before i h

  start_high : (i : ℕ) → f < i → i ≤ n → start_of es' i ≡ start_of es i + by
  start_high zero h l = absurd (omega arith)
  start_high (suc i) h l = R.raised.inside i (omega arith) l

  total_after : start_of es' n ≡ start_of es n + by
  total_after = start_high n R.inside (omega arith)

  end_here : get_or es' f 0 ≡ get_or es f 0 + by
  end_here = R.raised.inside f (omega arith) R.inside

  -- a part before f stands where it stood, and one after f further on
  shifted : (i : ℕ) → i < n → i ≢ f → {P : Type 0} → (start_of es' i ≡ start_of es i → get_or es' i 0 ≡ get_or es i 0 → i < f → P)
      → (start_of es' i ≡ start_of es i + by → get_or es' i 0 ≡ get_or es i 0 + by → f < i → P) → P
  shifted i h ne {P} low high = go (dec_lt i f)
    where
      go : Dec (i < f) → P
      go (yes l) = low (start_low i (omega arith)) (R.raised.before i l) l
      go (no l) = high (start_high i (omega arith) (omega arith)) (R.raised.inside i (omega arith) h) (omega arith)

  widest : get_or es f 0 ≤ start_of es n
  widest = end_inside es n R.order f R.inside

  part_other : (i : ℕ) → i < n → i ≢ f → between (start_of es' i) (get_or es' i 0) ys ≡ between (start_of es i) (get_or es i 0) xs
  part_other i h ne =
      shifted i h ne
      (λ s e l. ap₂ (λ (a b : ℕ). between a b ys) s e ∙ part_before xs ys more k j (start_of es n) by R.part (omega (arith, R.high, widest)) R.fits R.size R.front (start_of es i) (get_or es i 0)
      (omega (arith, ends_rise es f (λ m u. R.order m (omega (arith, R.inside))) (suc i) l, R.low)))
      (λ s e l. ap₂ (λ (a b : ℕ). between a b ys) s e ∙ part_after xs ys more k j (start_of es n) by R.part (omega (arith, R.high, widest)) R.fits R.size R.front (start_of es i) (get_or es i 0)
      (omega (arith, R.high, ends_rise es i (λ m u. R.order m (omega arith)) (suc f) l)) (R.order i h) (end_inside es n R.order i h))

  part_here : between (start_of es' f) (get_or es' f 0) ys ≡ between (start_of es f) k xs ++ (more ++ between j (get_or es f 0) xs)
  part_here =
      ap₂ (λ (a b : ℕ). between a b ys) (start_low f (omega arith)) end_here
      ∙ part_around xs ys more k j (start_of es n) by R.part (omega (arith, R.high, widest)) R.fits R.size R.front (start_of es f) (get_or es f 0) R.low R.high widest

-- one element put in at a place of the part
put_between : (xs : List ℕ) (a e at s : ℕ) → a + at ≤ e → between a (a + at) xs ++ (s ∷ between (a + at) e xs) ≡ put_in at s (between a e xs)
put_between xs a e at s h =
    let m : a + at - a ≡ at = omega arith in
    let n : e - (a + at) ≡ e - a - at = omega arith in
    ap₂ (λ (p q : List ℕ). p ++ (s ∷ q))
    (ap (λ (i : ℕ). take i (drop a xs)) m ∙ sym (take-take at (e - a) (drop a xs) (omega arith)))
    (ap₂ (λ (i : ℕ) (l : List ℕ). take i l) n (sym (drop-drop at a xs)) ∙ drop_take (drop a xs) at (e - a) (omega arith))

-- ---- the law

-- the arrays of a layout, and those after: family f has other kinds, and an arity more at a place
pub record Changes (a : Arrays) (f : ℕ) (kinds : List ℕ) (at s : ℕ) (b : Arrays) : Type 0 where
  pub loose : LooseAt a f
  pub families : b.families ≡ a.families
  pub kind_part : Replaces a.kind_ends b.kind_ends a.kinds b.kinds kinds a.families f (start_of a.kind_ends f) (get_or a.kind_ends f 0) (length kinds - (get_or a.kind_ends f 0 - start_of a.kind_ends f))
  pub group_part : Replaces a.ends b.ends a.arities b.arities (s ∷ []) a.families f (start_of a.ends f + at) (start_of a.ends f + at) 1

module _ (a : Arrays) (f : ℕ) (kinds : List ℕ) (at s : ℕ) (b : Arrays) (C : Changes a f kinds at s b) where
  abbrev by : ℕ
  by = length kinds - (get_or a.kind_ends f 0 - start_of a.kind_ends f)

  arities_other : (i : ℕ) → i < a.families → i ≢ f → arities_at b i ≡ arities_at a i
  arities_other = part_other C.group_part

  pub family_other : (i : ℕ) → i < a.families → i ≢ f → family_at [] b i ≡ family_at [] a i
  family_other i h ne =
      ap₂ (λ (ks ars : List ℕ). groups_from [] (start_of b.ends i) ks 0 ars) (part_other C.kind_part i h ne) (arities_other i h ne)
      ∙ no_counts_law (start_of b.ends i) (start_of a.ends i) (kinds_at a i) 0 (arities_at a i)

  kinds_here : kinds_at b f ≡ kinds
  kinds_here =
      part_here C.kind_part
      ∙ ap₂ (λ (p q : List ℕ). p ++ (kinds ++ q)) (between_none (start_of a.kind_ends f) a.kinds) (between_none (get_or a.kind_ends f 0) a.kinds)
      ∙ append-nil kinds

  arities_here : arities_at b f ≡ put_in at s (arities_at a f)
  arities_here = part_here C.group_part ∙ put_between a.arities (start_of a.ends f) (get_or a.ends f 0) at s C.group_part.high

  pub family_here : family_at [] b f ≡ groups_from [] 0 kinds 0 (put_in at s (arities_at a f))
  family_here =
      ap₂ (λ (ks ars : List ℕ). groups_from [] (start_of b.ends f) ks 0 ars) kinds_here arities_here
      ∙ no_counts_law (start_of b.ends f) 0 kinds 0 (put_in at s (arities_at a f))

  pub width_after : width_of b ≡ width_of a + by
  width_after = ap (start_of b.kind_ends) C.families ∙ total_after C.kind_part

  pub groups_after : group_count b ≡ group_count a + 1
  groups_after = ap (start_of b.ends) C.families ∙ total_after C.group_part

  formed_other : (i : ℕ) → i < a.families → i ≢ f → FamilyFormed b i
  formed_other i h ne =
      let o = C.loose.others i h ne in
      let size : get_or b.kind_ends i 0 - start_of b.kind_ends i ≡ get_or a.kind_ends i 0 - start_of a.kind_ends i = shifted C.kind_part i h ne (λ x y l. omega arith) (λ x y l. omega arith) in
      record {
        least = shifted C.kind_part i h ne (λ x y l. omega (arith, o.least)) (λ x y l. omega (arith, o.least));
        most = shifted C.kind_part i h ne (λ x y l. omega (arith, o.most)) (λ x y l. omega (arith, o.most));
        some = shifted C.group_part i h ne (λ x y l. omega (arith, o.some)) (λ x y l. omega (arith, o.some));
        rising = rw (size, arities_other i h ne) o.rising;
      }

  module _ (lo : 2 ≤ length kinds) (hi : length kinds ≤ MAX_GROUP_ARITY) (climbs : AritiesRising 1 (length kinds) (put_in at s (arities_at a f)))
      (room : width_of a + by ≤ MAX_KINDS) (set : KindSet (replaced a.kinds (start_of a.kind_ends f) (get_or a.kind_ends f 0) kinds (width_of a))) where
    formed_here : FamilyFormed b f
    formed_here =
        let st = start_low C.kind_part f (omega arith) in
        let en = end_here C.kind_part in
        let gst = start_low C.group_part f (omega arith) in
        let gen = end_here C.group_part in
        let size : get_or b.kind_ends f 0 - start_of b.kind_ends f ≡ length kinds = omega (arith, C.kind_part.size, C.kind_part.part) in
        record {
          least = omega (arith, C.kind_part.part);
          most = omega (arith, C.kind_part.part);
          some = omega (arith, C.loose.order f C.loose.inside);
          rising = rw (size, arities_here) climbs;
        }

    pub well_formed_after : WellFormed b
    well_formed_after =
        record {
          few = rw C.families C.loose.few;
          wide = omega (arith, width_after);
          many = omega (arith, groups_after, C.loose.many);
          kinds = rw (width_after, C.kind_part.front) set;
          family = λ i h. by-eq i f (λ e. rw e formed_here) (λ ne. formed_other i (rw C.families at h) ne);
        }

-- ---- what the code has

-- what `spread` leaves of the used front
pub spread_front : (d xs ys more : List ℕ) (k j w by : ℕ) → k ≤ j → j ≤ w → w ≤ length xs → k + length more ≡ j + by → Spread d (take w xs) k j more ys → take (w + by) ys ≡ replaced xs k j more w
spread_front d xs ys more k j w by kj jw l size s =
    let long : w + by ≡ k + length more + (length (take w xs) - j) = omega (arith, length-take-le w xs l) in
    ap (λ (n : ℕ). take n ys) long ∙ s.front
    ∙ ap₂ (λ (p q : List ℕ). p ++ (more ++ q)) (take-take k w xs (omega arith)) (sym (drop_take xs j w jw))

module _ (a : Arrays) (f : ℕ) (loose : LooseAt a f) (sized : ArraysSized a) where
  pub kind_inside : get_or a.kind_ends f 0 ≤ width_of a
  kind_inside = end_inside a.kind_ends a.families loose.kind_order f loose.inside

  pub group_inside : get_or a.ends f 0 ≤ group_count a
  group_inside = end_inside a.ends a.families loose.order f loose.inside

  -- the kinds fit, by pigeonhole
  pub kind_room : (kinds : List ℕ) → KindSet (replaced a.kinds (start_of a.kind_ends f) (get_or a.kind_ends f 0) kinds (width_of a))
      → start_of a.kind_ends f + length kinds + (width_of a - get_or a.kind_ends f 0) ≤ MAX_KINDS
  kind_room kinds set =
      let k = start_of a.kind_ends f in
      let e = get_or a.kind_ends f 0 in
      let o = loose.kind_order f loose.inside in
      let fits : width_of a ≤ length a.kinds = omega (arith, loose.wide, sized.kinds) in
      let kw = kind_inside in
      let l1 = length-append (take k a.kinds) (kinds ++ between e (width_of a) a.kinds) in
      let l2 = length-append kinds (between e (width_of a) a.kinds) in
      let l3 = length_between e (width_of a) a.kinds fits in
      let l4 = length-take-le k a.kinds (omega arith) in
      omega (arith, pigeon (replaced a.kinds k e kinds (width_of a)) set)

  -- the two spreads and the two raises, with k and g for where the family's kinds and groups start
  pub changes : (kinds : List ℕ) (at s : ℕ) (d ks' d' ars' kes' ges' : List ℕ) (k g : ℕ) → k ≡ start_of a.kind_ends f → g ≡ start_of a.ends f
      → get_or a.kind_ends f 0 ≤ start_of a.kind_ends f + length kinds → start_of a.ends f + at ≤ get_or a.ends f 0
      → Spread d (take (width_of a) a.kinds) k (get_or a.kind_ends f 0) kinds ks' → Spread d' (take (group_count a) a.arities) (g + at) (g + at) (s ∷ []) ars'
      → Raised a.kind_ends f a.families (length kinds - (get_or a.kind_ends f 0 - k)) kes' → Raised a.ends f a.families 1 ges'
      → Changes a f kinds at s (arrays_in ks' ars' kes' ges' a.families)
  changes kinds at s d ks' d' ars' kes' ges' k g ek eg more place sk sg rk rg =
      let o = loose.kind_order f loose.inside in
      let st = start_of a.kind_ends f in
      let p = start_of a.ends f + at in
      let by = length kinds - (get_or a.kind_ends f 0 - st) in
      let size : st + length kinds ≡ get_or a.kind_ends f 0 + by = omega arith in
      let kf : width_of a ≤ length a.kinds = omega (arith, loose.wide, sized.kinds) in
      let gf : group_count a ≤ length a.arities = omega (arith, loose.many, sized.arities) in
      record {
        loose = loose;
        families = refl;
        kind_part = record {
          inside = loose.inside;
          order = loose.kind_order;
          fits = kf;
          low = omega arith;
          part = o;
          high = omega arith;
          size = size;
          raised = rw ek at rk;
          front = spread_front d a.kinds ks' kinds st (get_or a.kind_ends f 0) (width_of a) by o kind_inside kf size (rw ek at sk);
        };
        group_part = record {
          inside = loose.inside;
          order = loose.order;
          fits = gf;
          low = omega arith;
          part = omega arith;
          high = place;
          size = refl;
          raised = rg;
          front = spread_front d' a.arities ars' (s ∷ []) p p (group_count a) 1 (omega arith) (omega (arith, group_inside)) gf refl (rw eg at sg);
        };
      }
