-- What the infos describe: of one kind, of two together, of a query with one kind more; and that their groups stand in the arrays. Assumes nothing.
use mathlib.Core.Path.{◌≡◌, refl, sym, ap, ap₂, ◌∙◌, subst}
use mathlib.Core.Logic.{◌≢◌}
use mathlib.Core.Bool.{Bool, true, false, ◌&&◌, ◌||◌, true≢false, or-true, and-or_distrib_left}
use mathlib.Core.List.{List, [], ◌∷◌, ◌++◌}
use Prim.Native.Nat.{ℕ, ◌+◌, ◌-◌, ◌≤◌, ◌<◌}
use native.Mathlib.Nat.{sub-zero}
use native.Mathlib.Decide.{dec_lt, dec_le}
use native.Mathlib.Omega.{arith}
use borrow.Author.Tests.{eq-eqb, ne_eqb, lt-ltb, le-ltb}
use lib.Dec.{eqb, ltb}
use lib.ListN.{length, get_or, take, length-append}
use Rattle.std.specs.Prelude.{Option, Some, None}
use Rattle.model.specs.Model.{Storage, mem, within}
use Rattle.model.proofs.KindLists.{mem_append, all_in, mem_take_le, in_one}
use Rattle.model.proofs.BoolLaws.{or_cases, not_true, by-eq}
use Rattle.masks.specs.Masks.{has, bits_of}
use Rattle.words.proofs.Part.{between_in}
use Rattle.masks.proofs.Lists.{has_union, has_one}
use Rattle.layout.specs.Layout.{Arrays, start_of, kinds_at, arities_at, KindSet, WellFormed}
use Rattle.layout.specs.ByValue.{ArraysSized}
use Rattle.layout.proofs.Family.{rising_at, rising_less}
use Rattle.layout.proofs.Arrays.{groups_inside, family_kinds, family_rising, arities_length}
use Rattle.group_info.specs.Info.{places_of, info_of, KindInfo, Joined, Both, BothAdded, ViewAdded, GroupsInside, InsideFound}
use Rattle.group_info.specs.Describes.{Placed, GroupedKinds, Ungrouped, InfoOfKind, ViewOf, DescribesQuery, Scattered, InfoOfKinds}
use Rattle.group_info.specs.declared.GroupInfo.{GroupInfo}
use Rattle.group_info.specs.declared.ViewGroupInfo.{ViewGroupInfo}
use Rattle.group_info.specs.declared.QueryGroupInfo.{QueryGroupInfo}
use Rattle.group_info.proofs.Places.{place_of, place_at, mem_part}
use Rattle.group_info.proofs.Families.{elsewhere}
use Rattle.group_info.proofs.Ranges.{same_family, in_kinds_law, few_kinds, arity_of_law}
use Rattle.group_info.specs.declared.QueryGroupInfo.TheVariants as query

module _ (a : Arrays) (good : WellFormed a) (sized : ArraysSized a) where
  -- ---- one kind

  pub of_kind : (k f own place : ℕ) (r : GroupInfo) → Placed a k f own place → KindInfo (start_of a.ends f) (start_of a.ends f + own) place r → InfoOfKinds a f (k ∷ []) r
  of_kind k f own place r p i =
      record {
        own = own;
        top = k;
        inside = p.inside;
        group = p.group;
        first = i.first;
        last = i.last;
        below = λ x m. rw (in_one x k m) (ap (λ (y : ℕ). mem y (take hi ks)) (sym p.kind) ∙ ap (λ (n : ℕ). mem (get_or ks place 0) (take n ks)) (sym (sub-zero hi)) ∙ between_in 0 hi place ks (omega arith) p.below in_ks);
        top_in = rw (eq-eqb k k refl);
        top_new = not_true (mem k (take lo ks)) new;
        places = at;
      }
    where
      ks : List ℕ
      ks = kinds_at a f

      lo : ℕ
      lo = start_of (arities_at a f) own

      hi : ℕ
      hi = get_or (arities_at a f) own 0

      s : KindSet (kinds_at a f)
      s = family_kinds a good f p.inside

      in_ks : hi ≤ length (kinds_at a f)
      in_ks = rising_at 0 (length (kinds_at a f)) (arities_at a f) own (family_rising a good sized f p.inside) p.group

      own_place : place_of k (kinds_at a f) ≡ place
      own_place = ap (λ (y : ℕ). place_of y (kinds_at a f)) (sym p.kind) ∙ place_at (kinds_at a f) s place (omega (arith, p.below, in_ks))

      new : mem k (take lo (kinds_at a f)) ≡ true → ⊥
      new t =
          let x = mem_part (kinds_at a f) s 0 lo (omega arith) (omega (arith, p.before, p.below, in_ks)) k (ap (λ (n : ℕ). mem k (take n (kinds_at a f))) (sub-zero lo) ∙ t) in
          omega (arith, x.high, own_place, p.before)

      at : (q : ℕ) → q < 16 → has q (bits_of 16 r.storage_mask.0) ≡ (ltb q (length (kinds_at a f)) && mem (get_or (kinds_at a f) q 0) (k ∷ []))
      at q h = ap (has q) i.places ∙ has_one q place ∙ by-eq q place same other
        where
          same : q ≡ place → eqb q place ≡ (ltb q (length (kinds_at a f)) && mem (get_or (kinds_at a f) q 0) (k ∷ []))
          same e = rw (e, eq-eqb place place refl, lt-ltb place (length (kinds_at a f)) (omega (arith, p.below, in_ks)), p.kind, eq-eqb k k refl)

          other : (q ≡ place → ⊥) → eqb q place ≡ (ltb q (length (kinds_at a f)) && mem (get_or (kinds_at a f) q 0) (k ∷ []))
          other ne =
              ne_eqb q place ne
              ∙ sym (elim (dec_lt q (length (kinds_at a f))) [
                | yes l ↦ rw (lt-ltb q (length (kinds_at a f)) l) (not_true (mem (get_or (kinds_at a f) q 0) (k ∷ [])) (λ t. ne (sym (place_at (kinds_at a f) s q l) ∙ ap (λ (y : ℕ). place_of y (kinds_at a f)) (in_one (get_or (kinds_at a f) q 0) k t) ∙ own_place)))
                | no l ↦ rw (le-ltb q (length (kinds_at a f)) (omega arith))
              ])

  -- ---- two together

  arity_le : (f i j : ℕ) → f < a.families → i ≤ j → j < length (arities_at a f) → get_or (arities_at a f) i 0 ≤ get_or (arities_at a f) j 0
  arity_le f i j h l b =
      by-eq i j (λ e. rw e (omega arith)) (λ ne. omega (arith, rising_less 0 (length (kinds_at a f)) (arities_at a f) i j (family_rising a good sized f h) (omega arith) b))

  pub joined_kinds : (f : ℕ) (hs js : List ℕ) (i j r : GroupInfo) → InfoOfKinds a f hs i → InfoOfKinds a f js j → Joined i j r → InfoOfKinds a f (hs ++ js) r
  joined_kinds f hs js i j r x y w = elim (dec_le x.own y.own) [ yes l ↦ later l | no l ↦ earlier (omega arith) ]
    where
      places : (p : ℕ) → p < 16 → has p (places_of r) ≡ (ltb p (length (kinds_at a f)) && mem (get_or (kinds_at a f) p 0) (hs ++ js))
      places p h =
          ap (has p) w.places ∙ has_union 16 p (places_of i) (places_of j) h ∙ ap₂ ◌||◌ (x.places p h) (y.places p h)
          ∙ sym (and-or_distrib_left (ltb p (length (kinds_at a f))) (mem (get_or (kinds_at a f) p 0) hs) (mem (get_or (kinds_at a f) p 0) js))
          ∙ ap (λ (t : Bool). ltb p (length (kinds_at a f)) && t) (sym (mem_append (get_or (kinds_at a f) p 0) hs js))

      below : (m : ℕ) → x.own ≤ m → y.own ≤ m → m < length (arities_at a f) → (k : ℕ) → mem k (hs ++ js) ≡ true → mem k (take (get_or (arities_at a f) m 0) (kinds_at a f)) ≡ true
      below m p q b k t =
          or_cases (mem k hs) (mem k js) (sym (mem_append k hs js) ∙ t)
          (λ u. mem_take_le k (kinds_at a f) (get_or (arities_at a f) x.own 0) (get_or (arities_at a f) m 0) (arity_le f x.own m x.inside p b) (x.below k u))
          (λ u. mem_take_le k (kinds_at a f) (get_or (arities_at a f) y.own 0) (get_or (arities_at a f) m 0) (arity_le f y.own m x.inside q b) (y.below k u))

      later : x.own ≤ y.own → InfoOfKinds a f (hs ++ js) r
      later l =
          record {
            own = y.own;
            top = y.top;
            inside = x.inside;
            group = y.group;
            first = w.first ∙ x.first;
            last = omega (arith, w.last, x.last, y.last);
            below = below y.own l (omega arith) y.group;
            top_in = mem_append y.top hs js ∙ rw y.top_in (or-true (mem y.top hs));
            top_new = y.top_new;
            places = places;
          }

      earlier : y.own ≤ x.own → InfoOfKinds a f (hs ++ js) r
      earlier l =
          record {
            own = x.own;
            top = x.top;
            inside = x.inside;
            group = x.group;
            first = w.first ∙ x.first;
            last = omega (arith, w.last, x.last, y.last);
            below = below x.own (omega arith) l x.group;
            top_in = mem_append x.top hs js ∙ rw x.top_in;
            top_new = x.top_new;
            places = places;
          }

  -- ---- a query with one kind more

  outside : (hs js : List ℕ) (f k : ℕ) → mem k (hs ++ js) ≡ true → mem k (kinds_at a f) ≡ false → within (hs ++ js) (kinds_at a f) ≡ false
  outside hs js f k m n = not_true (within (hs ++ js) (kinds_at a f)) (λ t. true≢false (sym (all_in (λ z. mem z (kinds_at a f)) (hs ++ js) t k m) ∙ n))

  -- what a query's info says of its kinds, where it has one kind or more
  abbrev Holds : List ℕ → Option GroupInfo → Type 0
  Holds hs (Some i) = GroupedKinds a hs i
  Holds hs None = (k : ℕ) × (mem k hs ≡ true) × Ungrouped a k

  left_in : (k : ℕ) (hs js : List ℕ) → mem k hs ≡ true → mem k (hs ++ js) ≡ true
  left_in k hs js m = mem_append k hs js ∙ rw m

  right_in : (k : ℕ) (hs js : List ℕ) → mem k js ≡ true → mem k (hs ++ js) ≡ true
  right_in k hs js m = mem_append k hs js ∙ rw m (or-true (mem k hs))

  both_scatter : (hs js : List ℕ) (p q : Option GroupInfo) → 2 ≤ length (hs ++ js) → Holds hs p → Holds js q
      → ((i j : GroupInfo) → p ≡ Some i → q ≡ Some j → i.group_start ≢ j.group_start) → Scattered a (hs ++ js)
  both_scatter hs js None q l x y n = record { many = l; nowhere = λ f h. outside hs js f x.0 (left_in x.0 hs js x.1) (x.2 f h) }
  both_scatter hs js (Some i) None l x y n = record { many = l; nowhere = λ f h. outside hs js f y.0 (right_in y.0 hs js y.1) (y.2 f h) }
  both_scatter hs js (Some i) (Some j) l x y n =
      record {
        many = l;
        nowhere = λ f h. by-eq f x.family
            (λ e. by-eq f y.family
            (λ d. absurd (n i j refl refl (x.kinds.first ∙ ap (start_of a.ends) (sym e ∙ d) ∙ sym y.kinds.first)))
            (λ d. outside hs js f y.kinds.top (right_in y.kinds.top hs js y.kinds.top_in) (elsewhere a good y.kinds.top y.family f y.kinds.inside h d (in_kinds_law a good sized y.family js j y.kinds y.kinds.top y.kinds.top_in))))
            (λ d. outside hs js f x.kinds.top (left_in x.kinds.top hs js x.kinds.top_in) (elsewhere a good x.kinds.top x.family f x.kinds.inside h d (in_kinds_law a good sized x.family hs i x.kinds x.kinds.top x.kinds.top_in)));
      }

  both_join : (hs js : List ℕ) (p q : Option GroupInfo) (r : GroupInfo) → Holds hs p → Holds js q → Both p q r → GroupedKinds a (hs ++ js) r
  both_join hs js p q r x y w =
      let x' : GroupedKinds a hs w.left = subst (Holds hs) w.is_left x in
      let y' : GroupedKinds a js w.right = subst (Holds js) w.is_right y in
      let same : y'.family ≡ x'.family = same_family a good sized y'.family x'.family y'.kinds.inside x'.kinds.inside (sym y'.kinds.first ∙ sym w.joined.same ∙ x'.kinds.first) in
      record { family = x'.family; kinds = joined_kinds x'.family hs js w.left w.right r x'.kinds (subst (λ (f : ℕ). InfoOfKinds a f js w.right) same y'.kinds) w.joined }

  of_view : (k : ℕ) (x : Option GroupInfo) → InfoOfKind a k x → Holds (k ∷ []) x
  of_view k (Some i) g = g
  of_view k None u = (k, rw (eq-eqb k k refl), u)

  module _ (s : Storage) where
    -- what became of the query
    abbrev Next : List ℕ → Option QueryGroupInfo → Type 0
    Next hs (Some q) = DescribesQuery a s hs q
    Next hs None = Scattered a hs

    next_both : (hs : List ℕ) (k : ℕ) (p q : Option GroupInfo) (r : Option QueryGroupInfo) → 1 ≤ length hs → Holds hs p → Holds (k ∷ []) q → BothAdded p q r → Next (hs ++ (k ∷ [])) r
    next_both hs k p q (Some query.Empty) l x y w = absurd w
    next_both hs k p q (Some (query.One v)) l x y w = absurd w
    next_both hs k p q (Some (query.Many i)) l x y w = record { many = omega (arith, length-append hs (k ∷ [])); grouped = both_join hs (k ∷ []) p q i x y w }
    next_both hs k p q None l x y w = both_scatter hs (k ∷ []) p q (omega (arith, length-append hs (k ∷ []))) x y w

    pub describes_more : (hs : List ℕ) (k : ℕ) (q : QueryGroupInfo) (v : ViewGroupInfo) (r : Option QueryGroupInfo) → DescribesQuery a s hs q → ViewOf a s k v → ViewAdded q v r → Next (hs ++ (k ∷ [])) r
    describes_more hs k query.Empty v r d x w =
        subst (Next (hs ++ (k ∷ []))) (sym w) (record { kind = k; alone = ap (λ (l : List ℕ). l ++ (k ∷ [])) d; view = x })
    describes_more hs k (query.One u) v r d x w =
        next_both hs k u.info v.info r (omega (arith, ap length d.alone)) (subst (λ (l : List ℕ). Holds l u.info) (sym d.alone) (of_view d.kind u.info d.view.grouping)) (of_view k v.info x.grouping) w
    describes_more hs k (query.Many i) v r d x w = next_both hs k (Some i) v.info r (omega (arith, d.many)) d.grouped (of_view k v.info x.grouping) w

    -- ---- its groups stand in the arrays

    inside : (f : ℕ) (hs : List ℕ) (i : GroupInfo) → InfoOfKinds a f hs i → GroupsInside a.arities i
    inside f hs i x =
        let len = arities_length a good sized f x.inside in
        let top = groups_inside a good f x.inside in
        record {
          low = omega (arith, x.first, x.last);
          high = omega (arith, x.last, x.group, good.many, (good.family f x.inside).some);
          small = λ g l h. omega (arith, at g l h, rising_at 0 (length (kinds_at a f)) (arities_at a f) (g - start_of a.ends f) (family_rising a good sized f x.inside) (local g l h), few_kinds a good sized f x.inside);
          rising = λ g l h. omega (
            arith,
            at g (omega arith) h,
            at (g - 1) (omega arith) (omega arith),
            arity_le f (g - 1 - start_of a.ends f) (g - start_of a.ends f) x.inside (omega arith) (local g (omega arith) h),
          );
        }
      where
        local : (g : ℕ) → i.group_start ≤ g → g < i.group_end → g - start_of a.ends f < length (arities_at a f)
        local g l h = omega (arith, x.first, x.last, x.group)

        at : (g : ℕ) → i.group_start ≤ g → g < i.group_end → get_or a.arities g 0 ≡ get_or (arities_at a f) (g - start_of a.ends f) 0
        at g l h =
            let e : start_of a.ends f + (g - start_of a.ends f) ≡ g = omega (arith, x.first) in
            ap (λ (m : ℕ). get_or a.arities m 0) (sym e) ∙ arity_of_law a good sized f (g - start_of a.ends f) x.inside (local g l h)

    inside_kind : (k : ℕ) (x : Option GroupInfo) → InfoOfKind a k x → InsideFound a.arities x
    inside_kind k (Some i) g = inside g.family (k ∷ []) i g.kinds
    inside_kind k None u = tt

    -- what `group_range` asks of a query that describes kinds
    pub describes_inside : (hs : List ℕ) (q : QueryGroupInfo) → DescribesQuery a s hs q → InsideFound a.arities (info_of q)
    describes_inside hs query.Empty d = tt
    describes_inside hs (query.One v) d = inside_kind d.kind v.info d.view.grouping
    describes_inside hs (query.Many i) d = inside d.grouped.family hs i d.grouped.kinds
