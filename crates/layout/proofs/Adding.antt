-- A group added to a well-formed layout: as a family of its own, or at its place in the one family that it shares kinds with. Assumes nothing.
use mathlib.Core.Path.{◌≡◌, refl, sym, ap, ap₂, ◌∙◌}
use mathlib.Core.Logic.{◌≢◌}
use mathlib.Core.Bool.{Bool, true, false}
use mathlib.Core.List.{List, [], ◌∷◌, ◌++◌}
use Prim.Native.Nat.{ℕ, zero, suc, ◌+◌, ◌-◌, ◌≤◌, ◌<◌}
use native.Mathlib.Omega.{arith}
use borrow.Author.Tests.{leb-true, leb-false}
use lib.Dec.{eqb, leb}
use lib.ListN.{length, get_or, take, set}
use lib.Seq.{get_or-set_same, get_or-set_other}
use Rattle.model.specs.Numbers.{MAX_GROUP_ARITY, MAX_GROUP_COUNT}
use Rattle.model.specs.Lists.{count_of}
use Rattle.model.proofs.ListLaws.{count_append}
use Rattle.model.specs.Model.{Family, new_group, mem, meets, without, kinds_of, groups_of, is_group, nested, chains, family_with, families_with}
use Rattle.model.proofs.BoolLaws.{bool_cases, by-eq, sum_once}
use Rattle.model.proofs.KindLists.{out_count, unmet, count_without, count_without_le}
use Rattle.model.proofs.Draft.{chains_largest}
use Rattle.words.specs.Part.{between}
use Rattle.words.specs.Table.{table}
use Rattle.words.proofs.Tables.{table_snoc, table_set}
use Rattle.layout.specs.Layout.{Arrays, start_of, width_of, group_count, kinds_at, arities_at, groups_from, family_at, KindSet, FamilyFormed, WellFormed}
use Rattle.layout.specs.ByValue.{arrays_of, ArraysSized, layout_meaning, Formed}
use Rattle.layout.specs.Grow.{LooseAt, replaced, put_in, merged_kinds, FillAsk, FillDone, opened_of, GroupKinds, FreshAsk, FreshDone, OntoAsk, OntoDone}
use Rattle.layout.specs.Fit.{place_in}
use Rattle.layout.specs.Add.{Fitting}
use Rattle.layout.specs.declared.group_layout.Fit.{Fit}
use Rattle.layout.specs.declared.group_layout.Layout.{Layout}
use Rattle.layout.proofs.Family.{rising_alone, from_alone, no_counts_law, start_next}
use Rattle.words.proofs.Part.{between_join, between_none}
use Rattle.layout.proofs.Inserting.{Inserts, inserts, merged_count, merged_length, merged_most, place_le, rising_one}
use Rattle.layout.proofs.Fits.{IsFresh, IsOnto, Target, target, untouched_at}
use Rattle.layout.proofs.Arrays

-- what a test for the most groups told

pub told_full : (m n : ℕ) (t : Bool) → t ≡ leb m n → t ≡ true → m ≤ n
told_full m n t e h = leb-true m n (sym e ∙ h)

pub told_room : (m n : ℕ) (t : Bool) → t ≡ leb m n → t ≡ false → n < m
told_room m n t e h = leb-false m n (sym e ∙ h)

-- staged kinds that fit, and room for a group
pub group_kinds : (l : Layout) (hs : List ℕ) (x : Fit) → Fitting l hs x → l.groups < MAX_GROUP_COUNT → GroupKinds l hs
group_kinds l hs x p g = record { formed = p.formed; room = omega (arith, g); staged = p.kinds; least = p.least; most = omega (arith, p.most) }

-- as many groups as the model counts
pub counted_groups : (l : Layout) → Formed l → ArraysSized (arrays_of l) → groups_of (layout_meaning l) ≡ l.groups
counted_groups l F z = Arrays.groups_of_law [] (arrays_of l) F.good z ∙ sym F.groups

-- ---- a family of its own

module _ (l : Layout) (hs : List ℕ) (ask : FreshAsk l hs) (sized : ArraysSized (arrays_of l)) where
  n : ℕ
  n = l.families

  abbrev now : Arrays
  now = arrays_of l

  abbrev opn : Arrays
  opn = arrays_of (opened_of l)

  good : WellFormed now
  good = ask.group.formed.good

  pub few : l.families < MAX_GROUP_COUNT
  few = omega (arith, Arrays.families_groups now good, ask.group.room, ask.group.formed.groups)

  in_kinds : l.families < length l.kind_ends
  in_kinds = omega (arith, few, sized.kind_ends)

  in_groups : l.families < length l.ends
  in_groups = omega (arith, few, sized.ends)

  start_same : (es : List ℕ) (v i : ℕ) → i ≤ l.families → start_of (set es l.families v) i ≡ start_of es i
  start_same es v zero h = refl
  start_same es v (suc i) h = get_or-set_other es l.families i v 0 (omega arith)

  end_same : (es : List ℕ) (v i : ℕ) → i < l.families → get_or (set es l.families v) i 0 ≡ get_or es i 0
  end_same es v i h = get_or-set_other es l.families i v 0 (omega arith)

  kinds_end : get_or opn.kind_ends l.families 0 ≡ l.width
  kinds_end = get_or-set_same l.kind_ends l.families l.width 0 in_kinds

  groups_end : get_or opn.ends l.families 0 ≡ l.groups
  groups_end = get_or-set_same l.ends l.families l.groups 0 in_groups

  kinds_start : start_of opn.kind_ends l.families ≡ l.width
  kinds_start = start_same l.kind_ends l.width l.families (omega arith) ∙ sym ask.group.formed.width

  groups_start : start_of opn.ends l.families ≡ l.groups
  groups_start = start_same l.ends l.groups l.families (omega arith) ∙ sym ask.group.formed.groups

  pub opn_width : width_of opn ≡ l.width
  opn_width = start_next opn.kind_ends l.families ∙ kinds_end

  pub opn_groups : group_count opn ≡ l.groups
  opn_groups = start_next opn.ends l.families ∙ groups_end

  no_arities : arities_at opn l.families ≡ []
  no_arities = ap₂ (λ (a b : ℕ). between a b l.arities) groups_start groups_end ∙ between_none l.groups l.arities

  order_opn : (es : List ℕ) (v : ℕ) → start_of es l.families ≡ v → l.families < length es → ((i : ℕ) → i < l.families → start_of es i ≤ get_or es i 0)
      → (i : ℕ) → i < l.families + 1 → start_of (set es l.families v) i ≤ get_or (set es l.families v) i 0
  order_opn es v e b o i h =
      by-eq i l.families
      (λ q. rw q (omega (arith, start_same es v l.families (omega arith), get_or-set_same es l.families v 0 b)))
      (λ q. omega (arith, start_same es v i (omega arith), end_same es v i (omega arith), o i (omega arith)))

  formed_opn : (i : ℕ) → i < l.families + 1 → i ≢ l.families → FamilyFormed opn i
  formed_opn i h ne =
      let f = good.family i (omega arith) in
      let s = start_same l.kind_ends l.width i (omega arith) in
      let e = end_same l.kind_ends l.width i (omega arith) in
      let gs = start_same l.ends l.groups i (omega arith) in
      let ge = end_same l.ends l.groups i (omega arith) in
      record {
        least = omega (arith, f.least);
        most = omega (arith, f.most);
        some = omega (arith, f.some);
        rising = rw (s, e, gs, ge) f.rising;
      }

  loose_opn : LooseAt opn l.families
  loose_opn =
      record {
        few = omega (arith, few);
        inside = omega arith;
        wide = omega (arith, opn_width, ask.group.formed.width, good.wide);
        many = omega (arith, opn_groups, ask.group.room);
        kind_order = order_opn l.kind_ends l.width (sym ask.group.formed.width) in_kinds (Arrays.kind_order_law now good);
        order = order_opn l.ends l.groups (sym ask.group.formed.groups) in_groups (Arrays.group_order now good);
        others = formed_opn;
      }

  kinds_opn : KindSet (replaced l.kinds l.width l.width hs l.width)
  kinds_opn =
      record {
        once = λ k. rw (counted k) (sum_once (count_of eqb k (take l.width l.kinds)) (count_of eqb k hs) (w.once k) (s.once k) (apart k));
        known = λ k h. omega (arith, counted k, s.known k h, w.known k h);
      }
    where
      s : KindSet hs
      s = ask.group.staged

      w : KindSet (take l.width l.kinds)
      w = rw ask.group.formed.width good.kinds

      counted : (k : ℕ) → count_of eqb k (replaced l.kinds l.width l.width hs l.width) ≡ count_of eqb k (take l.width l.kinds) + count_of eqb k hs
      counted k =
          count_append eqb k (take l.width l.kinds) (hs ++ between l.width l.width l.kinds)
          ∙ omega (arith, count_append eqb k hs (between l.width l.width l.kinds), ap (count_of eqb k) (between_none l.width l.kinds))

      apart : (k : ℕ) → 1 ≤ count_of eqb k hs → count_of eqb k (take l.width l.kinds) ≡ 0
      apart k h = rw ask.group.formed.width (ask.unknown k h)

  pub fresh_places : FillAsk (opened_of l) l.families hs 0 (length hs)
  fresh_places =
      record {
        loose = loose_opn;
        width = sym opn_width;
        groups = sym opn_groups;
        kind_set = rw (kinds_start, kinds_end, opn_width) kinds_opn;
        more = omega (arith, kinds_end, kinds_start);
        least = ask.group.least;
        most = ask.group.most;
        place = omega (arith, groups_end, groups_start);
        rising = rw no_arities (rising_alone (length hs) ask.group.least);
      }

  same_family : (i : ℕ) → i < l.families → family_at [] opn i ≡ family_at [] now i
  same_family i h =
      let s = start_same l.kind_ends l.width i (omega arith) in
      let e = end_same l.kind_ends l.width i (omega arith) in
      let gs = start_same l.ends l.groups i (omega arith) in
      let ge = end_same l.ends l.groups i (omega arith) in
      rw (s, e, gs, ge)

  pub fresh_done : (r : Layout) → FillDone (opened_of l) l.families hs 0 (length hs) r → FreshDone l hs r
  fresh_done r x =
      record {
        formed = x.formed;
        means =
            ap (λ (m : ℕ). table m (family_at [] (arrays_of r))) x.families
            ∙ table_snoc [] (new_group hs ∷ []) l.families (family_at [] now) (family_at [] (arrays_of r))
            (x.here ∙ ap (λ (ars : List ℕ). groups_from [] 0 hs 0 (put_in 0 (length hs) ars)) no_arities ∙ from_alone 0 hs)
            (λ i h. x.others i (omega arith) (omega arith) ∙ same_family i h);
      }

-- ---- at a place in a family

module _ (l : Layout) (f at : ℕ) (hs : List ℕ) (ask : OntoAsk l f at hs) (sized : ArraysSized (arrays_of l)) where
  abbrev has : Arrays
  has = arrays_of l

  well : WellFormed has
  well = ask.group.formed.good

  abbrev own : List ℕ
  own = kinds_at has f

  abbrev lacks : List ℕ
  lacks = without hs own

  abbrev all : List ℕ
  all = merged_kinds own hs

  abbrev st : ℕ
  st = start_of l.kind_ends f

  abbrev en : ℕ
  en = get_or l.kind_ends f 0

  own_set : KindSet own
  own_set = Arrays.family_kinds has well f ask.inside

  pub own_length : length own ≡ en - st
  own_length = Arrays.kinds_length has well sized f ask.inside

  own_groups : length (family_at [] has f) ≡ get_or l.ends f 0 - start_of l.ends f
  own_groups = Arrays.groups_length [] (start_of l.ends f) own 0 (arities_at has f) ∙ Arrays.arities_length has well sized f ask.inside

  -- the groups with the staged kinds among them
  put : Inserts own hs own_set ask.group.staged (start_of l.ends f) 0 (arities_at has f) []
  put = inserts own hs own_set ask.group.staged (start_of l.ends f) 0 (arities_at has f) [] refl (Arrays.family_rising has well sized f ask.inside) refl (omega (arith, ask.group.least)) ask.chain ask.other

  pub all_most : length all ≤ MAX_GROUP_ARITY
  all_most =
      merged_most own hs own_set ask.group.staged MAX_GROUP_ARITY
      (ap (λ (ks : List ℕ). nested ks hs) (sym (Arrays.family_kinds_of_law has well sized [] f ask.inside)) ∙ chains_largest hs [] (family_at [] has f) (omega (arith, own_groups, (well.family f ask.inside).some)) ask.chain)
      (omega (arith, own_length, (well.family f ask.inside).most)) ask.group.most

  all_length : length all ≡ length own + length lacks
  all_length = merged_length own hs own_set ask.group.staged

  replaced_count : (k : ℕ) → count_of eqb k (replaced l.kinds st en all (width_of has)) ≡ count_of eqb k (take (width_of has) l.kinds) + count_of eqb k lacks
  replaced_count k =
      let c1 = count_append eqb k (take st l.kinds) (all ++ between en (width_of has) l.kinds) in
      let c2 = count_append eqb k all (between en (width_of has) l.kinds) in
      let c3 = count_append eqb k (take en l.kinds) (between en (width_of has) l.kinds) in
      let c4 = ap (count_of eqb k) (between_join l.kinds en (width_of has) (Arrays.kinds_inside has well f ask.inside)) in
      let c5 = count_append eqb k (take st l.kinds) own in
      let c6 = ap (count_of eqb k) (between_join l.kinds st en (Arrays.kind_order_law has well f ask.inside)) in
      omega (arith, merged_count own hs own_set ask.group.staged k)

  replaced_set : KindSet (replaced l.kinds st en all (width_of has))
  replaced_set =
      record {
        once = λ k. rw (replaced_count k) (sum_once (count_of eqb k (take (width_of has) l.kinds)) (count_of eqb k lacks) (well.kinds.once k) (omega (arith, ask.group.staged.once k, count_without_le hs own k)) (ask.unknown k));
        known = λ k h. omega (arith, replaced_count k, well.kinds.known k h, ask.group.staged.known k h, count_without_le hs own k);
      }

  pub onto_places : FillAsk l f all at (length hs)
  onto_places =
      let size = Arrays.kind_order_law has well f ask.inside in
      let order = Arrays.group_order has well f ask.inside in
      let few : at ≤ length (family_at [] has f) = rw ask.place (place_le hs [] (family_at [] has f)) in
      record {
        loose = record {
          few = well.few;
          inside = ask.inside;
          wide = well.wide;
          many = omega (arith, ask.group.room, ask.group.formed.groups);
          kind_order = Arrays.kind_order_law has well;
          order = Arrays.group_order has well;
          others = λ i h ne. well.family i h;
        };
        width = ask.group.formed.width;
        groups = ask.group.formed.groups;
        kind_set = replaced_set;
        more = omega (arith, all_length, own_length);
        least = omega (arith, all_length, own_length, (well.family f ask.inside).least);
        most = all_most;
        place = omega (arith, own_groups);
        rising = rw ask.place (rising_one (length all) (en - st) (place_in hs [] (family_at [] has f)) (length hs) (arities_at has f) ask.group.least (well.family f ask.inside).rising put.rising);
      }

  pub onto_done : (r : Layout) → FillDone l f all at (length hs) r → OntoDone l f hs r
  onto_done r x =
      record {
        formed = x.formed;
        means =
            ap (λ (m : ℕ). table m (family_at [] (arrays_of r))) x.families
            ∙ table_set [] (family_with hs [] (family_at [] has f)) l.families (family_at [] has) (family_at [] (arrays_of r)) f ask.inside
            (x.here ∙ ap (λ (p : ℕ). groups_from [] 0 all 0 (put_in p (length hs) (arities_at has f))) ask.place
            ∙ no_counts_law 0 (start_of l.ends f) all 0 (put_in (place_in hs [] (family_at [] has f)) (length hs) (arities_at has f)) ∙ put.same)
            (λ i h ne. x.others i h ne);
      }

-- ---- what the model's rule says of the arrays

module _ (l : Layout) (hs : List ℕ) (group : GroupKinds l hs) (sized : ArraysSized (arrays_of l)) where
  fine : WellFormed (arrays_of l)
  fine = group.formed.good

  unmet_at : (i : ℕ) → i < l.families → meets hs (kinds_of (get_or (layout_meaning l) i [])) ≡ false → (k : ℕ) → 1 ≤ count_of eqb k hs → count_of eqb k (kinds_at (arrays_of l) i) ≡ 0
  unmet_at i h m k c =
      unmet hs (kinds_at (arrays_of l) i) k
      (ap (meets hs) (sym (ap kinds_of (Arrays.families_at [] (arrays_of l) i h) ∙ Arrays.family_kinds_of_law (arrays_of l) fine sized [] i h)) ∙ m) c

  counted_length : length (layout_meaning l) ≡ l.families
  counted_length = Arrays.families_length [] (arrays_of l)

  pub fresh_ask : IsFresh hs (layout_meaning l) → FreshAsk l hs
  fresh_ask s =
      record {
        group = group;
        unknown = λ k c. Arrays.in_no_family k l.kind_ends l.kinds l.families (Arrays.kind_order_law (arrays_of l) fine)
            (λ i h. unmet_at i h (untouched_at hs (layout_meaning l) s.none i (omega (arith, counted_length))) k c);
      }

  module _ (f at : ℕ) (t : Target hs (layout_meaning l) f at) where
    inside : f < l.families
    inside = omega (arith, t.inside, counted_length)

    family : get_or (layout_meaning l) f [] ≡ family_at [] (arrays_of l) f
    family = Arrays.families_at [] (arrays_of l) f inside

    pub onto_ask : OntoAsk l f at hs
    onto_ask =
        record {
          group = group;
          inside = inside;
          chain = ap (chains hs []) (sym family) ∙ t.chain;
          other = ap (is_group hs []) (sym family) ∙ t.other;
          place = t.place ∙ ap (place_in hs []) family;
          unknown = λ k c. Arrays.in_no_family k l.kind_ends l.kinds l.families (Arrays.kind_order_law (arrays_of l) fine)
              (λ i h. by-eq i f (λ e. rw e (own_none k c)) (λ ne. unmet_at i h (t.others i (omega (arith, counted_length)) ne) k (omega (arith, count_without_le hs (kinds_at (arrays_of l) f) k))));
        }
      where
        own_none : (k : ℕ) → 1 ≤ count_of eqb k (without hs (kinds_at (arrays_of l) f)) → count_of eqb k (kinds_at (arrays_of l) f) ≡ 0
        own_none k c =
            out_count (kinds_at (arrays_of l) f) k
            (bool_cases (mem k (kinds_at (arrays_of l) f)) (λ m. absurd (omega (arith, rw m at (count_without hs (kinds_at (arrays_of l) f) k)))) (λ m. m))

    pub onto_means : set (layout_meaning l) f (family_with hs [] (family_at [] (arrays_of l) f)) ≡ families_with hs (layout_meaning l)
    onto_means = ap (λ (x : Family). set (layout_meaning l) f (family_with hs [] x)) (sym family) ∙ sym t.places

pub onto_target : (hs : List ℕ) (fs : List Family) (f at : ℕ) → IsOnto hs fs f at → Target hs fs f at
onto_target hs fs f at s = rw (s.first, s.place) (target hs fs s.alone s.chain s.absent)
