-- The arrays of a well-formed layout: where families stand, and that their meaning is theirs. Assumes nothing.
use mathlib.Core.Path.{◌≡◌, refl, sym, ap, ◌∙◌, subst, ap₂}
use mathlib.Core.List.{List, [], ◌∷◌, ◌++◌, append-nil}
use Prim.Native.Nat.{ℕ, zero, suc, ◌+◌, ◌-◌, ◌≤◌, ◌<◌}
use native.Mathlib.Nat.{add_assoc}
use native.Mathlib.Numerals.{add-one}
use native.Mathlib.Omega.{arith}
use lib.Dec.{eqb}
use lib.ListN.{length, get_or, take, drop, drop_of_length-le}
use lib.Seq.{take-take}
use Rattle.model.specs.Numbers.{MAX_GROUP_COUNT, MAX_KINDS}
use Rattle.words.specs.Offsets.{ARITIES, BLOCK_LEN, ENDS, KIND_ENDS}
use Rattle.model.specs.Lists.{count_of}
use Rattle.model.proofs.ListLaws.{count_append, drop_step}
use Rattle.model.specs.Model.{Family, kinds_of, groups_of}
use Rattle.model.specs.Sound.{layout_kinds}
use Rattle.words.specs.Part.{between}
use Rattle.words.proofs.Part.{length_between, between_front, between_join, get_d_between}
use Rattle.words.specs.Table.{table}
use Rattle.words.proofs.Tables.{length_table, get_d_table, table_snoc, table_none}
use Rattle.model.proofs.BoolLaws.{by-eq}
use Rattle.model.proofs.Draft.{kinds_append, groups_append}
use Rattle.layout.specs.Layout.{Arrays, start_of, width_of, group_count, kinds_at, arities_at, groups_from, family_at, families_of, KindSet, AritiesRising, WellFormed, block_arrays}
use Rattle.layout.specs.ByValue.{ArraysSized}
use Rattle.layout.specs.Fit.{part_of, join_fit, fit_from, FamilyAsk}
use Rattle.layout.specs.declared.group_layout.Fit.{Fit}
use Rattle.layout.proofs.KindSets.{set_between}
use Rattle.layout.proofs.Family.{rising_zero, kinds_from_law, no_counts_law}

pub block_sized : (w : List ℕ) (n : ℕ) → length w ≡ BLOCK_LEN → ArraysSized (block_arrays w n)
block_sized w n e =
    record {
      kinds = length_between 0 ARITIES w (omega arith);
      arities = length_between ARITIES KIND_ENDS w (omega arith);
      kind_ends = length_between KIND_ENDS ENDS w (omega arith);
      ends = length_between ENDS BLOCK_LEN w (omega arith);
    }

-- element i of the array from o to e, of the block at b
pub block_at : (b : ℕ) (w : List ℕ) (o e i : ℕ) → o + i < e → e ≤ BLOCK_LEN → get_or (between o e (between b (b + BLOCK_LEN) w)) i 0 ≡ get_or w (b + o + i) 0
block_at b w o e i h l =
    get_d_between o e i (between b (b + BLOCK_LEN) w) 0 h ∙ get_d_between b (b + BLOCK_LEN) (o + i) w 0 (omega arith) ∙ ap (λ (n : ℕ). get_or w n 0) (sym (add_assoc b o i))

-- ---- ends that rise

pub ends_rise : (es : List ℕ) (n : ℕ) → ((i : ℕ) → i < n → start_of es i ≤ get_or es i 0) → (i : ℕ) → i ≤ n → start_of es i ≤ start_of es n
ends_rise es zero o i h = let e : i ≡ 0 = omega arith in rw e (omega arith)
ends_rise es (suc n) o i h =
    by-eq i (suc n) (λ e. rw e (omega arith))
    (λ ne. omega (arith, ends_rise es n (λ j l. o j (omega arith)) i (omega arith), o n (omega arith)))

pub end_inside : (es : List ℕ) (n : ℕ) → ((i : ℕ) → i < n → start_of es i ≤ get_or es i 0) → (i : ℕ) → i < n → get_or es i 0 ≤ start_of es n
end_inside es n o i h = ends_rise es n o (suc i) h

-- where each is one or more, there are no more of them than the last end says
pub ends_count : (es : List ℕ) (n : ℕ) → ((i : ℕ) → i < n → start_of es i < get_or es i 0) → n ≤ start_of es n
ends_count es zero o = omega arith
ends_count es (suc n) o = omega (arith, ends_count es n (λ j l. o j (omega arith)), o n (omega arith))

-- a kind in none of the families is in no front of the kinds
pub in_no_family : (k : ℕ) (es ks : List ℕ) (n : ℕ) → ((i : ℕ) → i < n → start_of es i ≤ get_or es i 0)
    → ((i : ℕ) → i < n → count_of eqb k (between (start_of es i) (get_or es i 0) ks) ≡ 0) → count_of eqb k (take (start_of es n) ks) ≡ 0
in_no_family k es ks zero o h = refl
in_no_family k es ks (suc n) o h =
    let e = between_join ks (start_of es n) (get_or es n 0) (o n (omega arith)) in
    sym (ap (count_of eqb k) e) ∙ count_append eqb k (take (start_of es n) ks) (between (start_of es n) (get_or es n 0) ks)
    ∙ omega (arith, in_no_family k es ks n (λ i l. o i (omega arith)) (λ i l. h i (omega arith)), h n (omega arith))

-- ---- a well-formed layout

module _ (a : Arrays) (good : WellFormed a) where
  pub kind_order_law : (i : ℕ) → i < a.families → start_of a.kind_ends i ≤ get_or a.kind_ends i 0
  kind_order_law i h = omega (arith, (good.family i h).least)

  pub group_order : (i : ℕ) → i < a.families → start_of a.ends i ≤ get_or a.ends i 0
  group_order i h = omega (arith, (good.family i h).some)

  pub kinds_inside : (i : ℕ) → i < a.families → get_or a.kind_ends i 0 ≤ width_of a
  kinds_inside i h = end_inside a.kind_ends a.families kind_order_law i h

  pub groups_inside : (i : ℕ) → i < a.families → get_or a.ends i 0 ≤ group_count a
  groups_inside i h = end_inside a.ends a.families group_order i h

  pub families_groups : a.families ≤ group_count a
  families_groups = ends_count a.ends a.families (λ i h. (good.family i h).some)

  pub family_kinds : (i : ℕ) → i < a.families → KindSet (kinds_at a i)
  family_kinds i h =
      subst KindSet
      (sym (between_front (width_of a) (start_of a.kind_ends i) (get_or a.kind_ends i 0) (take (width_of a) a.kinds) a.kinds (kinds_inside i h) (sym (take-take (width_of a) (width_of a) a.kinds (omega arith)))))
      (set_between (start_of a.kind_ends i) (get_or a.kind_ends i 0) (take (width_of a) a.kinds) good.kinds)

  module _ (sized : ArraysSized a) where
    pub kinds_length : (i : ℕ) → i < a.families → length (kinds_at a i) ≡ get_or a.kind_ends i 0 - start_of a.kind_ends i
    kinds_length i h =
        length_between (start_of a.kind_ends i) (get_or a.kind_ends i 0) a.kinds (omega (arith, kinds_inside i h, good.wide, sized.kinds))

    pub arities_length : (i : ℕ) → i < a.families → length (arities_at a i) ≡ get_or a.ends i 0 - start_of a.ends i
    arities_length i h =
        length_between (start_of a.ends i) (get_or a.ends i 0) a.arities (omega (arith, groups_inside i h, good.many, sized.arities))

    pub family_rising : (i : ℕ) → i < a.families → AritiesRising 0 (length (kinds_at a i)) (arities_at a i)
    family_rising i h =
        let f = good.family i h in
        rw (kinds_length i h) (rising_zero (get_or a.kind_ends i 0 - start_of a.kind_ends i) (arities_at a i) (omega (arith, f.least)) f.rising)

    pub family_kinds_of_law : (counts : List ℕ) (i : ℕ) → i < a.families → kinds_of (family_at counts a i) ≡ kinds_at a i
    family_kinds_of_law counts i h = kinds_from_law counts (start_of a.ends i) (kinds_at a i) 0 (arities_at a i) (family_rising i h)

    pub family_ask : (hs : List ℕ) → KindSet hs → (i : ℕ) → i < a.families → FamilyAsk (kinds_at a i) (arities_at a i) hs
    family_ask hs s i h = record { rising = family_rising i h; kinds = family_kinds i h; staged = s }

-- ---- where a family stands in the arrays

pub record Bounds (a : Arrays) (i : ℕ) : Type 0 where
  pub low : start_of a.kind_ends i ≤ get_or a.kind_ends i 0
  pub high : get_or a.kind_ends i 0 ≤ length a.kinds
  pub group_low : start_of a.ends i ≤ get_or a.ends i 0
  pub group_high : get_or a.ends i 0 ≤ length a.arities
  pub in_kinds : i < length a.kind_ends
  pub in_groups : i < length a.ends
  pub kind_small : get_or a.kind_ends i 0 ≤ MAX_KINDS
  pub group_small : get_or a.ends i 0 ≤ MAX_GROUP_COUNT

pub bounds : (a : Arrays) → WellFormed a → ArraysSized a → (i : ℕ) → i < a.families → Bounds a i
bounds a good sized i h =
    record {
      low = kind_order_law a good i h;
      high = omega (arith, kinds_inside a good i h, good.wide, sized.kinds);
      group_low = group_order a good i h;
      group_high = omega (arith, groups_inside a good i h, good.many, sized.arities);
      in_kinds = omega (arith, good.few, sized.kind_ends);
      in_groups = omega (arith, good.few, sized.ends);
      kind_small = omega (arith, kinds_inside a good i h, good.wide);
      group_small = omega (arith, groups_inside a good i h, good.many);
    }

-- ---- the families by number

pub families_length : (counts : List ℕ) (a : Arrays) → length (families_of counts a) ≡ a.families
families_length counts a = length_table a.families (family_at counts a)

pub families_at : (counts : List ℕ) (a : Arrays) (i : ℕ) → i < a.families → get_or (families_of counts a) i [] ≡ family_at counts a i
families_at counts a i h = get_d_table a.families (family_at counts a) i [] h

pub families_step : (counts : List ℕ) (a : Arrays) (f : ℕ) → f < a.families → drop f (families_of counts a) ≡ family_at counts a f ∷ drop (f + 1) (families_of counts a)
families_step counts a f h =
    drop_step (families_of counts a) f [] (omega (arith, families_length counts a))
    ∙ ap (λ (x : Family). x ∷ drop (f + 1) (families_of counts a)) (families_at counts a f h)

-- ---- no families

pub none_formed : (b : List ℕ) → WellFormed (block_arrays b 0)
none_formed b =
    record {
      few = omega arith;
      wide = omega arith;
      many = omega arith;
      kinds = record { once = λ k. omega arith; known = λ k h. refl };
      family = λ f h. absurd (omega arith);
    }

-- ---- how many groups there are

pub groups_length : (counts : List ℕ) (g : ℕ) (ks : List ℕ) (b : ℕ) (ars : List ℕ) → length (groups_from counts g ks b ars) ≡ length ars
unfolding groups_from
groups_length counts g ks b [] = refl
groups_length counts g ks b (a ∷ ars) = ap suc (groups_length counts (suc g) ks a ars)

groups_table : (n : ℕ) (F : ℕ → Family) (es : List ℕ) → ((i : ℕ) → i < n → start_of es i ≤ get_or es i 0)
    → ((i : ℕ) → i < n → length (F i) ≡ get_or es i 0 - start_of es i) → groups_of (table n F) ≡ start_of es n
groups_table zero F es o h = ap groups_of (table_none 0 F refl)
groups_table (suc n) F es o h =
    ap (λ (m : ℕ). groups_of (table m F)) (sym (add-one n)) ∙ ap groups_of (table_snoc [] (F n) n F F refl (λ i l. refl))
    ∙ groups_append (table n F) (F n ∷ [])
    ∙ omega (arith, groups_table n F es (λ i l. o i (omega arith)) (λ i l. h i (omega arith)), o n (omega arith), h n (omega arith))

pub groups_of_law : (counts : List ℕ) (a : Arrays) → WellFormed a → ArraysSized a → groups_of (families_of counts a) ≡ group_count a
groups_of_law counts a good sized =
    groups_table a.families (family_at counts a) a.ends (group_order a good)
    (λ i h. groups_length counts (start_of a.ends i) (kinds_at a i) 0 (arities_at a i) ∙ arities_length a good sized i h)

-- ---- the kinds of all families

kinds_table : (n : ℕ) (F : ℕ → Family) (es ks : List ℕ) → ((i : ℕ) → i < n → start_of es i ≤ get_or es i 0) → ((i : ℕ) → i < n → kinds_of (F i) ≡ between (start_of es i) (get_or es i 0) ks)
    → layout_kinds (table n F) ≡ take (start_of es n) ks
kinds_table zero F es ks o h = ap layout_kinds (table_none 0 F refl)
kinds_table (suc n) F es ks o h =
    ap (λ (m : ℕ). layout_kinds (table m F)) (sym (add-one n)) ∙ ap layout_kinds (table_snoc [] (F n) n F F refl (λ i l. refl))
    ∙ kinds_append (table n F) (F n ∷ [])
    ∙ ap₂ ◌++◌ (kinds_table n F es ks (λ i l. o i (omega arith)) (λ i l. h i (omega arith))) (append-nil (kinds_of (F n)) ∙ h n (omega arith))
    ∙ between_join ks (start_of es n) (get_or es n 0) (o n (omega arith))

-- they are the used kinds, in order
pub layout_kinds_law : (counts : List ℕ) (a : Arrays) → WellFormed a → ArraysSized a → layout_kinds (families_of counts a) ≡ take (width_of a) a.kinds
layout_kinds_law counts a good sized = kinds_table a.families (family_at counts a) a.kind_ends a.kinds (kind_order_law a good) (family_kinds_of_law a good sized counts)

-- ---- a turn of the loop over the families

pub fit_step : (a : Arrays) (hs : List ℕ) (f : ℕ) (acc : Fit) → f < a.families
    → fit_from hs f acc (drop f (families_of [] a))
    ≡ fit_from hs (f + 1) (join_fit acc f (part_of hs (groups_from [] 0 (kinds_at a f) 0 (arities_at a f)))) (drop (f + 1) (families_of [] a))
unfolding fit_from
fit_step a hs f acc h =
    ap (fit_from hs f acc) (families_step [] a f h)
    ∙ ap (λ (x : Family). fit_from hs (f + 1) (join_fit acc f (part_of hs x)) (drop (f + 1) (families_of [] a))) (no_counts_law (start_of a.ends f) 0 (kinds_at a f) 0 (arities_at a f))

pub fit_end : (a : Arrays) (hs : List ℕ) (f : ℕ) (acc : Fit) → a.families ≤ f → fit_from hs f acc (drop f (families_of [] a)) ≡ acc
unfolding fit_from
fit_end a hs f acc h = rw (drop_of_length-le (families_of [] a) {i = f} (omega (arith, families_length [] a)))
