-- The range of a query is the model's, by the cases of its two infos; and none where the kinds are scattered. Assumes nothing.
use mathlib.Core.Path.{◌≡◌, refl, sym, ap, ◌∙◌, subst}
use mathlib.Core.Bool.{false, and-false}
use mathlib.Core.List.{List, [], ◌∷◌, ◌++◌}
use Prim.Native.Nat.{ℕ, ◌≤◌}
use native.Mathlib.Omega.{arith}
use borrow.Author.Tests.{ne_eqb}
use lib.Dec.{eqb}
use lib.ListN.{length, length-append}
use Rattle.group_info.specs.declared.GroupInfo.{GroupInfo}
use Rattle.std.specs.Prelude.{Option, Some, None}
use Rattle.model.specs.Model.{Storage, none, found, mem, within, set_of, range_all, single, range_for}
use Rattle.model.proofs.BoolLaws.{and_false_of}
use Rattle.model.proofs.KindLists.{head_in, all_missing, all_joined}
use Rattle.layout.specs.Layout.{Arrays, kinds_at, families_of, WellFormed}
use Rattle.layout.specs.ByValue.{ArraysSized}
use Rattle.group_info.specs.Info.{info_of, ExcludedSays, IncludedSays, RangeBy}
use Rattle.group_info.specs.Describes.{GroupedKinds, InfoOfKind, DescribesQuery, Scattered, range_of, RangeSays}
use Rattle.group_info.specs.declared.QueryGroupInfo.{QueryGroupInfo}
use Rattle.group_info.specs.declared.QueryGroupInfo.TheVariants as query
use Rattle.group_info.specs.declared.GroupRange.{GroupRange}
use Rattle.group_info.proofs.Ranges.{none_staged, none_excluded, none_empty, include_range, exclude_range}

-- ---- where RANGE goes by the groups

by_groups : (hs bs : List ℕ) (s : Storage) → single hs bs ≡ false → range_for hs bs s ≡ range_all hs bs s.layout
unfolding range_for
by_groups hs bs s e = rw e

with_excluded_law : (hs : List ℕ) (b : ℕ) (bs : List ℕ) (s : Storage) → range_for hs (b ∷ bs) s ≡ range_all hs (b ∷ bs) s.layout
with_excluded_law hs b bs s = by_groups hs (b ∷ bs) s (rw (ne_eqb (length (b ∷ bs)) 0 (omega arith)) (and-false (eqb (length hs) 1)))

several : (hs bs : List ℕ) (s : Storage) → 2 ≤ length hs → range_for hs bs s ≡ range_all hs bs s.layout
several hs bs s h = by_groups hs bs s (rw (ne_eqb (length hs) 1 (omega arith)))

one_kind_law : (k : ℕ) (s : Storage) → range_for (k ∷ []) [] s ≡ found 0 (length (set_of s.sets k))
unfolding range_for
one_kind_law k s = refl

-- ---- the cases

module _ (a : Arrays) (s : Storage) (counts : List ℕ) (good : WellFormed a) (sized : ArraysSized a) (layout : s.layout ≡ families_of counts a) where
  -- what the hand's info says of the search
  abbrev Staged : List ℕ → Option GroupInfo → Type 0
  Staged hs (Some i) = GroupedKinds a hs i
  Staged hs None = (bs : List ℕ) → range_all hs bs (families_of counts a) ≡ none

  -- and the bar's
  abbrev Excludes : ℕ → List ℕ → Option GroupInfo → Type 0
  Excludes b bs (Some e) = GroupedKinds a (b ∷ bs) e
  Excludes b bs None = (hs : List ℕ) → range_all hs (b ∷ bs) (families_of counts a) ≡ none

  staged_one : (k : ℕ) (x : Option GroupInfo) → InfoOfKind a k x → Staged (k ∷ []) x
  staged_one k (Some i) g = g
  staged_one k None u = λ bs. none_staged a good sized counts (k ∷ []) bs (λ f h. (k, head_in (k ∷ []) (omega arith), u f h))

  excluded_one : (k : ℕ) (x : Option GroupInfo) → InfoOfKind a k x → Excludes k [] x
  excluded_one k (Some e) g = g
  excluded_one k None u = λ hs. none_excluded a good sized counts hs k [] (λ f h. (k, head_in (k ∷ []) (omega arith), u f h))

  staged : (hs : List ℕ) (q : QueryGroupInfo) → DescribesQuery a s hs q → Staged hs (info_of q)
  staged hs query.Empty d = λ bs. ap (λ (l : List ℕ). range_all l bs (families_of counts a)) d ∙ none_empty a good sized counts bs
  staged hs (query.One v) d = subst (λ (l : List ℕ). Staged l v.info) (sym d.alone) (staged_one d.kind v.info d.view.grouping)
  staged hs (query.Many i) d = d.grouped

  excluded : (hs : List ℕ) (b : ℕ) (bs : List ℕ) (x y : Option GroupInfo) (r : Option GroupRange) → Staged hs x → Excludes b bs y → ExcludedSays a.arities counts x y r → range_of r ≡ range_for hs (b ∷ bs) s
  excluded hs b bs (Some i) (Some e) r p q w =
      exclude_range a good sized counts p.family q.family hs b bs i e p.kinds q.kinds r w ∙ ap (range_all hs (b ∷ bs)) (sym layout) ∙ sym (with_excluded_law hs b bs s)
  excluded hs b bs (Some i) None r p q w = ap range_of w ∙ sym (with_excluded_law hs b bs s ∙ ap (range_all hs (b ∷ bs)) layout ∙ q hs)
  excluded hs b bs None (Some e) r p q w = ap range_of w ∙ sym (with_excluded_law hs b bs s ∙ ap (range_all hs (b ∷ bs)) layout ∙ p (b ∷ bs))
  excluded hs b bs None None r p q w = ap range_of w ∙ sym (with_excluded_law hs b bs s ∙ ap (range_all hs (b ∷ bs)) layout ∙ p (b ∷ bs))

  included : (hs : List ℕ) (q : QueryGroupInfo) (r : Option GroupRange) → DescribesQuery a s hs q → IncludedSays a.arities counts q r → range_of r ≡ range_for hs [] s
  included hs query.Empty r d w =
      ap range_of w ∙ sym (ap (λ (l : List ℕ). range_for l [] s) d ∙ by_groups [] [] s refl ∙ ap (range_all [] []) layout ∙ none_empty a good sized counts [])
  included hs (query.One v) r d w =
      ap range_of w ∙ ap (found 0) d.view.long ∙ sym (ap (λ (l : List ℕ). range_for l [] s) d.alone ∙ one_kind_law d.kind s)
  included hs (query.Many i) r d w =
      include_range a good sized counts d.grouped.family hs i d.grouped.kinds r w ∙ ap (range_all hs []) (sym layout) ∙ sym (several hs [] s d.many)

  pub query_range : (hs bs : List ℕ) (p q : QueryGroupInfo) (r : Option GroupRange) → DescribesQuery a s hs p → DescribesQuery a s bs q → RangeBy a.arities counts p q r → range_of r ≡ range_for hs bs s
  query_range hs bs p query.Empty r d e w = included hs p r d w ∙ ap (λ (l : List ℕ). range_for hs l s) (sym e)
  query_range hs bs p (query.One v) r d e w =
      excluded hs e.kind [] (info_of p) v.info r (staged hs p d) (excluded_one e.kind v.info e.view.grouping) w ∙ ap (λ (l : List ℕ). range_for hs l s) (sym e.alone)
  query_range hs [] p (query.Many i) r d e w = absurd (omega (arith, e.many))
  query_range hs (b ∷ bs) p (query.Many i) r d e w = excluded hs b bs (info_of p) (Some i) r (staged hs p d) e.grouped w

  -- ---- kinds that no family holds

  -- scattered kinds in the hand, or in the bar: none
  pub scattered_staged : (hs bs : List ℕ) → Scattered a hs → range_for hs bs s ≡ none
  scattered_staged hs bs x = several hs bs s x.many ∙ ap (range_all hs bs) layout ∙ none_staged a good sized counts hs bs (λ f h. let m = all_missing (λ k. mem k (kinds_at a f)) hs (x.nowhere f h) in (m.kind, m.is_in, m.fails))

  pub scattered_excluded : (hs bs : List ℕ) → Scattered a bs → range_for hs bs s ≡ none
  scattered_excluded hs [] x = absurd (omega (arith, x.many))
  scattered_excluded hs (b ∷ bs) x = with_excluded_law hs b bs s ∙ ap (range_all hs (b ∷ bs)) layout ∙ none_excluded a good sized counts hs b bs (λ f h. let m = all_missing (λ k. mem k (kinds_at a f)) (b ∷ bs) (x.nowhere f h) in (m.kind, m.is_in, m.fails))

-- a part of a list that is scattered scatters the whole
pub scattered_more : (a : Arrays) (xs ys : List ℕ) → Scattered a xs → Scattered a (xs ++ ys)
scattered_more a xs ys x =
    record {
      many = omega (arith, x.many, length-append xs ys);
      nowhere = λ f h. all_joined (λ k. mem k (kinds_at a f)) xs ys ∙ and_false_of (within xs (kinds_at a f)) (within ys (kinds_at a f)) (x.nowhere f h);
    }

pub range_law : (ars counts : List ℕ) (p q : QueryGroupInfo) (r : Option GroupRange) → RangeBy ars counts p q r → RangeSays ars counts p q r
range_law ars counts p q r w x =
    query_range x.arrays x.storage counts x.good x.sized x.layout x.staged x.excluded p q r x.included x.excludes (subst (λ (l : List ℕ). RangeBy l counts p q r) (sym x.arities) w)
