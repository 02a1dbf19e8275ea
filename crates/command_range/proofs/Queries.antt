-- A query with one kind more, and the range of two queries. Assumes nothing.
use mathlib.Core.Path.{◌≡◌, sym, ap, ◌∙◌, subst}
use mathlib.Core.List.{List, [], ◌∷◌, ◌++◌}
use Prim.Native.Nat.{ℕ, ◌+◌, ◌≤◌, ◌<◌}
use native.Mathlib.Omega.{arith}
use lib.ListN.{length, get_or}
use Rattle.std.specs.Prelude.{Option, Some, None}
use Rattle.words.specs.Offsets.{ARITIES, ENTITIES, GROUP_COUNTS, GROUP_FAMILIES, KIND_ENDS, LAYOUT, LAYOUT_ARITIES, LAYOUT_KIND_ENDS}
use Rattle.model.specs.Model.{none, range_for}
use Rattle.model.specs.Sound.{In}
use Rattle.model.specs.Store.{Store}
use Rattle.words.specs.Part.{between}
use Rattle.words.proofs.Part.{length_between, between_none, between_part, between_more, between_in}
use Rattle.layout.specs.Layout.{Arrays}
use Rattle.memory.specs.Meaning.{layout_arrays, meaning}
use Rattle.memory.specs.Arranged.{Arranged, Sound}
use Rattle.memory.specs.KindLists.{KeptAt}
use Rattle.memory.proofs.Frames.{long, layout_sized}
use Rattle.group.proofs.InWords.{layout_means}
use Rattle.group_info.specs.Info.{ViewAdded, InsideFound, info_of, Tables}
use Rattle.group_info.specs.Describes.{ViewOf, DescribesQuery, Scattered, range_of, RangeSays}
use Rattle.group_info.specs.declared.ViewGroupInfo.{ViewGroupInfo}
use Rattle.group_info.specs.declared.QueryGroupInfo.{QueryGroupInfo}
use Rattle.group_info.specs.declared.GroupRange.{GroupRange}
use Rattle.group_info.proofs.Describing.{describes_more, describes_inside}
use Rattle.group_info.proofs.Answers.{scattered_staged, scattered_excluded, scattered_more}
use Rattle.command_range.specs.Query.{QueryOf, KindAdded}
use Rattle.group_info.specs.declared.QueryGroupInfo.TheVariants as query

module _ (w : List ℕ) (A : Arranged w) where
  abbrev a : Arrays
  a = layout_arrays w

  -- ---- one kind more

  pub added_more : (k : ℕ) (q : QueryGroupInfo) (v : ViewGroupInfo) (r : Option QueryGroupInfo) → ViewOf (layout_arrays w) (meaning w).storage k v → ViewAdded q v r → KindAdded w (Some q) k r
  added_more k q v (Some p) x y hs d = describes_more a A.layout.formed (layout_sized w A) (meaning w).storage hs k q v (Some p) d x y
  added_more k q v None x y hs d = describes_more a A.layout.formed (layout_sized w A) (meaning w).storage hs k q v None d x y

  pub added_none : (k : ℕ) → KindAdded w None k None
  added_none k hs d = scattered_more a hs (k ∷ []) d

  -- ---- the loop

  pub query_start : (i : ℕ) → QueryOf w (between i i w) (Some query.Empty)
  query_start i = between_none i w

  pub query_turn : (start i : ℕ) (k : ℕ) (q r : Option QueryGroupInfo) → start ≤ i → i < length w → k ≡ get_or w i 0 → QueryOf w (between start i w) q → KindAdded w q k r → QueryOf w (between start (i + 1) w) r
  query_turn start i k q r h l e d more =
      subst (λ (hs : List ℕ). QueryOf w hs r) (ap (λ (x : ℕ). between start i w ++ (x ∷ [])) e ∙ sym (between_more start i w h l)) (more (between start i w) d)

  -- a kind of the list is registered
  pub kind_known : Sound w → (len first : ℕ) (kinds : Store → List ℕ) (count : Store → ℕ) → KeptAt len first kinds count → (n i k : ℕ) → n ≡ count (meaning w) → first ≤ i → i < first + n → k ≡ get_or w i 0 → In (meaning w).kinds k
  kind_known S len first kinds count kept n i k is h l e =
      let many : n ≡ get_or w len 0 = is ∙ kept.counted w A in
      let listed : In (between first (first + get_or w len 0) w) (get_or w i 0) = between_in first (first + get_or w len 0) i w h (omega arith) (omega (arith, kept.few w A, kept.inside, long w A)) in
      kept.known (meaning w) S.means k (subst (λ (l : List ℕ). In l k) (sym (kept.read w A)) (rw e listed))

  pub all_listed : (len first : ℕ) (kinds : Store → List ℕ) (count : Store → ℕ) → KeptAt len first kinds count → (n : ℕ) → n ≡ count (meaning w) → between first (first + n) w ≡ kinds (meaning w)
  all_listed len first kinds count kept n is = rw (is, kept.counted w A) (sym (kept.read w A))

  -- ---- the range

  pub tables : Tables (between LAYOUT_ARITIES LAYOUT_KIND_ENDS w) (between GROUP_COUNTS ENTITIES w)
  tables = record { arities = length_between LAYOUT_ARITIES LAYOUT_KIND_ENDS w (omega (arith, long w A)); counts_size = length_between GROUP_COUNTS ENTITIES w (omega (arith, long w A)) }

  arities_are : (layout_arrays w).arities ≡ between LAYOUT_ARITIES LAYOUT_KIND_ENDS w
  arities_are = between_part ARITIES KIND_ENDS LAYOUT GROUP_FAMILIES w (omega arith)

  pub query_inside : (hs : List ℕ) (q : QueryGroupInfo) → DescribesQuery (layout_arrays w) (meaning w).storage hs q → InsideFound (between LAYOUT_ARITIES LAYOUT_KIND_ENDS w) (info_of q)
  query_inside hs q d = subst (λ (l : List ℕ). InsideFound l (info_of q)) arities_are (describes_inside a A.layout.formed (layout_sized w A) (meaning w).storage hs q d)

  pub both_queries : (hs bs : List ℕ) (p q : QueryGroupInfo) (r : Option GroupRange) → DescribesQuery (layout_arrays w) (meaning w).storage hs p → DescribesQuery (layout_arrays w) (meaning w).storage bs q
      → RangeSays (between LAYOUT_ARITIES LAYOUT_KIND_ENDS w) (between GROUP_COUNTS ENTITIES w) p q r → range_of r ≡ range_for hs bs (meaning w).storage
  both_queries hs bs p q r d e says =
      says
      (record {
        arrays = layout_arrays w;
        storage = (meaning w).storage;
        staged = hs;
        excluded = bs;
        good = A.layout.formed;
        sized = layout_sized w A;
        arities = arities_are;
        layout = layout_means w A;
        included = d;
        excludes = e;
      })

  pub no_staged : (hs bs : List ℕ) → Scattered (layout_arrays w) hs → none ≡ range_for hs bs (meaning w).storage
  no_staged hs bs x = sym (scattered_staged a (meaning w).storage (between GROUP_COUNTS ENTITIES w) A.layout.formed (layout_sized w A) (layout_means w A) hs bs x)

  pub no_excluded : (hs bs : List ℕ) → Scattered (layout_arrays w) bs → none ≡ range_for hs bs (meaning w).storage
  no_excluded hs bs x = sym (scattered_excluded a (meaning w).storage (between GROUP_COUNTS ENTITIES w) A.layout.formed (layout_sized w A) (layout_means w A) hs bs x)
