-- How a layout grows: a family with other kinds, no fewer, and one group more at a place. Assumes nothing.
use Rattle.std.specs.Prelude.{◌≡◌, ◌≢◌, true, false, List, [], ◌∷◌, ◌++◌, ℕ, ◌+◌, ◌-◌, ◌≤◌, ◌<◌, eqb, length, get_or, take, drop, set}
use Rattle.model.specs.Numbers.{MAX_GROUP_ARITY, MAX_GROUP_COUNT, MAX_KINDS}
use Rattle.model.specs.Lists.{count_of}
use Rattle.model.specs.Model.{new_group, without, common, is_group, chains, family_with}
use Rattle.words.specs.Part.{between}
use Rattle.layout.specs.Layout.{Arrays, start_of, width_of, group_count, kinds_at, arities_at, groups_from, family_at, KindSet, AritiesRising, FamilyFormed}
use Rattle.layout.specs.ByValue.{arrays_of, layout_meaning, Formed}
use Rattle.layout.specs.Fit.{place_in}
use Rattle.layout.specs.declared.group_layout.Layout.{Layout}

-- ---- arrays

-- d has what it had before at, and then s; r is where s ends
pub record Appended (d₀ : List ℕ) (at : ℕ) (s d : List ℕ) (r : ℕ) : Type 0 where
  pub next : r ≡ at + length s
  pub size : length d ≡ length d₀
  pub front : take (at + length s) d ≡ take at d₀ ++ s

-- d starts with s, with more in the place of what s has from a up to e
pub record Spread (d₀ s : List ℕ) (a e : ℕ) (more d : List ℕ) : Type 0 where
  pub size : length d ≡ length d₀
  pub front : take (a + length more + (length s - e)) d ≡ take a s ++ (more ++ drop e s)

-- each number from a to e - 1 is by more
pub record Raised (d₀ : List ℕ) (a e by : ℕ) (d : List ℕ) : Type 0 where
  pub size : length d ≡ length d₀
  pub before : (i : ℕ) → i < a → get_or d i 0 ≡ get_or d₀ i 0
  pub inside : (i : ℕ) → a ≤ i → i < e → get_or d i 0 ≡ get_or d₀ i 0 + by

-- the array has the numbers from a to e - 1, and each stays a byte when it is by more
pub record RaiseAsk (d : List ℕ) (a e by : ℕ) : Type 0 where
  pub within : e ≤ length d
  pub fits : (i : ℕ) → a ≤ i → i < e → get_or d i 0 + by < 256

-- ---- one family of a layout

-- all families but f are well formed, and f may still be empty
pub record LooseAt (a : Arrays) (f : ℕ) : Type 0 where
  pub few : a.families ≤ MAX_GROUP_COUNT
  pub inside : f < a.families
  pub wide : width_of a ≤ MAX_KINDS
  pub many : group_count a < MAX_GROUP_COUNT
  pub kind_order : (i : ℕ) → i < a.families → start_of a.kind_ends i ≤ get_or a.kind_ends i 0
  pub order : (i : ℕ) → i < a.families → start_of a.ends i ≤ get_or a.ends i 0
  pub others : (i : ℕ) → i < a.families → i ≢ f → FamilyFormed a i

-- the first w of a list, with more in the place of what it has from a up to e
abbrev pub replaced : List ℕ → ℕ → ℕ → List ℕ → ℕ → List ℕ
replaced l a e more w = take a l ++ (more ++ between e w l)

-- the list with s put in at a place
abbrev pub put_in : ℕ → ℕ → List ℕ → List ℕ
put_in at s l = take at l ++ (s ∷ drop at l)

-- a family's kinds ks and the staged kinds hs: those of ks that are staged, the staged ones that ks lacks, the others of ks. Where the groups
-- and the staged kinds are a chain, each of them is, as a set, a front of this list
abbrev pub merged_kinds : List ℕ → List ℕ → List ℕ
merged_kinds ks hs = common ks hs ++ (without hs ks ++ without ks hs)

-- family f may have these kinds, no fewer than its own, and a group of arity s more, at a place among its groups
pub record FillAsk (l : Layout) (f : ℕ) (kinds : List ℕ) (at s : ℕ) : Type 0 where
  pub loose : LooseAt (arrays_of l) f
  pub width : l.width ≡ width_of (arrays_of l)
  pub groups : l.groups ≡ group_count (arrays_of l)
  pub kind_set : KindSet (replaced l.kinds (start_of l.kind_ends f) (get_or l.kind_ends f 0) kinds (width_of (arrays_of l)))
  pub more : get_or l.kind_ends f 0 ≤ start_of l.kind_ends f + length kinds
  pub least : 2 ≤ length kinds
  pub most : length kinds ≤ MAX_GROUP_ARITY
  pub place : start_of l.ends f + at ≤ get_or l.ends f 0
  pub rising : AritiesRising 1 (length kinds) (put_in at s (arities_at (arrays_of l) f))

-- r is l with these kinds for family f's, and a group of arity s more at that place; the other families are as they were
pub record FillDone (l : Layout) (f : ℕ) (kinds : List ℕ) (at s : ℕ) (r : Layout) : Type 0 where
  pub formed : Formed r
  pub families : r.families ≡ l.families
  pub others : (i : ℕ) → i < l.families → i ≢ f → family_at [] (arrays_of r) i ≡ family_at [] (arrays_of l) i
  pub here : family_at [] (arrays_of r) f ≡ groups_from [] 0 kinds 0 (put_in at s (arities_at (arrays_of l) f))

-- the layout with an empty family at its end
abbrev pub opened_of : Layout → Layout
opened_of l =
    record {
      kinds = l.kinds;
      arities = l.arities;
      kind_ends = set l.kind_ends l.families l.width;
      ends = set l.ends l.families l.groups;
      families = l.families + 1;
      width = l.width;
      groups = l.groups;
    }

-- ---- a group more

-- kinds that may form a group in a layout that has room
pub record GroupKinds (l : Layout) (hs : List ℕ) : Type 0 where
  pub formed : Formed l
  pub room : l.groups < MAX_GROUP_COUNT
  pub staged : KindSet hs
  pub least : 2 ≤ length hs
  pub most : length hs ≤ MAX_GROUP_ARITY

-- no kind of the list is in the layout
abbrev pub Unknown : Layout → List ℕ → Type 0
Unknown l ks = (k : ℕ) → 1 ≤ count_of eqb k ks → count_of eqb k (take (width_of (arrays_of l)) l.kinds) ≡ 0

-- the staged kinds share no kind with a family
pub record FreshAsk (l : Layout) (staged : List ℕ) : Type 0 where
  pub group : GroupKinds l staged
  pub unknown : Unknown l staged

-- a family of its own
pub record FreshDone (l : Layout) (staged : List ℕ) (r : Layout) : Type 0 where
  pub formed : Formed r
  pub means : layout_meaning r ≡ layout_meaning l ++ ((new_group staged ∷ []) ∷ [])

-- 02, No. 1: "shares kinds with one family at most and all groups of that family, with it, are a chain": f is that family, of which the staged kinds are no
-- group, and at their place in it
pub record OntoAsk (l : Layout) (f at : ℕ) (staged : List ℕ) : Type 0 where
  pub group : GroupKinds l staged
  pub inside : f < l.families
  pub chain : chains staged [] (family_at [] (arrays_of l) f) ≡ true
  pub other : is_group staged [] (family_at [] (arrays_of l) f) ≡ false
  pub place : at ≡ place_in staged [] (family_at [] (arrays_of l) f)
  pub unknown : Unknown l (without staged (kinds_at (arrays_of l) f))

-- a group more in family f: "it may go below, between or above"
pub record OntoDone (l : Layout) (f : ℕ) (staged : List ℕ) (r : Layout) : Type 0 where
  pub formed : Formed r
  pub means : layout_meaning r ≡ set (layout_meaning l) f (family_with staged [] (family_at [] (arrays_of l) f))
