-- The laws of a layout's groups by their numbers: each has one family, and its arity and what stands before it are those of its place in the family.
-- Assumes nothing.
use mathlib.Core.Path.{◌≡◌, refl, sym, ap, ◌∙◌}
use mathlib.Core.List.{List, ◌∷◌}
use Prim.Native.Nat.{ℕ, zero, suc, ◌+◌, ◌-◌, ◌≤◌, ◌<◌}
use native.Mathlib.Decide.{dec_lt}
use native.Mathlib.Omega.{arith}
use borrow.Author.Tests.{lt-ltb, le-ltb, ltb-true}
use lib.Dec.{ltb}
use lib.ListN.{length, get_or}
use Rattle.model.specs.Numbers.{MAX_GROUP_COUNT, MAX_KINDS}
use Rattle.words.specs.Part.{between}
use Rattle.layout.specs.Layout.{Arrays, start_of, kinds_at, arities_at, AritiesRising, WellFormed}
use Rattle.layout.specs.ByValue.{ArraysSized}
use Rattle.layout.specs.Group.{InFamily, arity_of, prior_of, prior_arity}
use Rattle.layout.proofs.Family.{rising_at, rising_step, rising_last}
use Rattle.layout.proofs.Arrays.{end_inside, group_order, groups_inside, kind_order_law, kinds_inside, kinds_length, arities_length, family_rising}
use Rattle.model.proofs.BoolLaws.{bool_cases, by-eq}
use Rattle.words.proofs.Part.{get_d_between}

-- ---- what stands before

pub prior_first : (l : List ℕ) (start g none : ℕ) → g ≤ start → prior_of l start g none ≡ none
prior_first l start g none h = rw (le-ltb start g h)

pub prior_next : (l : List ℕ) (start g none : ℕ) → start ≤ g → prior_of l start (suc g) none ≡ get_or l g 0
prior_next l start g none h = let e : suc g - 1 ≡ g = omega arith in rw (lt-ltb start (suc g) (omega arith), e)

-- by the place in the family, whose numbers are those from s to e
pub prior_at : (l : List ℕ) (s e i none : ℕ) → s + i ≤ e → prior_of l s (s + i) none ≡ get_or (none ∷ between s e l) i 0
prior_at l s e zero none h = prior_first l s (s + 0) none (omega arith)
prior_at l s e (suc i) none h =
    let n : s + suc i ≡ suc (s + i) = omega arith in
    ap (λ (g : ℕ). prior_of l s g none) n ∙ prior_next l s (s + i) none (omega arith) ∙ sym (get_d_between s e i l 0 (omega arith))

-- lists that agree below n agree so on what stands before
pub prior_same : (l m : List ℕ) (n : ℕ) → ((i : ℕ) → i < n → get_or l i 0 ≡ get_or m i 0) → (start g none : ℕ) → g ≤ n → prior_of l start g none ≡ prior_of m start g none
prior_same l m n same start g none h =
    bool_cases (ltb start g)
    (λ t. rw t (same (g - 1) (omega (arith, ltb-true start g t))))
    (λ t. rw t)

pub start_same : (l m : List ℕ) (n : ℕ) → ((i : ℕ) → i < n → get_or l i 0 ≡ get_or m i 0) → (f : ℕ) → f ≤ n → start_of l f ≡ start_of m f
start_same l m n same zero h = refl
start_same l m n same (suc f) h = same f h

-- ---- the one number that has a place: of a group its family, of a kind too

-- number `number` has place j, of n whose ends are es
pub record Spot (es : List ℕ) (n j : ℕ) : Type 0 where
  pub number : ℕ
  pub below : number < n
  pub low : start_of es number ≤ j
  pub high : j < get_or es number 0

pub spot : (es : List ℕ) (n j : ℕ) → j < start_of es n → Spot es n j
spot es zero j h = absurd (omega arith)
spot es (suc n) j h =
    elim (dec_lt j (start_of es n)) [
      | yes l ↦ let r = spot es n j l in record { number = r.number; below = omega (arith, r.below); low = r.low; high = r.high }
      | no l ↦ record { number = n; below = omega arith; low = omega arith; high = h }
    ]

spot_once : (es : List ℕ) (n : ℕ) → ((i : ℕ) → i < n → start_of es i ≤ get_or es i 0) → (f f' j : ℕ) → f < n → f' < n
    → start_of es f ≤ j → j < get_or es f 0 → start_of es f' ≤ j → j < get_or es f' 0 → f ≡ f'
spot_once es n o f f' j hf hf' l h l' h' =
    elim (dec_lt f f') [
      | yes q ↦ absurd (omega (arith, end_inside es f' (λ i b. o i (omega arith)) f q))
      | no q ↦
          elim (dec_lt f' f) [
            | yes p ↦ absurd (omega (arith, end_inside es f (λ i b. o i (omega arith)) f' p))
            | no p ↦ omega arith
          ]
    ]

-- a group is of one family
pub same_family : (a : Arrays) → WellFormed a → (f f' g : ℕ) → InFamily a f g → InFamily a f' g → f ≡ f'
same_family a good f f' g F F' =
    spot_once a.ends a.families (group_order a good) f f' g F.family F'.family F.low F.high F'.low F'.high

-- ---- by the place in the family

pub arity_at : (a : Arrays) (f i : ℕ) → start_of a.ends f + i < get_or a.ends f 0 → get_or (arities_at a f) i 0 ≡ arity_of a (start_of a.ends f + i)
arity_at a f i h = get_d_between (start_of a.ends f) (get_or a.ends f 0) i a.arities 0 h

-- ---- group g of family f

module _ (a : Arrays) (good : WellFormed a) (sized : ArraysSized a) (f g : ℕ) (G : InFamily a f g) where
  abbrev i : ℕ
  i = g - start_of a.ends f

  pub place_is : start_of a.ends f + (g - start_of a.ends f) ≡ g
  place_is = omega (arith, G.low)

  pub place_inside : g - start_of a.ends f < length (arities_at a f)
  place_inside = omega (arith, G.low, G.high, arities_length a good sized f G.family)

  pub family_few : f < MAX_GROUP_COUNT
  family_few = omega (arith, G.family, good.few)

  pub group_few : g < MAX_GROUP_COUNT
  group_few = omega (arith, G.high, groups_inside a good f G.family, good.many)

  pub arity_is : get_or (arities_at a f) (g - start_of a.ends f) 0 ≡ arity_of a g
  arity_is = arity_at a f i (omega (arith, place_is, G.high)) ∙ ap (arity_of a) place_is

  pub prior_is : get_or (0 ∷ arities_at a f) (g - start_of a.ends f) 0 ≡ prior_arity a f g
  prior_is = sym (prior_at a.arities (start_of a.ends f) (get_or a.ends f 0) i 0 (omega (arith, place_is, G.high))) ∙ ap (prior_arity a f) place_is

  rising : AritiesRising 0 (length (kinds_at a f)) (arities_at a f)
  rising = family_rising a good sized f G.family

  pub prior_less : prior_arity a f g < arity_of a g
  prior_less = omega (arith, rising_step 0 (length (kinds_at a f)) (arities_at a f) i rising place_inside, arity_is, prior_is)

  pub arity_most : arity_of a g ≤ length (kinds_at a f)
  arity_most = omega (arith, rising_at 0 (length (kinds_at a f)) (arities_at a f) i rising place_inside, arity_is)

  pub arity_inside : start_of a.kind_ends f + arity_of a g ≤ get_or a.kind_ends f 0
  arity_inside = omega (arith, arity_most, kinds_length a good sized f G.family, kind_order_law a good f G.family)

  pub arity_wide : start_of a.kind_ends f + arity_of a g ≤ MAX_KINDS
  arity_wide = omega (arith, arity_inside, kinds_inside a good f G.family, good.wide)

module _ (a : Arrays) (good : WellFormed a) (sized : ArraysSized a) (f g : ℕ) (G : InFamily a f g) where
  -- a later group's new kinds come after
  pub arity_order : (h : ℕ) → g < h → h ≤ get_or a.ends f 0 → arity_of a g ≤ prior_arity a f h
  arity_order zero l m = absurd (omega arith)
  arity_order (suc h) l m =
      let low : start_of a.ends f ≤ h = omega (arith, G.low) in
      let p : prior_arity a f (suc h) ≡ arity_of a h = prior_next a.arities (start_of a.ends f) h 0 low in
      by-eq g h (λ e. omega (arith, ap (arity_of a) e))
      (λ ne. omega (arith, arity_order h (omega arith) (omega arith), prior_less a good sized f h (record { family = G.family; low = low; high = m })))

-- past the last group are all kinds
pub prior_end : (a : Arrays) (good : WellFormed a) (sized : ArraysSized a) (f : ℕ) → f < a.families → prior_arity a f (get_or a.ends f 0) ≡ get_or a.kind_ends f 0 - start_of a.kind_ends f
prior_end a good sized f h =
    let s = start_of a.ends f in
    let e = get_or a.ends f 0 in
    let n : s + (e - s) ≡ e = omega (arith, group_order a good f h) in
    sym (ap (prior_arity a f) n) ∙ prior_at a.arities s e (e - s) 0 (omega arith)
    ∙ ap (λ (k : ℕ). get_or (0 ∷ arities_at a f) k 0) (sym (arities_length a good sized f h))
    ∙ rising_last 0 (length (kinds_at a f)) (arities_at a f) (family_rising a good sized f h) ∙ kinds_length a good sized f h
