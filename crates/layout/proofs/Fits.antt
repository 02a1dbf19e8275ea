-- How staged kinds stand to the families is what the model's rule for a new group asks. Assumes nothing.
use mathlib.Core.Path.{◌≡◌, refl, sym, ap, ◌∙◌, subst}
use mathlib.Core.Logic.{◌≢◌}
use mathlib.Core.Bool.{Bool, true, false, cond, not, ◌&&◌, ◌||◌, true≢false, and-false}
use mathlib.Core.List.{List, [], ◌∷◌, ◌++◌}
use Prim.Native.Nat.{ℕ, zero, suc, ◌+◌, ◌≤◌, ◌<◌}
use native.Mathlib.Nat.{add-zero, add-suc, suc-add}
use native.Mathlib.Numerals.{add-one}
use native.Mathlib.Omega.{arith}
use borrow.Author.Tests.{eqb-true, eqb-false, lt-ltb, le-ltb, le-leb, lt-leb}
use lib.Dec.{eqb, leb, eqb-suc-zero, eqb-suc-suc}
use lib.ListN.{length, get_or, set}
use Rattle.model.specs.Numbers.{CLASH, MANY, MAX_GROUP_ARITY, MAX_GROUP_COUNT}
use Rattle.model.specs.Model.{Family, meets, kinds_of, groups_of, is_group, present, touched, chains, chained, new_group, family_with, families_with, joins}
use Rattle.model.specs.Adding.{nothing, added, refused, add_group}
use Rattle.model.proofs.BoolLaws.{above, bool_cases, or_false, or_false_right}
use Rattle.model.proofs.Draft.{chained_first, chained_rest, untouched_chained, families_with_same, added_fresh, added_onto}
use Rattle.layout.specs.Fit.{pick_part, place_in, part_of, join_fit, fit_from}
use Rattle.layout.specs.declared.group_layout.Part.{Part}
use Rattle.layout.specs.declared.group_layout.Part.TheVariants.{Apart, Same, At, Cross}
use Rattle.layout.specs.declared.group_layout.Fit.{Fit}
use Rattle.layout.specs.declared.group_layout.Fit.TheVariants.{Fresh, Present, Onto, Clash}

abbrev pick_fit : Bool → Fit → Fit → Fit
pick_fit true a b = a
pick_fit false a b = b

-- the number of the first family that ks touches
abbrev pub first_touched : List ℕ → List Family → ℕ
first_touched ks [] = 0
first_touched ks (x ∷ xs) = cond (meets ks (kinds_of x)) 0 (suc (first_touched ks xs))

-- and the place of ks among its groups
abbrev pub first_place : List ℕ → List Family → ℕ
first_place ks [] = 0
first_place ks (x ∷ xs) = cond (meets ks (kinds_of x)) (place_in ks [] x) (first_place ks xs)

-- ---- the fold, after each accumulator

join_present : (f : ℕ) (p : Part) → join_fit Present f p ≡ Present
join_present f Apart = refl
join_present f Same = refl
join_present f (At p) = refl
join_present f Cross = refl

fit_present : (ks : List ℕ) (f : ℕ) (fs : List Family) → fit_from ks f Present fs ≡ Present
unfolding fit_from
fit_present ks f [] = refl
fit_present ks f (x ∷ xs) = rw (join_present f (part_of ks x)) (fit_present ks (f + 1) xs)

-- what a family is to the new group, by its three tests and the place
abbrev tested_part : Bool → Bool → Bool → ℕ → Part
tested_part p m w n = pick_part p Same (pick_part m (pick_part w (At n) Cross) Apart)

fit_clash : (ks : List ℕ) (f : ℕ) (fs : List Family) → fit_from ks f Clash fs ≡ pick_fit (present ks fs) Present Clash
unfolding fit_from
fit_clash ks f [] = refl
fit_clash ks f (x ∷ xs) = go (is_group ks [] x) (meets ks (kinds_of x)) (chains ks [] x) (place_in ks [] x) (fit_clash ks (f + 1) xs)
  where
    go : (p m w : Bool) (n : ℕ) → fit_from ks (f + 1) Clash xs ≡ pick_fit (present ks xs) Present Clash
        → fit_from ks (f + 1) (join_fit Clash f (tested_part p m w n)) xs ≡ pick_fit (p || present ks xs) Present Clash
    go true m w n r = fit_present ks (f + 1) xs
    go false true true n r = r
    go false true false n r = r
    go false false w n r = r

fit_onto : (ks : List ℕ) (f g q : ℕ) (fs : List Family) → fit_from ks f (Onto g q) fs ≡ pick_fit (present ks fs) Present (pick_fit (eqb (touched ks fs) 0) (Onto g q) Clash)
unfolding fit_from
fit_onto ks f g q [] = refl
fit_onto ks f g q (x ∷ xs) = go (is_group ks [] x) (meets ks (kinds_of x)) (chains ks [] x) (place_in ks [] x) (fit_onto ks (f + 1) g q xs)
  where
    clashes : fit_from ks (f + 1) Clash xs ≡ pick_fit (present ks xs) Present (pick_fit (eqb (suc (touched ks xs)) 0) (Onto g q) Clash)
    clashes = fit_clash ks (f + 1) xs ∙ ap (λ (b : Bool). pick_fit (present ks xs) Present (pick_fit b (Onto g q) Clash)) (sym (eqb-suc-zero (touched ks xs)))

    go : (p m w : Bool) (n : ℕ) → fit_from ks (f + 1) (Onto g q) xs ≡ pick_fit (present ks xs) Present (pick_fit (eqb (touched ks xs) 0) (Onto g q) Clash)
        → fit_from ks (f + 1) (join_fit (Onto g q) f (tested_part p m w n)) xs
        ≡ pick_fit (p || present ks xs) Present (pick_fit (eqb (cond m (suc (touched ks xs)) (touched ks xs)) 0) (Onto g q) Clash)
    go true m w n r = fit_present ks (f + 1) xs
    go false true true n r = clashes
    go false true false n r = clashes
    go false false w n r = r

abbrev pub stands : List ℕ → ℕ → List Family → Fit
stands ks f fs =
    pick_fit (present ks fs) Present
    (pick_fit (eqb (touched ks fs) 0) Fresh (pick_fit (eqb (touched ks fs) 1 && chained ks fs) (Onto (f + first_touched ks fs) (first_place ks fs)) Clash))

fit_fresh : (ks : List ℕ) (f : ℕ) (fs : List Family) → fit_from ks f Fresh fs ≡ stands ks f fs
unfolding fit_from
fit_fresh ks f [] = refl
fit_fresh ks f (x ∷ xs) = go (is_group ks [] x) (meets ks (kinds_of x)) (chains ks [] x) (place_in ks [] x) (fit_fresh ks (f + 1) xs)
  where
    t : ℕ
    t = touched ks xs

    one_more_law : (n : ℕ) (b : Bool) → eqb t 0 ≡ b → (c : Bool) → chained ks xs ≡ c → pick_fit b (Onto f n) Clash ≡ pick_fit (b && c) (Onto (f + 0) n) Clash
    one_more_law n true e true d = ap (λ (i : ℕ). Onto i n) (sym (add-zero f))
    one_more_law n true e false d = absurd (true≢false (sym (untouched_chained ks xs (eqb-true t 0 e)) ∙ d))
    one_more_law n false e c d = refl

    go : (p m w : Bool) (n : ℕ) → fit_from ks (f + 1) Fresh xs ≡ stands ks (f + 1) xs
        → fit_from ks (f + 1) (join_fit Fresh f (tested_part p m w n)) xs
        ≡ pick_fit (p || present ks xs) Present
        (pick_fit (eqb (cond m (suc t) t) 0) Fresh
        (pick_fit (eqb (cond m (suc t) t) 1 && ((not m || w) && chained ks xs)) (Onto (f + cond m 0 (suc (first_touched ks xs))) (cond m n (first_place ks xs))) Clash))
    go true m w n r = fit_present ks (f + 1) xs
    go false true true n r =
        fit_onto ks (f + 1) f n xs
        ∙ rw (eqb-suc-zero t, eqb-suc-suc t 0) (ap (pick_fit (present ks xs) Present) (one_more_law n (eqb t 0) refl (chained ks xs) refl))
    go false true false n r = fit_clash ks (f + 1) xs ∙ rw (eqb-suc-zero t, and-false (eqb (suc t) 1))
    go false false w n r =
        r ∙ ap (λ (i : ℕ). pick_fit (present ks xs) Present (pick_fit (eqb t 0) Fresh (pick_fit (eqb t 1 && chained ks xs) (Onto i (first_place ks xs)) Clash)))
        (ap (λ (i : ℕ). i + first_touched ks xs) (add-one f) ∙ suc-add f (first_touched ks xs) ∙ sym (add-suc f (first_touched ks xs)))

-- ---- what each answer says

pub record IsFresh (ks : List ℕ) (fs : List Family) : Type 0 where
  pub absent : present ks fs ≡ false
  pub none : touched ks fs ≡ 0

pub record IsOnto (ks : List ℕ) (fs : List Family) (f at : ℕ) : Type 0 where
  pub absent : present ks fs ≡ false
  pub alone : touched ks fs ≡ 1
  pub chain : chained ks fs ≡ true
  pub first : f ≡ first_touched ks fs
  pub place : at ≡ first_place ks fs

pub record IsClash (ks : List ℕ) (fs : List Family) : Type 0 where
  pub absent : present ks fs ≡ false
  pub crosses : joins ks fs ≡ false

abbrev pub Says : List ℕ → List Family → Fit → Type 0
Says ks fs Fresh = IsFresh ks fs
Says ks fs Present = present ks fs ≡ true
Says ks fs (Onto f at) = IsOnto ks fs f at
Says ks fs Clash = IsClash ks fs

pub fit_says : (ks : List ℕ) (fs : List Family) (s : Fit) → fit_from ks 0 Fresh fs ≡ s → Says ks fs s
fit_says ks fs s e = subst (Says ks fs) (sym (fit_fresh ks 0 fs) ∙ e) (go (present ks fs) refl (eqb (touched ks fs) 0) refl (eqb (touched ks fs) 1) refl (chained ks fs) refl)
  where
    go : (p : Bool) → present ks fs ≡ p → (z : Bool) → eqb (touched ks fs) 0 ≡ z → (o : Bool) → eqb (touched ks fs) 1 ≡ o → (c : Bool) → chained ks fs ≡ c
        → Says ks fs (pick_fit p Present (pick_fit z Fresh (pick_fit (o && c) (Onto (0 + first_touched ks fs) (first_place ks fs)) Clash)))
    go true ep z ez o eo c ec = ep
    go false ep true ez o eo c ec = record { absent = ep; none = eqb-true (touched ks fs) 0 ez }
    go false ep false ez true eo true ec = record { absent = ep; alone = eqb-true (touched ks fs) 1 eo; chain = ec; first = omega arith; place = refl }
    go false ep false ez true eo false ec = record { absent = ep; crosses = rw ec (and-false (leb (touched ks fs) 1)) }
    go false ep false ez false eo c ec =
        let two : 1 < touched ks fs = above 1 (above 0 (omega arith) (eqb-false (touched ks fs) 0 ez)) (eqb-false (touched ks fs) 1 eo) in
        record { absent = ep; crosses = rw (lt-leb (touched ks fs) 1 two) }

-- ---- the model's answer

module _ (ks : List ℕ) (fs : List Family) where
  pub add_small : length ks < 2 → add_group ks fs ≡ nothing
  unfolding add_group
  add_small h = rw (le-ltb MAX_GROUP_ARITY (length ks) (omega arith), lt-ltb (length ks) 2 h)

  module _ (lo : 2 ≤ length ks) (hi : length ks ≤ MAX_GROUP_ARITY) where
    pub add_present : present ks fs ≡ true → add_group ks fs ≡ nothing
    unfolding add_group
    add_present e = rw (le-ltb (length ks) 2 lo, le-ltb MAX_GROUP_ARITY (length ks) hi, e)

    pub add_clash : IsClash ks fs → add_group ks fs ≡ refused CLASH
    unfolding add_group
    add_clash s = rw (le-ltb (length ks) 2 lo, le-ltb MAX_GROUP_ARITY (length ks) hi, s.absent, s.crosses)

    pub fresh_many : IsFresh ks fs → MAX_GROUP_COUNT ≤ groups_of fs → add_group ks fs ≡ refused MANY
    unfolding add_group
    fresh_many s h = rw (le-ltb (length ks) 2 lo, le-ltb MAX_GROUP_ARITY (length ks) hi, s.absent, s.none, untouched_chained ks fs s.none, le-leb MAX_GROUP_COUNT (groups_of fs) h)

    pub fresh_added : IsFresh ks fs → groups_of fs < MAX_GROUP_COUNT → add_group ks fs ≡ added (fs ++ ((new_group ks ∷ []) ∷ []))
    fresh_added s h = added_fresh ks fs lo hi s.absent h s.none

    pub onto_many : (f at : ℕ) → IsOnto ks fs f at → MAX_GROUP_COUNT ≤ groups_of fs → add_group ks fs ≡ refused MANY
    unfolding add_group
    onto_many f at s h = rw (le-ltb (length ks) 2 lo, le-ltb MAX_GROUP_ARITY (length ks) hi, s.absent, s.alone, s.chain, le-leb MAX_GROUP_COUNT (groups_of fs) h)

    pub onto_added : (f at : ℕ) → IsOnto ks fs f at → groups_of fs < MAX_GROUP_COUNT → add_group ks fs ≡ added (families_with ks fs)
    onto_added f at s h = added_onto ks fs lo hi s.absent h s.alone s.chain

-- ---- by the number of a family

pub untouched_at : (ks : List ℕ) (fs : List Family) → touched ks fs ≡ 0 → (i : ℕ) → i < length fs → meets ks (kinds_of (get_or fs i [])) ≡ false
untouched_at ks [] z i h = absurd (omega arith)
untouched_at ks (x ∷ xs) z zero h = bool_cases (meets ks (kinds_of x)) (λ t. absurd (omega (arith, rw t at z))) (λ t. t)
untouched_at ks (x ∷ xs) z (suc i) h =
    bool_cases (meets ks (kinds_of x)) (λ t. absurd (omega (arith, rw t at z))) (λ t. untouched_at ks xs (rw t at z) i (omega arith))

-- the one touched family: its number, the place of ks among its groups, and what the model does there
pub record Target (ks : List ℕ) (fs : List Family) (f at : ℕ) : Type 0 where
  pub inside : f < length fs
  pub chain : chains ks [] (get_or fs f []) ≡ true
  pub other : is_group ks [] (get_or fs f []) ≡ false
  pub place : at ≡ place_in ks [] (get_or fs f [])
  pub others : (i : ℕ) → i < length fs → i ≢ f → meets ks (kinds_of (get_or fs i [])) ≡ false
  pub places : families_with ks fs ≡ set fs f (family_with ks [] (get_or fs f []))

pub target : (ks : List ℕ) (fs : List Family) → touched ks fs ≡ 1 → chained ks fs ≡ true → present ks fs ≡ false → Target ks fs (first_touched ks fs) (first_place ks fs)
target ks [] o c p = absurd (omega arith)
target ks (x ∷ xs) o c p =
    bool_cases (meets ks (kinds_of x)) here
    (later (λ z. target ks xs z (chained_rest ks x xs c) (or_false_right (is_group ks [] x) (present ks xs) p)))
  where
    here : meets ks (kinds_of x) ≡ true → Target ks (x ∷ xs) (first_touched ks (x ∷ xs)) (first_place ks (x ∷ xs))
    here m =
        let z : touched ks xs ≡ 0 = omega (arith, rw m at o) in
        rw m
        (record {
          inside = omega arith;
          chain = chained_first ks x xs c m;
          other = or_false (is_group ks [] x) (present ks xs) p;
          place = refl;
          others = λ i h n. past z i h n;
          places = rw (m, families_with_same ks xs z);
        })
      where
        past : touched ks xs ≡ 0 → (i : ℕ) → i < suc (length xs) → i ≢ 0 → meets ks (kinds_of (get_or (x ∷ xs) i [])) ≡ false
        past z zero h n = absurd (n refl)
        past z (suc i) h n = untouched_at ks xs z i (omega arith)

    later : (touched ks xs ≡ 1 → Target ks xs (first_touched ks xs) (first_place ks xs)) → meets ks (kinds_of x) ≡ false → Target ks (x ∷ xs) (first_touched ks (x ∷ xs)) (first_place ks (x ∷ xs))
    later rec m =
        let r = rec (rw m at o) in
        rw m
        (record {
          inside = omega (arith, r.inside);
          chain = r.chain;
          other = r.other;
          place = r.place;
          others = λ i h n. past r i h n;
          places = rw m (ap {B = List Family} (λ l. x ∷ l) r.places);
        })
      where
        past : Target ks xs (first_touched ks xs) (first_place ks xs) → (i : ℕ) → i < suc (length xs) → i ≢ suc (first_touched ks xs) → meets ks (kinds_of (get_or (x ∷ xs) i [])) ≡ false
        past r zero h n = m
        past r (suc i) h n = r.others i (omega arith) (λ q. n (ap suc q))
