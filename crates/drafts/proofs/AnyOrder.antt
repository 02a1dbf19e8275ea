-- Groups in any order: what a draft's groups are after GROUPs of hands, and that the same hands in another order make the same draft. Assumes nothing.
use mathlib.Core.Path.{◌≡◌, refl, sym, ◌∙◌, subst}
use mathlib.Core.Option.{Option, some, none}
use mathlib.Core.Bool.{true, false, true≢false, false≢true}
use mathlib.Core.List.{List, [], ◌∷◌, ◌++◌}
use Prim.Native.Nat.{ℕ, ◌<◌}
use native.Mathlib.Omega.{arith}
use borrow.Author.Tests.{ltb-true, leb-true}
use lib.Dec.{ltb, leb}
use lib.ListN.{length}
use Rattle.model.specs.Numbers.{MAX_GROUP_ARITY, MAX_GROUP_COUNT}
use Rattle.model.specs.Model.{Family, groups_of, present, adds_nothing, joins}
use Rattle.model.specs.Adding.{Added, nothing, added, refused, add_group}
use Rattle.model.specs.Listed.{rising_kinds, ordered, listed}
use Rattle.model.specs.Forms.{all_groups, has_group, SameGroups}
use Rattle.model.specs.Theorems.{DraftSound, AddedSound}
use Rattle.model.proofs.BoolLaws.{bool_cases, cond_case, or_cases, or_false, or_false_right}
use Rattle.model.proofs.Draft.{add_group_sound}
use Rattle.drafts.specs.Drafted.{and_then, drafted, Small, StagedKindsSound, AllStagedKindsSound, two_or_more, DraftOf, SameDraft}
use Rattle.drafts.proofs.Sets.{same_groups_refl, same_groups_sym, same_groups_append, same_groups_middle, same_groups_again, same_set_sym, Among, has_first, has_here, has_there, has_over, has_cases, has_left, has_right, has_split, group_narrow, present_has}
use Rattle.drafts.proofs.Forming.{joins_forms, forms_part, layout_forms, with_group_groups}
use Rattle.drafts.proofs.Listing.{more_groups, listed_unique}

-- ---- one GROUP

-- the groups that a GROUP of h leaves
abbrev AddedGroups : List ℕ → List Family → Added → Type 0
AddedGroups h fs nothing = SameGroups (all_groups fs) (two_or_more (h ∷ []) ++ all_groups fs)
AddedGroups h fs (added gs) = SameGroups (all_groups gs) (two_or_more (h ∷ []) ++ all_groups fs)
AddedGroups h fs (refused n) = Unit {0}

-- computed: a hand of one kind leaves the groups as they are
example_one_kind : (k : ℕ) (fs : List Family) → AddedGroups (k ∷ []) fs (add_group (k ∷ []) fs)
unfolding add_group
example_one_kind k fs = same_groups_refl (all_groups fs)

-- a hand that adds nothing
nothing_groups : (h : List ℕ) (fs : List Family) → adds_nothing h fs ≡ true → SameGroups (all_groups fs) (two_or_more (h ∷ []) ++ all_groups fs)
nothing_groups h fs t =
    cond_case (λ (l : List (List ℕ)). SameGroups (all_groups fs) (l ++ all_groups fs)) _ _ _
    (λ u. same_groups_refl (all_groups fs))
    (λ u. same_groups_sym (h ∷ all_groups fs) (all_groups fs) (same_groups_again h (all_groups fs) (sym (present_has h fs) ∙ or_cases (ltb (length h) 2) (present h fs) t (λ v. absurd (true≢false (sym v ∙ u))) (λ v. v))))

add_group_groups : (h : List ℕ) (fs : List Family) → AddedGroups h fs (add_group h fs)
unfolding add_group
add_group_groups h fs =
    cond_case (AddedGroups h fs) (ltb MAX_GROUP_ARITY (length h)) _ _ (λ t. tt)
    (λ narrow. cond_case (AddedGroups h fs) (adds_nothing h fs) _ _ (nothing_groups h fs)
    (λ new. cond_case (AddedGroups h fs) (joins h fs) _ _
    (λ fits. cond_case (AddedGroups h fs) (leb MAX_GROUP_COUNT (groups_of fs)) _ _ (λ t. tt)
    (λ few. rw (or_false (ltb (length h) 2) (present h fs) new) (with_group_groups h fs fits)))
    (λ clash. tt)))

-- ---- one after another

two_first : (h : List ℕ) (hs gs : List (List ℕ)) → SameGroups (two_or_more hs ++ (two_or_more (h ∷ []) ++ gs)) (two_or_more (h ∷ hs) ++ gs)
two_first h hs gs =
    bool_cases (ltb (length h) 2)
    (λ t. rw t (same_groups_refl (two_or_more hs ++ gs)))
    (λ t. rw t (same_groups_middle (two_or_more hs) h gs))

built_more : (kinds h : List ℕ) (hs : List (List ℕ)) (fs mid gs : List Family) → SameGroups (all_groups mid) (two_or_more (h ∷ []) ++ all_groups fs) → DraftOf kinds hs mid gs → DraftOf kinds (h ∷ hs) fs gs
built_more kinds h hs fs mid gs s b =
    record {
      sound = b.sound;
      groups = λ g.
          b.groups g
          ∙ same_groups_append (two_or_more hs) (two_or_more hs) (all_groups mid) (two_or_more (h ∷ []) ++ all_groups fs) (same_groups_refl (two_or_more hs)) s g
          ∙ two_first h hs (all_groups fs) g;
    }

-- what a draft has after GROUPs of hands, none refused
pub drafted_groups : (kinds : List ℕ) (hs : List (List ℕ)) (fs gs : List Family) → AllStagedKindsSound kinds hs → DraftSound kinds fs → drafted hs fs ≡ some gs → DraftOf kinds hs fs gs
drafted_groups kinds [] fs gs H D e =
    let q : fs ≡ gs = cc in
    subst (DraftOf kinds [] fs) q (record { sound = D; groups = same_groups_refl (all_groups fs) })
drafted_groups kinds (h ∷ hs) fs gs H D e =
    go (add_group h fs) (add_group_groups h fs) (add_group_sound kinds h fs H.0.once H.0.known D) e (λ mid M q. drafted_groups kinds hs mid gs H.1 M q)
  where
    go : (a : Added) → AddedGroups h fs a → AddedSound kinds a → and_then a fs (drafted hs) ≡ some gs → ((mid : List Family) → DraftSound kinds mid → drafted hs mid ≡ some gs → DraftOf kinds hs mid gs) → DraftOf kinds (h ∷ hs) fs gs
    go nothing s A q r = built_more kinds h hs fs fs gs s (r fs D q)
    go (added mid) s A q r = built_more kinds h hs fs mid gs s (r mid A q)
    go (refused n) s A q r = let z : ◌≡◌ {A = ℕ} 0 1 = cc in absurd (omega arith)

-- ---- hands that are groups of a draft are accepted on the way to it

abbrev Accepted : Added → Type 0
Accepted nothing = Unit {0}
Accepted (added gs) = Unit {0}
Accepted (refused n) = ⊥

module _ (kinds : List ℕ) (small : Small kinds) (fs : List Family) (F : DraftSound kinds fs) where
  add_group_accepted : (gs : List Family) → DraftSound kinds gs → Among (all_groups gs) (all_groups fs) → (h : List ℕ) → StagedKindsSound kinds h → Among (two_or_more (h ∷ [])) (all_groups fs) → Accepted (add_group h gs)
  unfolding add_group
  add_group_accepted gs G p h H q =
      cond_case Accepted (ltb MAX_GROUP_ARITY (length h)) _ _
      (λ t. let l = ltb-true MAX_GROUP_ARITY (length h) t in absurd (omega (arith, group_narrow h fs H.once F.buildable.families (there (two l)))))
      (λ narrow. cond_case Accepted (adds_nothing h gs) _ _ (λ t. tt)
      (λ new.
      let i = there (or_false (ltb (length h) 2) (present h gs) new) in
      let j : joins h gs ≡ true = (joins_forms h gs G.buildable.once).1 (forms_part (all_groups fs) (h ∷ all_groups gs) (λ g t. has_cases g h (all_groups gs) t (λ s. has_over h g (all_groups fs) (same_set_sym g h s) i) (p g)) (layout_forms fs F.buildable.once)) in
      cond_case Accepted (joins h gs) _ _
      (λ fits. cond_case Accepted (leb MAX_GROUP_COUNT (groups_of gs)) _ _
      (λ t. absurd (omega (arith, leb-true MAX_GROUP_COUNT (groups_of gs) t, F.buildable.few, more_groups kinds kinds small small gs fs G.buildable F.buildable p h (λ k u. small k (H.known k u)) (sym (present_has h gs) ∙ or_false_right (ltb (length h) 2) (present h gs) new) i)))
      (λ few. tt))
      (λ clash. true≢false (sym j ∙ clash))))
    where
      there : ltb (length h) 2 ≡ false → has_group h (all_groups fs) ≡ true
      there t = q h (rw t (has_first h []))

      two : MAX_GROUP_ARITY < length h → ltb (length h) 2 ≡ false
      two l = bool_cases (ltb (length h) 2) (λ t. absurd (omega (arith, ltb-true (length h) 2 t))) (λ t. t)

two_one : (h : List ℕ) (hs : List (List ℕ)) → Among (two_or_more (h ∷ [])) (two_or_more (h ∷ hs))
two_one h hs g t =
    bool_cases (ltb (length h) 2)
    (λ u. absurd (false≢true (rw u at t)))
    (λ u. rw u (has_cases g h [] (rw u at t) (has_here g h (two_or_more hs)) (λ v. absurd (false≢true v))))

two_rest : (h : List ℕ) (hs : List (List ℕ)) → Among (two_or_more hs) (two_or_more (h ∷ hs))
two_rest h hs g t = cond_case (λ (l : List (List ℕ)). has_group g l ≡ true) (ltb (length h) 2) _ _ (λ u. t) (λ u. has_there g h (two_or_more hs) t)

module _ (kinds : List ℕ) (small : Small kinds) (fs : List Family) (F : DraftSound kinds fs) where
  -- from a draft whose groups are all groups of fs, hands that are groups of fs, or have fewer than two kinds, are none of them refused
  pub drafted_accepted : (hs : List (List ℕ)) (gs : List Family) → AllStagedKindsSound kinds hs → DraftSound kinds gs → Among (all_groups gs) (all_groups fs) → Among (two_or_more hs) (all_groups fs)
      → (out : List Family) × (drafted hs gs ≡ some out)
  drafted_accepted [] gs H G p q = (gs, refl)
  drafted_accepted (h ∷ hs) gs H G p q =
      go (add_group h gs) (add_group_accepted kinds small fs F gs G p h H.0 (λ g t. q g (two_one h hs g t))) (add_group_groups h gs) (add_group_sound kinds h gs H.0.once H.0.known G)
      (λ mid M r. drafted_accepted hs mid H.1 M r (λ g t. q g (two_rest h hs g t)))
    where
      go : (a : Added) → Accepted a → AddedGroups h gs a → AddedSound kinds a → ((mid : List Family) → DraftSound kinds mid → Among (all_groups mid) (all_groups fs) → (out : List Family) × (drafted hs mid ≡ some out)) → (out : List Family) × (and_then a gs (drafted hs) ≡ some out)
      go nothing c s A r = r gs G p
      go (added mid) c s A r = r mid A (λ g t. has_split g (two_or_more (h ∷ [])) (all_groups gs) (sym (s g) ∙ t) (λ u. q g (two_one h hs g u)) (p g))
      go (refused n) c s A r = absurd c

-- ---- in another order

-- "A draft built from the same groups in another order accepts all of them too and gives the same families", from any draft on. The same groups: the hands of
-- two kinds or more, as sets
pub any_order : (kinds : List ℕ) → Small kinds → (start : List Family) → DraftSound kinds start → (hs js : List (List ℕ)) → AllStagedKindsSound kinds hs → AllStagedKindsSound kinds js → SameGroups (two_or_more hs) (two_or_more js)
    → (fs : List Family) → drafted hs start ≡ some fs → SameDraft js start fs
any_order kinds small start D hs js H J s fs e =
    let B = drafted_groups kinds hs start fs H D e in
    let r = drafted_accepted kinds small fs B.sound js start J D
    (λ g t. B.groups g ∙ has_right g (two_or_more hs) (all_groups start) t)
    (λ g t. B.groups g ∙ has_left g (two_or_more hs) (all_groups start) (s g ∙ t)) in
    let C = drafted_groups kinds js start r.0 J D r.1 in
    record {
      draft = r.0;
      accepted = r.1;
      same = listed_unique kinds kinds small small r.0 fs C.sound.buildable B.sound.buildable
          (λ g. C.groups g ∙ same_groups_append (two_or_more js) (two_or_more hs) (all_groups start) (all_groups start) (same_groups_sym (two_or_more hs) (two_or_more js) s) (same_groups_refl (all_groups start)) g ∙ sym (B.groups g));
    }

-- ---- computed: 01's draft {1,2}, {1,2,3,4} with 02's {1,2,3}, and a family beside it, in two orders

abbrev smallest_first : List (List ℕ)
smallest_first = (1 ∷ 2 ∷ []) ∷ (1 ∷ 2 ∷ 3 ∷ []) ∷ (1 ∷ 2 ∷ 3 ∷ 4 ∷ []) ∷ (0 ∷ 9 ∷ []) ∷ []

abbrev other_order : List (List ℕ)
other_order = (4 ∷ 3 ∷ 2 ∷ 1 ∷ []) ∷ (9 ∷ 0 ∷ []) ∷ (2 ∷ 1 ∷ []) ∷ (4 ∷ 2 ∷ 3 ∷ 1 ∷ []) ∷ (3 ∷ 1 ∷ 2 ∷ []) ∷ []

abbrev listed_any : Option (List Family) → List (List ℕ)
listed_any none = []
listed_any (some fs) = listed fs

example_first : listed_any (drafted smallest_first []) ≡ (0 ∷ 9 ∷ []) ∷ (1 ∷ 2 ∷ []) ∷ (1 ∷ 2 ∷ 3 ∷ []) ∷ (1 ∷ 2 ∷ 3 ∷ 4 ∷ []) ∷ []
unfolding add_group listed ordered rising_kinds
example_first = refl

example_other : listed_any (drafted other_order []) ≡ listed_any (drafted smallest_first [])
unfolding add_group listed ordered rising_kinds
example_other = refl

-- {1,2}, {3,4} and {1,2,3,4} are not all accepted, in two orders: {1,2,3,4} shares kinds with two families ("one family at most"), and {3,4} is no chain
-- with {1,2} in the family of {1,2,3,4}

abbrev wide_last : List (List ℕ)
wide_last = (1 ∷ 2 ∷ []) ∷ (3 ∷ 4 ∷ []) ∷ (1 ∷ 2 ∷ 3 ∷ 4 ∷ []) ∷ []

abbrev wide_first : List (List ℕ)
wide_first = (1 ∷ 2 ∷ 3 ∷ 4 ∷ []) ∷ (1 ∷ 2 ∷ []) ∷ (3 ∷ 4 ∷ []) ∷ []

example_wide_last : drafted wide_last [] ≡ none
unfolding add_group
example_wide_last = refl

example_wide_first : drafted wide_first [] ≡ none
unfolding add_group
example_wide_first = refl
