-- What GROUP answers in a sound store, by the draft's groups as sets of kinds: 14 exactly where the hand forms no layout with them, 1 exactly where it forms
-- one that is new and there is room; and the draft then has exactly one group more. Assumes nothing.
use mathlib.Core.Path.{◌≡◌, refl, ap, sym, ◌∙◌, subst}
use mathlib.Core.Logic.{◌↔◌, ◌⊎◌, inl, inr, ⊎_elim}
use mathlib.Core.Bool.{Bool, true, false, true≢false}
use mathlib.Core.List.{List, [], ◌∷◌, ◌++◌, head-eq_of_cons-eq, tail-eq_of_cons-eq}
use Prim.Native.Nat.{ℕ, ◌≤◌, ◌<◌}
use native.Mathlib.Omega.{arith}
use borrow.Author.Tests.{leb-true, leb-false, le-leb, lt-leb, ltb-true, ltb-false, lt-ltb, le-ltb}
use lib.Dec.{leb, ltb}
use lib.ListN.{length}
use Rattle.model.specs.Numbers.{CLASH, MANY, MAX_GROUP_ARITY, MAX_GROUP_COUNT, WIDE}
use Rattle.model.specs.Model.{groups_of, present, adds_nothing, joins, with_group}
use Rattle.model.specs.Adding.{add_group}
use Rattle.model.specs.Store.{Store, staged_kinds, with_control, with_draft, empty_staged}
use Rattle.model.specs.Commands.{GROUP}
use Rattle.model.specs.Run.{Outcome, refuses, accepts, does, store_after, answer_of}
use Rattle.model.specs.Sound.{StoreSound}
use Rattle.model.specs.Forms.{has_group, SameGroups, Forms}
use Rattle.model.specs.Theorems.{OutSound}
use Rattle.model.proofs.BoolLaws.{bool_cases, or_cases, or_false, or_false_right, not_true, left_true, right_true}
use Rattle.model.proofs.Lengths.{clash}
use Rattle.model.proofs.Lines.{staged_narrow, staged_few, wide_never}
use Rattle.model.proofs.Outcomes.{group_does}
use Rattle.model.proofs.Sound.{does_sound}
use Rattle.drafts.specs.Grouped.{of_draft, of_draft_and_staged, Answers, Adds, Clashing, Joining, GroupTold}
use Rattle.drafts.proofs.Sets.{same_groups_sym, same_groups_again, present_has}
use Rattle.drafts.proofs.Forming.{forms_same, layout_forms, joins_forms, with_group_groups}

-- ---- the outcomes of a hand that is not too wide, by the three tests

module _ (s : Store) where
  abbrev too_wide : Bool
  too_wide = ltb MAX_GROUP_ARITY (length (staged_kinds s))

  abbrev idle : Bool
  idle = adds_nothing (staged_kinds s) s.control.draft

  abbrev fits : Bool
  fits = joins (staged_kinds s) s.control.draft

  abbrev full : Bool
  full = leb MAX_GROUP_COUNT (groups_of s.control.draft)

  -- the store after a group is added
  abbrev grown : Store
  grown = with_control s (with_draft (empty_staged s.control) (with_group (staged_kinds s) s.control.draft))

  group_nothing : too_wide ≡ false → idle ≡ true → does GROUP s ≡ accepts (with_control s (empty_staged s.control)) (0 ∷ [])
  unfolding add_group
  group_nothing a b = group_does s ∙ rw (a, b)

  group_clash : too_wide ≡ false → idle ≡ false → fits ≡ false → does GROUP s ≡ refuses CLASH
  unfolding add_group
  group_clash a b c = group_does s ∙ rw (a, b, c)

  group_many : too_wide ≡ false → idle ≡ false → fits ≡ true → full ≡ true → does GROUP s ≡ refuses MANY
  unfolding add_group
  group_many a b c d = group_does s ∙ rw (a, b, c, d)

  group_added : too_wide ≡ false → idle ≡ false → fits ≡ true → full ≡ false → does GROUP s ≡ accepts grown (1 ∷ [])
  unfolding add_group
  group_added a b c d = group_does s ∙ rw (a, b, c, d)

-- two outcomes that are the same, and that are not

same_refusal : (o : Outcome) (m n : ℕ) → o ≡ refuses m → o ≡ refuses n → m ≡ n
same_refusal o m n p q = cc

same_answer : (o : Outcome) (s t : Store) (a b : ℕ) → o ≡ accepts s (a ∷ []) → o ≡ accepts t (b ∷ []) → a ≡ b
same_answer o s t a b p q = cc

other_refusal : (o : Outcome) (m n : ℕ) → (m ≡ n → ⊥) → o ≡ refuses m → o ≡ refuses n → ⊥
other_refusal o m n ne p q = ne (same_refusal o m n p q)

other_answer : (o : Outcome) (s t : Store) (a b : ℕ) → (a ≡ b → ⊥) → o ≡ accepts s (a ∷ []) → o ≡ accepts t (b ∷ []) → ⊥
other_answer o s t a b ne p q = ne (same_answer o s t a b p q)

zero_not : (n : ℕ) → 1 ≤ n → 0 ≡ n → ⊥
zero_not n h e = omega arith

-- ---- in a sound store

module _ (s : Store) (S : StoreSound s) where
  forms_of : joins (staged_kinds s) s.control.draft ≡ true → Forms (of_draft_and_staged s)
  forms_of = (joins_forms (staged_kinds s) s.control.draft S.draft.once).0

  joins_of : Forms (of_draft_and_staged s) → joins (staged_kinds s) s.control.draft ≡ true
  joins_of = (joins_forms (staged_kinds s) s.control.draft S.draft.once).1

  -- a hand that is a group of the draft forms a layout with them
  again_forms : has_group (staged_kinds s) (of_draft s) ≡ true → Forms (of_draft_and_staged s)
  again_forms i =
      forms_same (of_draft s) (of_draft_and_staged s) (same_groups_sym (of_draft_and_staged s) (of_draft s) (same_groups_again (staged_kinds s) (of_draft s) i))
      (layout_forms s.control.draft S.draft.once)

  -- the tests, by what they say
  two_of : idle s ≡ false → 2 ≤ length (staged_kinds s)
  two_of b = omega (arith, ltb-false (length (staged_kinds s)) 2 (or_false (ltb (length (staged_kinds s)) 2) (present (staged_kinds s) s.control.draft) b))

  new_of : idle s ≡ false → has_group (staged_kinds s) (of_draft s) ≡ false
  new_of b = sym (present_has (staged_kinds s) s.control.draft) ∙ or_false_right (ltb (length (staged_kinds s)) 2) (present (staged_kinds s) s.control.draft) b

  narrow : too_wide s ≡ false
  narrow = le-ltb MAX_GROUP_ARITY (length (staged_kinds s)) (staged_narrow (length (staged_kinds s)) (staged_few s S))

  of_new : 2 ≤ length (staged_kinds s) → has_group (staged_kinds s) (of_draft s) ≡ false → idle s ≡ false
  of_new h n = rw (le-ltb (length (staged_kinds s)) 2 h, present_has (staged_kinds s) s.control.draft) n

  of_small : (length (staged_kinds s) < 2) ⊎ (has_group (staged_kinds s) (of_draft s) ≡ true) → idle s ≡ true
  of_small =
      ⊎_elim
      (λ h. left_true (ltb (length (staged_kinds s)) 2) (present (staged_kinds s) s.control.draft) (lt-ltb (length (staged_kinds s)) 2 h))
      (λ i. right_true (ltb (length (staged_kinds s)) 2) (present (staged_kinds s) s.control.draft) (present_has (staged_kinds s) s.control.draft ∙ i))

  of_joining : Joining s → idle s ≡ false
  of_joining j = of_new j.two j.new

  joining : idle s ≡ false → fits s ≡ true → Joining s
  joining b f = record { two = two_of b; new = new_of b; forms = forms_of f }

  -- by the outcome; 13 is none (`wide_never`)
  group_cases : {P : Type 0}
      → (idle s ≡ true → does GROUP s ≡ accepts (with_control s (empty_staged s.control)) (0 ∷ []) → P)
      → (idle s ≡ false → fits s ≡ false → does GROUP s ≡ refuses CLASH → P)
      → (idle s ≡ false → fits s ≡ true → full s ≡ true → does GROUP s ≡ refuses MANY → P)
      → (idle s ≡ false → fits s ≡ true → full s ≡ false → does GROUP s ≡ accepts (grown s) (1 ∷ []) → P)
      → P
  group_cases n c m g =
      bool_cases (idle s) (λ b. n b (group_nothing s narrow b))
      (λ b. bool_cases (fits s)
      (λ f. bool_cases (full s) (λ d. m b f d (group_many s narrow b f d)) (λ d. g b f d (group_added s narrow b f d)))
      (λ f. c b f (group_clash s narrow b f)))

  -- 14: the hand forms no layout with the draft's groups. A small hand is answered 0, and so is one that is a group already.
  pub clash_exactly : (does GROUP s ≡ refuses CLASH) ↔ Clashing s
  clash_exactly = (to, from)
    where
      to : does GROUP s ≡ refuses CLASH → Clashing s
      to o =
          group_cases
          (λ b e. absurd (clash (does GROUP s) CLASH _ _ o e))
          (λ b f e. record { two = two_of b; none = λ F. true≢false (sym (joins_of F) ∙ f) })
          (λ b f d e. absurd (other_refusal (does GROUP s) CLASH MANY (λ x. omega arith) o e))
          (λ b f d e. absurd (clash (does GROUP s) CLASH _ _ o e))

      from : Clashing s → does GROUP s ≡ refuses CLASH
      from c =
          group_clash s narrow
          (of_new c.two (not_true (has_group (staged_kinds s) (of_draft s)) (λ i. c.none (again_forms i))))
          (not_true (joins (staged_kinds s) s.control.draft) (λ j. c.none (forms_of j)))

  -- 15: it would be added, and the draft is full
  pub many_exactly : (does GROUP s ≡ refuses MANY) ↔ (Joining s × (MAX_GROUP_COUNT ≤ groups_of s.control.draft))
  many_exactly = (to, λ j. group_many s narrow (of_joining j.0) (joins_of j.0.forms) (le-leb MAX_GROUP_COUNT (groups_of s.control.draft) j.1))
    where
      to : does GROUP s ≡ refuses MANY → Joining s × (MAX_GROUP_COUNT ≤ groups_of s.control.draft)
      to o =
          group_cases
          (λ b e. absurd (clash (does GROUP s) MANY _ _ o e))
          (λ b f e. absurd (other_refusal (does GROUP s) MANY CLASH (λ x. omega arith) o e))
          (λ b f d e. (joining b f, leb-true MAX_GROUP_COUNT (groups_of s.control.draft) d))
          (λ b f d e. absurd (clash (does GROUP s) MANY _ _ o e))

  -- 1: it is added
  pub added_exactly : Answers s 1 ↔ (Joining s × (groups_of s.control.draft < MAX_GROUP_COUNT))
  added_exactly = (to, λ j. record { store = grown s; outcome = group_added s narrow (of_joining j.0) (joins_of j.0.forms) (lt-leb MAX_GROUP_COUNT (groups_of s.control.draft) j.1) })
    where
      to : Answers s 1 → Joining s × (groups_of s.control.draft < MAX_GROUP_COUNT)
      to x =
          group_cases
          (λ b e. absurd (other_answer (does GROUP s) _ _ 1 0 (λ z. omega arith) x.outcome e))
          (λ b f e. absurd (clash (does GROUP s) CLASH _ _ e x.outcome))
          (λ b f d e. absurd (clash (does GROUP s) MANY _ _ e x.outcome))
          (λ b f d e. (joining b f, omega (arith, leb-false MAX_GROUP_COUNT (groups_of s.control.draft) d)))

  -- 0: "A new group of fewer than two kinds, or equal to one present, adds nothing."
  pub nothing_exactly : Answers s 0 ↔ ((length (staged_kinds s) < 2) ⊎ (has_group (staged_kinds s) (of_draft s) ≡ true))
  nothing_exactly = (to, λ h. record { store = with_control s (empty_staged s.control); outcome = group_nothing s narrow (of_small h) })
    where
      to : Answers s 0 → (length (staged_kinds s) < 2) ⊎ (has_group (staged_kinds s) (of_draft s) ≡ true)
      to x =
          group_cases
          (λ b e. or_cases (ltb (length (staged_kinds s)) 2) (present (staged_kinds s) s.control.draft) b (λ t. inl (ltb-true (length (staged_kinds s)) 2 t)) (λ t. inr (sym (present_has (staged_kinds s) s.control.draft) ∙ t)))
          (λ b f e. absurd (clash (does GROUP s) CLASH _ _ e x.outcome))
          (λ b f d e. absurd (clash (does GROUP s) MANY _ _ e x.outcome))
          (λ b f d e. absurd (other_answer (does GROUP s) _ _ 0 1 (λ z. omega arith) x.outcome e))

  -- the draft has one group more
  pub group_adds : (s' : Store) → does GROUP s ≡ accepts s' (1 ∷ []) → Adds s s'
  group_adds s' o =
      let S' : StoreSound s' = subst OutSound o (does_sound GROUP s tt S) in
      group_cases
      (λ b e. absurd (other_answer (does GROUP s) _ _ 1 0 (λ z. omega arith) o e))
      (λ b f e. absurd (clash (does GROUP s) CLASH _ _ e o))
      (λ b f d e. absurd (clash (does GROUP s) MANY _ _ e o))
      (λ b f d e.
      let same : grown s ≡ s' = cc in
      record {
        groups = subst (λ (t : Store). SameGroups (of_draft t) (of_draft_and_staged s)) same (with_group_groups (staged_kinds s) s.control.draft f);
        sound = record { buildable = S'.draft; uncounted = S'.uncounted };
        emptied = sym (ap (λ (t : Store). t.control.staged) same);
      })

  -- ---- by the answer's bytes

  refused_told : (n : ℕ) (rest : List ℕ) → (n ≡ 0 → ⊥) → does GROUP s ≡ refuses n → GroupTold s (store_after s (refuses n)) (n ∷ rest)
  refused_told n rest some e =
      record {
        wide = λ q. wide_never GROUP s S (e ∙ ap refuses (head-eq_of_cons-eq q));
        clashes = byte CLASH clash_exactly;
        many = byte MANY many_exactly;
        added = ((λ q. absurd (some (head-eq_of_cons-eq q))), (λ j. absurd (clash (does GROUP s) n _ _ e (added_exactly.1 j).outcome)));
        nothing = ((λ q. absurd (some (head-eq_of_cons-eq q))), (λ h. absurd (clash (does GROUP s) n _ _ e (nothing_exactly.1 h).outcome)));
        adds = λ q. absurd (some (head-eq_of_cons-eq q));
        keeps = λ q. refl;
        empties = λ q. absurd (some (head-eq_of_cons-eq q));
      }
    where
      byte : {P : Type 0} (m : ℕ) → (does GROUP s ≡ refuses m) ↔ P → (n ∷ [] ≡ m ∷ []) ↔ P
      byte m x = ((λ q. x.0 (e ∙ ap refuses (head-eq_of_cons-eq q))), (λ p. ap (λ (k : ℕ). k ∷ []) (same_refusal (does GROUP s) n m e (x.1 p))))

  accepted_told : (s' : Store) (a : ℕ) (rest : List ℕ) → ((a ≡ 1 → ⊥) → s'.control.draft ≡ s.control.draft) → s'.control.staged ≡ [] → does GROUP s ≡ accepts s' (a ∷ []) → GroupTold s s' (0 ∷ a ∷ rest)
  accepted_told s' a rest kept emptied e =
      let one : a ≡ 1 → does GROUP s ≡ accepts s' (1 ∷ []) = λ q. e ∙ ap (λ (x : ℕ). accepts s' (x ∷ [])) q in
      record {
        wide = λ q. zero_not WIDE (omega arith) (head-eq_of_cons-eq q);
        clashes = other CLASH (omega arith) clash_exactly;
        many = other MANY (omega arith) many_exactly;
        added = ((λ q. added_exactly.0 (record { store = s'; outcome = one (second q) })), (λ j. byte (same_answer (does GROUP s) _ _ a 1 e (added_exactly.1 j).outcome)));
        nothing = ((λ q. nothing_exactly.0 (record { store = s'; outcome = e ∙ ap (λ (x : ℕ). accepts s' (x ∷ [])) (second q) })), (λ h. byte (same_answer (does GROUP s) _ _ a 0 e (nothing_exactly.1 h).outcome)));
        adds = λ q. group_adds s' (one (second q));
        keeps = λ q. kept (λ z. q (byte z));
        empties = λ q. emptied;
      }
    where
      other : {P : Type 0} (m : ℕ) → 1 ≤ m → (does GROUP s ≡ refuses m) ↔ P → (0 ∷ [] ≡ m ∷ []) ↔ P
      other m h x = ((λ q. absurd (zero_not m h (head-eq_of_cons-eq q))), (λ p. absurd (clash (does GROUP s) m _ _ (x.1 p) e)))

      second : {b : ℕ} → 0 ∷ a ∷ [] ≡ 0 ∷ b ∷ [] → a ≡ b
      second q = head-eq_of_cons-eq (tail-eq_of_cons-eq q)

      byte : {b : ℕ} → a ≡ b → 0 ∷ a ∷ [] ≡ 0 ∷ b ∷ []
      byte q = ap (λ (x : ℕ). 0 ∷ x ∷ []) q

  pub group_told : (rest : List ℕ) → GroupTold s (store_after s (does GROUP s)) (answer_of (does GROUP s) ++ rest)
  group_told rest =
      group_cases
      (λ b e. of e (accepted_told (with_control s (empty_staged s.control)) 0 rest (λ n. refl) refl e))
      (λ b f e. of e (refused_told CLASH rest (λ z. omega arith) e))
      (λ b f d e. of e (refused_told MANY rest (λ z. omega arith) e))
      (λ b f d e. of e (accepted_told (grown s) 1 rest (λ n. absurd (n refl)) refl e))
    where
      of : {x : Outcome} → does GROUP s ≡ x → GroupTold s (store_after s x) (answer_of x ++ rest) → GroupTold s (store_after s (does GROUP s)) (answer_of (does GROUP s) ++ rest)
      of e t = subst (λ (x : Outcome). GroupTold s (store_after s x) (answer_of x ++ rest)) (sym e) t
