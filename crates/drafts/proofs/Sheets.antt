-- The same of commands: the groups of a job sheet in any order. Assumes nothing.
use mathlib.Core.Path.{◌≡◌, refl, ap, ap₂, sym, ◌∙◌, subst}
use mathlib.Core.Bool.{false}
use mathlib.Core.Option.{some}
use mathlib.Core.List.{List, [], ◌∷◌, ◌++◌, map}
use Prim.Native.Nat.{ℕ, ◌≤◌, ◌<◌}
use native.Mathlib.Omega.{arith}
use borrow.Author.Tests.{lt-leb}
use lib.ListN.{length}
use Rattle.model.specs.Numbers.{LIST_CAPACITY, MAX_KINDS}
use Rattle.model.specs.Model.{Family, Component, kind_of}
use Rattle.model.specs.Adding.{Added, nothing, added, refused, add_group}
use Rattle.model.specs.Listed.{listed}
use Rattle.model.specs.Forms.{SameGroups}
use Rattle.model.specs.Store.{Store, staged_kinds, with_control, with_staged, with_draft}
use Rattle.model.specs.Commands.{Command, HOLD, GROUP}
use Rattle.model.specs.Refusals.{unknown_kind}
use Rattle.model.specs.Run.{Outcome, accepts, does, store_after}
use Rattle.model.specs.Sound.{In, Distinct, StagedSound, StoreSound}
use Rattle.model.specs.Theorems.{grouped}
use Rattle.model.proofs.ListLaws.{map_append}
use Rattle.model.proofs.KindLists.{in_right}
use Rattle.model.proofs.Lengths.{clash}
use Rattle.model.proofs.Outcomes.{hold_staged, group_does}
use Rattle.tapes.specs.Tapes.{AllEncodable, after_one, after_all}
use Rattle.tapes.specs.Built.{hold_commands}
use Rattle.tapes.proofs.Tapes.{encodable_append, after_append}
use Rattle.tapes.proofs.Building.{next_in, next_new, next_few, one_by_one, holds_after, known_kind, holds_encodable, on_draft}
use Rattle.drafts.specs.Drafted.{and_then, drafted, AllStagedKindsSound, two_or_more, SameDraft}
use Rattle.drafts.proofs.AnyOrder.{any_order}
use Rattle.drafts.specs.Sheets.{sheet_commands, sheet_groups, SheetSound, NoneRefused, SameSheet}

-- ---- commands one after another

none_first : (a b : List Command) (s : Store) → NoneRefused (a ++ b) s → NoneRefused b (after_all a s)
none_first [] b s n = n
none_first (c ∷ a) b s n = none_first a b (after_one c s) n.1

none_append : (a b : List Command) (s : Store) → NoneRefused a s → NoneRefused b (after_all a s) → NoneRefused (a ++ b) s
none_append [] b s n m = m
none_append (c ∷ a) b s n m = (n.0, none_append a b (after_one c s) n.1 m)

-- ---- HOLD of each kind of a hand

holds_none : (ps : List Component) (s : Store) → Distinct (staged_kinds s ++ map kind_of ps) → length (s.control.staged ++ ps) ≤ LIST_CAPACITY → ((k : ℕ) → In (map kind_of ps) k → unknown_kind k s ≡ false) → NoneRefused (hold_commands ps) s
holds_none [] s d few known = tt
holds_none (p ∷ ps) s d few known =
    let e : (s.control.staged ++ (p ∷ [])) ++ ps ≡ s.control.staged ++ (p ∷ ps) = one_by_one s.control.staged ps p in
    let q : map kind_of (s.control.staged ++ (p ∷ [])) ++ map kind_of ps ≡ staged_kinds s ++ (p.kind ∷ map kind_of ps) =
    ap (λ (l : List ℕ). l ++ map kind_of ps) (map_append kind_of s.control.staged (p ∷ [])) ∙ one_by_one (staged_kinds s) (map kind_of ps) p.kind in
    let h : does (HOLD p.kind p.value) s ≡ accepts (with_control s (with_staged s.control (s.control.staged ++ (p ∷ [])))) [] =
    hold_staged s p.kind p.value (known p.kind (next_in (map kind_of ps) p.kind)) (next_new (staged_kinds s) (map kind_of ps) p.kind d) (lt-leb LIST_CAPACITY (length s.control.staged) (next_few s.control.staged ps p LIST_CAPACITY few)) in (
      (λ n r. clash (does (HOLD p.kind p.value) s) n _ _ r h),
      subst (NoneRefused (hold_commands ps)) (ap (store_after s) (sym h))
          (holds_none ps (with_control s (with_staged s.control (s.control.staged ++ (p ∷ [])))) (rw q d) (rw e few) (λ j i. known j (in_right (p.kind ∷ []) (map kind_of ps) j i))),
    )

-- ---- from a store with an empty hand

-- the store with this draft and this hand; on_draft has nothing in the hand
abbrev holding : Store → List Family → List Component → Store
holding s fs h = with_control s (with_draft (with_staged s.control h) fs)

module _ (s : Store) (small : (k : ℕ) → In s.kinds k → k < MAX_KINDS) where
  held_after : (h : List Component) (fs : List Family) → StagedSound s.settings.value_bytes s.kinds h → after_all (hold_commands h) (on_draft s fs) ≡ holding s fs h
  held_after h fs H = holds_after h (on_draft s fs) H.once H.few (λ k i. known_kind s small k (H.known k i))

  held_none : (h : List Component) (fs : List Family) → StagedSound s.settings.value_bytes s.kinds h → NoneRefused (hold_commands h) (on_draft s fs)
  held_none h fs H = holds_none h (on_draft s fs) H.once H.few (λ k i. known_kind s small k (H.known k i))

  -- a hand is held and grouped, and then come the commands cs
  module _ (h : List Component) (cs : List Command) (fs : List Family) (H : StagedSound s.settings.value_bytes s.kinds h) where
    abbrev here : Store
    here = holding s fs h

    grouped_on : (mid : List Family) (t : Store) (a : List ℕ) → does GROUP here ≡ accepts (on_draft s mid) a → NoneRefused cs (on_draft s mid) × (after_all cs (on_draft s mid) ≡ t)
        → NoneRefused (hold_commands h ++ (GROUP ∷ cs)) (on_draft s fs) × (after_all (hold_commands h ++ (GROUP ∷ cs)) (on_draft s fs) ≡ t)
    grouped_on mid t a g r = (
      none_append (hold_commands h) (GROUP ∷ cs) (on_draft s fs) (held_none h fs H)
          (subst (NoneRefused (GROUP ∷ cs)) (sym (held_after h fs H)) ((λ n e. clash (does GROUP here) n _ _ e g), subst (NoneRefused cs) (ap (store_after here) (sym g)) r.0)),
      after_append (hold_commands h) (GROUP ∷ cs) (on_draft s fs) ∙ ap (after_all (GROUP ∷ cs)) (held_after h fs H) ∙ ap (λ (x : Outcome). after_all cs (store_after here x)) g ∙ r.1,
    )

    grouped_held : NoneRefused (hold_commands h ++ (GROUP ∷ cs)) (on_draft s fs) → NoneRefused (GROUP ∷ cs) here
    grouped_held n = subst (NoneRefused (GROUP ∷ cs)) (held_after h fs H) (none_first (hold_commands h) (GROUP ∷ cs) (on_draft s fs) n)

  -- hands that are all accepted leave the draft that they make, and no command is refused
  drafted_sheet : (hs : List (List Component)) (fs gs : List Family) → SheetSound s.settings.value_bytes s.kinds hs → drafted (sheet_groups hs) fs ≡ some gs → NoneRefused (sheet_commands hs) (on_draft s fs) × (after_all (sheet_commands hs) (on_draft s fs) ≡ on_draft s gs)
  drafted_sheet [] fs gs H e = let q : fs ≡ gs = cc in (tt, ap (on_draft s) q)
  drafted_sheet (h ∷ hs) fs gs H e = go (add_group (map kind_of h) fs) refl e (λ mid q. drafted_sheet hs mid gs H.1 q)
    where
      go : (a : Added) → add_group (map kind_of h) fs ≡ a → and_then a fs (drafted (sheet_groups hs)) ≡ some gs
          → ((mid : List Family) → drafted (sheet_groups hs) mid ≡ some gs → NoneRefused (sheet_commands hs) (on_draft s mid) × (after_all (sheet_commands hs) (on_draft s mid) ≡ on_draft s gs))
          → NoneRefused (sheet_commands (h ∷ hs)) (on_draft s fs) × (after_all (sheet_commands (h ∷ hs)) (on_draft s fs) ≡ on_draft s gs)
      go nothing a q r = grouped_on h (sheet_commands hs) fs H.0 fs (on_draft s gs) (0 ∷ []) (group_does (holding s fs h) ∙ ap (grouped (holding s fs h)) a) (r fs q)
      go (added mid) a q r = grouped_on h (sheet_commands hs) fs H.0 mid (on_draft s gs) (1 ∷ []) (group_does (holding s fs h) ∙ ap (grouped (holding s fs h)) a) (r mid q)
      go (refused n) a q r = let z : ◌≡◌ {A = ℕ} 0 1 = cc in absurd (omega arith)

  -- and hands of which no command is refused are all accepted
  sheet_drafted : (hs : List (List Component)) (fs : List Family) → SheetSound s.settings.value_bytes s.kinds hs → NoneRefused (sheet_commands hs) (on_draft s fs) → (gs : List Family) × (drafted (sheet_groups hs) fs ≡ some gs)
  sheet_drafted [] fs H n = (fs, refl)
  sheet_drafted (h ∷ hs) fs H n = go (add_group (map kind_of h) fs) refl (grouped_held h (sheet_commands hs) fs H.0 n) (λ mid m. sheet_drafted hs mid H.1 m)
    where
      go : (a : Added) → add_group (map kind_of h) fs ≡ a → NoneRefused (GROUP ∷ sheet_commands hs) (holding s fs h)
          → ((mid : List Family) → NoneRefused (sheet_commands hs) (on_draft s mid) → (gs : List Family) × (drafted (sheet_groups hs) mid ≡ some gs))
          → (gs : List Family) × (and_then a fs (drafted (sheet_groups hs)) ≡ some gs)
      go nothing a m r = r fs (subst (NoneRefused (sheet_commands hs)) (ap (store_after (holding s fs h)) (group_does (holding s fs h) ∙ ap (grouped (holding s fs h)) a)) m.1)
      go (added mid) a m r = r mid (subst (NoneRefused (sheet_commands hs)) (ap (store_after (holding s fs h)) (group_does (holding s fs h) ∙ ap (grouped (holding s fs h)) a)) m.1)
      go (refused k) a m r = absurd (m.0 k (group_does (holding s fs h) ∙ ap (grouped (holding s fs h)) a))

-- ---- on a tape

pub sheet_encodable : (v : ℕ) (kinds : List ℕ) → ((k : ℕ) → In kinds k → k < MAX_KINDS) → (hs : List (List Component)) → SheetSound v kinds hs → AllEncodable v (sheet_commands hs)
sheet_encodable v kinds small [] H = tt
sheet_encodable v kinds small (h ∷ hs) H =
    encodable_append v (hold_commands h) (GROUP ∷ sheet_commands hs) (holds_encodable v h (λ k i. omega (arith, small k (H.0.known k i))) H.0.values) (tt, sheet_encodable v kinds small hs H.1)

-- ---- hands as lists of kinds

all_staged_sound : (v : ℕ) (kinds : List ℕ) (hs : List (List Component)) → SheetSound v kinds hs → AllStagedKindsSound kinds (sheet_groups hs)
all_staged_sound v kinds [] H = tt
all_staged_sound v kinds (h ∷ hs) H = (record { once = H.0.once; known = H.0.known }, all_staged_sound v kinds hs H.1)

-- ---- the theorem

-- in a sound store with an empty hand, whatever its draft
pub sheets_in_any_order : (s : Store) → StoreSound s → s.control.staged ≡ [] → (hs js : List (List Component)) → SheetSound s.settings.value_bytes s.kinds hs → SheetSound s.settings.value_bytes s.kinds js → SameGroups (two_or_more (sheet_groups hs)) (two_or_more (sheet_groups js))
    → NoneRefused (sheet_commands hs) s → SameSheet js s (after_all (sheet_commands hs) s) (after_all (sheet_commands js) s)
sheets_in_any_order s S bare hs js H J same n =
    let small = S.kinds.small in
    let start = s.control.draft in
    let at : on_draft s start ≡ s = ap (holding s start) (sym bare) in
    let d = sheet_drafted s small hs start H (subst (NoneRefused (sheet_commands hs)) (sym at) n) in
    let D : SameDraft (sheet_groups js) start d.0 = any_order s.kinds small start (record { buildable = S.draft; uncounted = S.uncounted }) (sheet_groups hs) (sheet_groups js) (all_staged_sound s.settings.value_bytes s.kinds hs H) (all_staged_sound s.settings.value_bytes s.kinds js J) same d.0 d.1 in
    let b = drafted_sheet s small js start D.draft J D.accepted in
    let first : after_all (sheet_commands hs) s ≡ on_draft s d.0 = ap (after_all (sheet_commands hs)) (sym at) ∙ (drafted_sheet s small hs start d.0 H d.1).1 in
    let second : after_all (sheet_commands js) s ≡ on_draft s D.draft = ap (after_all (sheet_commands js)) (sym at) ∙ b.1 in
    record {
      accepted = subst (NoneRefused (sheet_commands js)) at b.0;
      same = ap (λ (t : Store). listed t.control.draft) second ∙ D.same ∙ ap (λ (t : Store). listed t.control.draft) (sym first);
      rest = second ∙ ap₂ (λ (t u : Store). with_control t (with_draft t.control u.control.draft)) (sym first) (sym second);
    }
