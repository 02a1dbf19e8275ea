-- Every command keeps a sound store sound, so every run does, and so does every step of it. Assumes nothing.
use mathlib.Core.Path.{◌≡◌}
use mathlib.Core.Bool.{true, false, not, ◌||◌}
use mathlib.Core.Option.{Option, some, none}
use mathlib.Core.List.{List, [], ◌∷◌}
use Prim.Native.Nat.{ℕ, zero, suc, ◌+◌, ◌-◌, ◌^◌, ◌≤◌, ◌<◌}
use native.Mathlib.Omega.{arith}
use native.Mathlib.Nat.{pow-suc, one-le-pow}
use borrow.Author.Tests.{ltb-false, leb-false, not-false, le-leb}
use lib.Dec.{ltb, leb, lit<}
use lib.ListN.{length, take, drop, get_or, length-take, length-drop}
use Rattle.model.specs.Numbers.{LAST_CALLER, LAST_KIND, LIST_CAPACITY, MAX_GROUP_ARITY, MAX_GROUP_COUNT}
use Rattle.model.specs.Model.{is_live, adds_nothing, joins, with_group, groups_of, free_numbers}
use Rattle.model.specs.Store.{Bytes, Settings, Store, empty_with, number, staged_kinds, is_kind, with_control, counted, empty_staged, empty_both}
use Rattle.model.specs.Commands.{Command, REG, HOLD, NEW, PUT, TAKE, DROP, KILL, WIPE, GROUP, APPLY, BAR, RANGE, EMPTY, TALLY, TRAY, SETCALLER, Done, accepted, widths, width, commands, command_at, command_on, operands_len}
use Rattle.model.specs.Refusals.{first_line, lines_of, before_lines, NoneHolds}
use Rattle.model.specs.Run.{Outcome, refuses, accepts, does, Step, stops, goes, step_of, step_if, step, Ran, halt, more, run_for, run}
use Rattle.model.specs.History.{trail_for, trail, EachStore}
use Rattle.model.specs.Sound.{Limits, StoreSound}
use Rattle.model.proofs.BoolLaws.{cond_case, or_false_right, not_and, not_not}
use Rattle.model.proofs.KindLists.{all_most}
use Rattle.model.proofs.Draft.{with_group_sound}
use Rattle.model.proofs.Operations.{control_of, control_sound, register_sound, insert_sound, remove_sound, kill_sound, clear_all_sound, set_layout_sound, stage_sound, exclude_sound, draft_sound, empty_staged_sound, emptied, empty_both_sound, counted_sound, caller_sound, no_draft, empty_sound}
use Rattle.model.proofs.Lines.{none_to, outcome_case}
use Rattle.model.proofs.Extending.{new_sound, tray_sound}
use Rattle.model.proofs.Widths.{width_least}
use Rattle.model.specs.Theorems.{DraftSound, Fits, OutSound}

-- ---- accepted commands

known_kind : (k : ℕ) (s : Store) → (ltb LAST_KIND k || not (is_kind k s)) ≡ false → is_kind k s ≡ true
known_kind k s h = not-false (is_kind k s) (or_false_right (ltb LAST_KIND k) (not (is_kind k s)) h)

module _ (s : Store) (S : StoreSound s) where
  both_emptied : StoreSound (with_control s (empty_both s.control))
  both_emptied = control_sound s S (empty_both s.control) (empty_both_sound s.kinds s.control (control_of s S))

accepted_sound : (c : Command) (s : Store) → Fits s.settings.value_bytes c → StoreSound s → NoneHolds (lines_of c) s → StoreSound (accepted c s).store
unfolding accepted lines_of
accepted_sound (REG k) s f S n =
    cond_case (λ (d : Done). StoreSound d.store) (is_kind k s) _ _ (λ t. S)
    (λ t. register_sound s S k (omega (arith, ltb-false LAST_KIND k n.0)) t (omega (arith, leb-false s.settings.kind_capacity (length s.kinds) (not_and (is_kind k s) (leb s.settings.kind_capacity (length s.kinds)) n.1.0 t))))
accepted_sound (HOLD k x) s f S n = control_sound s S _ (stage_sound s.kinds s.control (control_of s S) k x (known_kind k s n.0) n.1.0 (omega (arith, leb-false LIST_CAPACITY (length s.control.staged) n.1.1.0)) f)
accepted_sound NEW s f S n = new_sound s S n.0
accepted_sound (PUT e) s f S n = emptied _ (insert_sound s S e s.control.staged (not-false (is_live e s.entities) n.0) S.staged)
accepted_sound (TAKE e) s f S n = emptied _ (remove_sound s S e (staged_kinds s))
accepted_sound (DROP e) s f S n = emptied _ (remove_sound s S e (staged_kinds s))
accepted_sound (KILL e) s f S n = kill_sound s S e (not-false (is_live e s.entities) n.0)
accepted_sound WIPE s f S n = clear_all_sound s S
accepted_sound GROUP s f S n =
    cond_case (λ (d : Done). StoreSound d.store) (adds_nothing (staged_kinds s) s.control.draft) _ _ (λ t. emptied s S)
    (λ t.
    let D : DraftSound s.kinds (with_group (staged_kinds s) s.control.draft) = with_group_sound s.kinds (staged_kinds s) s.control.draft S.staged.once S.staged.known (omega (arith, ltb-false MAX_GROUP_ARITY (length (staged_kinds s)) n.0)) (omega (arith, leb-false MAX_GROUP_COUNT (groups_of s.control.draft) (not_and (adds_nothing (staged_kinds s) s.control.draft) (leb MAX_GROUP_COUNT (groups_of s.control.draft)) n.1.1.0 t))) (control_of s S).draft t (not_not (adds_nothing (staged_kinds s) s.control.draft) (joins (staged_kinds s) s.control.draft) n.1.0 t) in
    control_sound s S _ (draft_sound s.kinds (empty_staged s.control) (empty_staged_sound s.kinds s.control (control_of s S)) (with_group (staged_kinds s) s.control.draft) D))
accepted_sound APPLY s f S n =
    let A = set_layout_sound s S s.control.draft (control_of s S).draft in
    control_sound _ A _ (draft_sound s.kinds s.control (control_of s S) [] (no_draft s.kinds))
accepted_sound (BAR k) s f S n = control_sound s S _ (exclude_sound s.kinds s.control (control_of s S) k (known_kind k s n.0) n.1.0 (omega (arith, leb-false LIST_CAPACITY (length s.control.excluded) n.1.1.0)))
accepted_sound RANGE s f S n = both_emptied s S
accepted_sound EMPTY s f S n = both_emptied s S
accepted_sound TALLY s f S n = S
accepted_sound (SETCALLER c) s f S n = control_sound s S _ (caller_sound s.kinds s.control (control_of s S) c (ltb-false LAST_CALLER c n.0))
accepted_sound (TRAY k) s f S n = tray_sound k s S (ltb-false (free_numbers s.settings.capacity s.entities) k n.0)

-- every command keeps a sound store sound
pub does_sound : (c : Command) (s : Store) → Fits s.settings.value_bytes c → StoreSound s → OutSound (does c s)
unfolding does
does_sound c s f S = outcome_case OutSound (first_line (lines_of c) s) (accepted c s) (λ n e. tt) (λ e. accepted_sound c s f S (none_to (lines_of c) s e))

-- a refused one too, which is counted
pub refused_sound : (s : Store) → StoreSound s → StoreSound (with_control s (counted s.control))
refused_sound s S = control_sound s S (counted s.control) (counted_sound s.kinds s.control (control_of s S))

-- ---- the tape's bytes

pub bytes_take : (n : ℕ) (l : List ℕ) → Bytes l → Bytes (take n l)
bytes_take zero l h = tt
bytes_take (suc n) [] h = tt
bytes_take (suc n) (x ∷ l) h = (h.0, bytes_take n l h.1)

pub bytes_drop : (n : ℕ) (l : List ℕ) → Bytes l → Bytes (drop n l)
bytes_drop zero l h = h
bytes_drop (suc n) [] h = tt
bytes_drop (suc n) (x ∷ l) h = bytes_drop n l h.1

pub number_lt : (n : ℕ) (bs : List ℕ) → Bytes bs → length bs ≤ n → number bs < 256 ^ n
number_lt zero [] h le = lit< tt
number_lt (suc n) [] h le = one-le-pow (suc n) 256 (lit< tt)
number_lt zero (b ∷ bs) h le = absurd (omega arith)
number_lt (suc n) (b ∷ bs) h le = let r = number_lt n bs h.1 (omega arith) in rw (pow-suc 256 n) (omega (arith, h.0))

abbrev AllFit : ℕ → List Command → Type 0
AllFit v [] = Unit {0}
AllFit v (c ∷ cs) = Fits v c × AllFit v cs

fit_at : (v : ℕ) (cs : List Command) → AllFit v cs → (j : ℕ) → Fits v (get_or cs j TALLY)
fit_at v [] h j = tt
fit_at v (c ∷ cs) h zero = h.0
fit_at v (c ∷ cs) h (suc j) = fit_at v cs h.1 j

-- the operands of a command read off a tape are of their widths
pub command_fits : (v b : ℕ) (ops : List ℕ) → Bytes ops → length ops ≤ 1 + v → Fits v (command_at b ops)
command_fits v b ops h le =
    fit_at v (commands ops)
    (tt, (tt, (number_lt v (drop 1 ops) (bytes_drop 1 ops h) (rw (length-drop 1 ops) (omega arith)), (tt, (tt, (tt, (tt, (tt, (tt, (tt, (tt, (tt, (tt, (tt, (tt, (tt, (tt, tt)))))))))))))))))
    b

-- HOLD's are the longest where a value has as many bytes as an entity
pub width_le : (v b : ℕ) → 8 ≤ v → width v b ≤ 1 + v
width_le v b least = all_most (1 + v) (widths v) (simp (le-leb (1 + v) (1 + v) (omega arith), le-leb 1 (1 + v) (omega arith), le-leb 2 (1 + v) (omega arith), le-leb 8 (1 + v) (omega arith), le-leb 0 (1 + v) (omega arith))) b

pub tape_fits : (v b : ℕ) (t : List ℕ) → 8 ≤ v → Bytes t → Fits v (command_at b (take (width v b) t))
tape_fits v b t least h = command_fits v b (take (width v b) t) (bytes_take (width v b) t h) (rw (length-take (width v b) t) (omega (arith, width_le v b least)))

-- ---- steps and runs

-- what holds of the store after a step that goes on
abbrev pub After : (Store → Type 0) → Step → Type 0
After P (stops n) = Unit {0}
After P (goes w a s) = P s

step_if_after : (P : Store → Type 0) (r : Option ℕ) (p : Step) → After P p → After P (step_if r p)
step_if_after P (some n) p h = tt
step_if_after P none p h = h

step_of_sound : (w : ℕ) (s : Store) (o : Outcome) → StoreSound s → OutSound o → After StoreSound (step_of w s o)
step_of_sound w s (refuses n) S h = refused_sound s S
step_of_sound w s (accepts s' a) S h = h

pub step_sound : (b : ℕ) (t : List ℕ) (room : ℕ) (s : Store) → Bytes t → StoreSound s → After StoreSound (step b t room s)
unfolding step
step_sound b t room s h S =
    step_if_after StoreSound (first_line before_lines (record { byte = b; rest = t; room = room; store = s })) (step_of (suc (operands_len b s)) s (does (command_on b t s) s))
    (step_of_sound (suc (operands_len b s)) s (does (command_on b t s) s) S (does_sound (command_on b t s) s (tape_fits s.settings.value_bytes b t (width_least s.settings.value_bytes S.limits.width) h) S))

-- what each step keeps, holds of the stores after the commands of a run, and of the one that it leaves
module _ (P : Store → Type 0) (keeps : (b : ℕ) (t : List ℕ) (room : ℕ) (s : Store) → Bytes t → P s → After P (step b t room s)) where
  trail_for_law : (fuel : ℕ) (t : List ℕ) (room : ℕ) (s : Store) → Bytes t → P s → EachStore P (trail_for fuel t room s)
  unfolding trail_for
  trail_for_law zero t room s h S = tt
  trail_for_law (suc fuel) [] room s h S = tt
  trail_for_law (suc fuel) (b ∷ t) room s h S = go (step b t room s) (keeps b t room s h.1 S) (λ w r s'. trail_for_law fuel (drop w (b ∷ t)) r s' (bytes_drop w (b ∷ t) h))
    where
      go : (p : Step) → After P p → ((w r : ℕ) (s' : Store) → P s' → EachStore P (trail_for fuel (drop w (b ∷ t)) r s')) → EachStore P (elim p as (λ p. List Store) [ stops n ↦ [] | goes w a s' ↦ s' ∷ trail_for fuel (drop w (b ∷ t)) (room - length a) s' ])
      go (stops n) k rec = tt
      go (goes w a s') k rec = (k, rec w (room - length a) s' k)

  run_for_law : (fuel : ℕ) (t : List ℕ) (room : ℕ) (s : Store) → Bytes t → P s → P (run_for fuel t room s).store
  unfolding run_for
  run_for_law zero t room s h S = S
  run_for_law (suc fuel) [] room s h S = S
  run_for_law (suc fuel) (b ∷ t) room s h S = go (step b t room s) (keeps b t room s h.1 S) (λ w r s'. run_for_law fuel (drop w (b ∷ t)) r s' (bytes_drop w (b ∷ t) h))
    where
      go : (p : Step) → After P p → ((w r : ℕ) (s' : Store) → P s' → P (run_for fuel (drop w (b ∷ t)) r s').store) → P (elim p as (λ p. Ran) [ stops n ↦ halt n s | goes w a s' ↦ more w a (run_for fuel (drop w (b ∷ t)) (room - length a) s') ]).store
      go (stops n) k rec = S
      go (goes w a s') k rec = rec w (room - length a) s' k

  pub each_keeps : (t : List ℕ) (room : ℕ) (s : Store) → Bytes t → P s → EachStore P (trail t room s)
  unfolding trail
  each_keeps t room s h S = trail_for_law (length t) t room s h S

  pub all_keeps : (t : List ℕ) (room : ℕ) (s : Store) → Bytes t → P s → P (run t room s).store
  unfolding run
  all_keeps t room s h S = run_for_law (length t) t room s h S

-- every run keeps a sound store sound
pub run_keeps : (t : List ℕ) (room : ℕ) (s : Store) → Bytes t → StoreSound s → StoreSound (run t room s).store
run_keeps = all_keeps StoreSound step_sound

-- and so does each command of it
pub trail_keeps : (t : List ℕ) (room : ℕ) (s : Store) → Bytes t → StoreSound s → EachStore StoreSound (trail t room s)
trail_keeps = each_keeps StoreSound step_sound

-- from an empty store, under either rule
pub run_sound : (t : List ℕ) (room : ℕ) (c : Settings) → Bytes t → Limits c.capacity c.kind_capacity c.value_bytes → StoreSound (run t room (empty_with c)).store
run_sound t room c h l = run_keeps t room (empty_with c) h (empty_sound c l)

pub trail_sound : (t : List ℕ) (room : ℕ) (c : Settings) → Bytes t → Limits c.capacity c.kind_capacity c.value_bytes → EachStore StoreSound (trail t room (empty_with c))
trail_sound t room c h l = trail_keeps t room (empty_with c) h (empty_sound c l)
