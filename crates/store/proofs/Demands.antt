-- The demands, for the words: theorems over the contracts of the public entries alone (specs/Entries.antt). Assumes nothing.
use mathlib.Core.Path.{◌≡◌, refl, sym, ap, ◌∙◌, subst}
use mathlib.Core.Logic.{◌↔◌, ⊎_elim}
use mathlib.Core.Bool.{Bool, true, false}
use mathlib.Core.Option.{Option, some, none}
use mathlib.Core.List.{List, [], ◌++◌}
use Prim.Native.Nat.{ℕ, ◌+◌, ◌*◌, ◌≤◌}
use native.Mathlib.Omega.{arith}
use lib.ListN.{length, take, drop, get_or}
use denote.Ref.{Bor}
use Rattle.model.specs.Numbers.{BEYOND, CALLER, KIND, NOROOM, UNKNOWN, UNSOUND, WIDE}
use Rattle.model.specs.Store.{Settings, Store, empty_with}
use Rattle.model.specs.Commands.{Command, command_on}
use Rattle.model.specs.Refusals.{number_of, first_line, BeforeCommand, before_lines, lines_of, start_lines, roll_lines, column_lines}
use Rattle.model.specs.Run.{Outcome, refuses, accepts, does, store_after, answer_of, halt, run}
use Rattle.model.specs.Snapshot.{snapshot, Same, SameWidth}
use Rattle.model.specs.History.{retired}
use Rattle.model.specs.Entries.{Started, refuses_start, makes, start_told, start_with, column_refusal, column, roll}
use Rattle.model.proofs.Counts.{refusal_unchanged}
use Rattle.model.proofs.Demand.{all_between}
use Rattle.model.proofs.Entries.{start_makes, column_refused_law}
use Rattle.model.proofs.Lengths.{run_fits}
use Rattle.model.proofs.Lines.{first_exact, none_exact, refusal_exact, accepted_exact, lines_numbers, wide_never}
use Rattle.model.specs.Sound.{StoreSound}
use Rattle.model.proofs.Retired.{run_balanced}
use Rattle.model.specs.Theorems.{Balanced}
use Rattle.model.proofs.Snapshots.{snapshots_of_sound}
use Rattle.words.specs.Decides.{Decides}
use Rattle.memory.specs.Meaning.{meaning, with_refusal}
use Rattle.memory.specs.Arranged.{Sound}
use Rattle.run.specs.declared.Ran.{Ran}
use Rattle.snapshot.proofs.Rolled.{roll_fits}
use Rattle.store.specs.declared.Rolled.{Rolled}
use Rattle.store.specs.Entries.{start_number, StartLeaves, StartsWith, column_refused, ColumnNumbered, column_words, part_place, ColumnPart, ran_of, RunLeaves, Runs, Rolls}
use Rattle.store.specs.Course.{before, Course, ended, stopped, refused, done, AfterEach, BeforeEach, EachDone, EachAnswer, EachRefusal, Reached, started, ran, Held, begun, opened, went_on, retired_in}
use Rattle.store.proofs.Starting.{start_number_law}
use Rattle.store.proofs.Tables.{tabled, judged, start_tabled}
use Rattle.store.specs.Theorems.{Tabled, Judged, RefusalAlone, GroupsHold}
use Rattle.store.proofs.Emitting.{over_refused, over_accepted, over_refusals, over_written}
use Rattle.store.proofs.Courses.{course_of}
use Rattle.store.proofs.Determined.{answer_bytes}
use Rattle.words.proofs.Decides.{decides_same}

-- ---- Demand 1: "A refusal comes when its line holds and no line above does, else never". Each entry's number is that of the first line of its table
-- that holds, and 0 where none does; run, column and roll give 3 exactly where the store is not sound.

pub start_refusals : (c : Settings) (w w' : List ℕ) (r : ℕ) → StartsWith c w w' r → Tabled start_lines (start_told c (length w)) r
start_refusals c w w' r S = tabled start_lines (start_told c (length w)) 1 2 (omega arith) (omega arith) r (S.number ∙ start_tabled c (length w))

pub column_refusals : (w : List ℕ) (k a e r : ℕ) → ColumnNumbered w k a e r → Judged w column_lines (record { kind = k; start = a; end = e; store = meaning w }) r
unfolding column_refusal
column_refusals w k a e r C = judged w column_lines (record { kind = k; start = a; end = e; store = meaning w }) r C.sound KIND BEYOND (omega arith) (omega arith) C.decides C.number

pub roll_refusals : (w o o' : List ℕ) (r : Rolled) → Rolls w o o' r → Judged w roll_lines (record { room = length o; store = meaning w }) r.number
unfolding roll
roll_refusals w o o' r R =
    over_refusals roll_lines (record { room = length o; store = meaning w }) (snapshot (meaning w)) NOROOM NOROOM (omega arith) w o o' r.number r.written (omega arith) R

pub run_unsound : (w w' t o o' : List ℕ) (r : Ran) → Runs w w' t o o' r → (r.stop ≡ UNSOUND) ↔ (Sound w → ⊥)
run_unsound w w' t o o' r R = go R.sound R.decides R.answered.stop
  where
    go : (b : Bool) → Decides b (Sound w) → r.stop ≡ (ran_of b t (length o) (meaning w)).stop → (r.stop ≡ UNSOUND) ↔ (Sound w → ⊥)
    go false d e = ((λ q. d), (λ n. e))
    go true d e =
        ((λ q. absurd (⊎_elim (λ z. omega (arith, q, e, z)) (λ z. omega (arith, q, e, z.0)) (run_fits t (length o) (meaning w)).stop)), (λ n. absurd (n d)))

-- Inside a run the same holds of each command (specs/Course.antt): every run over sound words stops where a line before a command holds and none above
-- does, or at the tape's end with 0; refuses a command where a line of it holds and none above does, which changes the word of the caller's refusal count alone and
-- writes the number as one byte; and does every other command as the model has it. `Course` has no other case.
pub run_course : (w w' t o o' : List ℕ) (r : Ran) → Runs w w' t o o' r → Sound w → Course w t (length o) w' r.stop r.commands r.read (take r.written o')
run_course w w' t o o' r R S = go R.sound R.decides R.leaves refl
  where
    go : (b : Bool) → Decides b (Sound w) → RunLeaves b t (length o) w w' → R.sound ≡ b → Course w t (length o) w' r.stop r.commands r.read (take r.written o')
    go false d l e = absurd (d S)
    go true d l e =
        let x = run t (length o) (meaning w) in
        let is : ran_of R.sound t (length o) (meaning w) ≡ x = ap (λ (b : Bool). ran_of b t (length o) (meaning w)) e in
        let bytes : take r.written o' ≡ x.bytes = answer_bytes o o' r (ran_of R.sound t (length o) (meaning w)) R.answered ∙ (λ i. (is i).bytes) in
        rw (R.answered.stop ∙ (λ i. (is i).stop), R.answered.commands ∙ (λ i. (is i).commands), R.answered.read ∙ (λ i. (is i).read), bytes)
        (course_of t (length o) w w' R.tape S l.1)

-- As "exactly if", of each command of a run: the run stops before it with n exactly if line n of those before a command is the first that holds, and
-- goes on exactly if none does.
stop_tabled : (x : BeforeCommand) (n : ℕ) → n ≡ number_of (first_line before_lines x) → Tabled before_lines x n
stop_tabled x n e = tabled before_lines x UNKNOWN NOROOM (omega arith) (omega arith) n e

stops_in : {w t w' bytes : List ℕ} {room stop commands read : ℕ} (c : Course w t room w' stop commands read bytes) → BeforeEach (λ v b u m n. Tabled before_lines (before v b u m) n) c
stops_in ended = tt
stops_in (stopped {w} {t} {b} {room} {n} f) = stop_tabled (before w b t room) n (sym (ap number_of ((first_exact before_lines (before w b t room) n).1 f)))
stops_in (refused w {t = t} {b = b} {room = room} h f m s c) = (stop_tabled (before w b t room) 0 (sym (ap number_of ((none_exact before_lines (before w b t room)).1 h))), stops_in c)
stops_in (done w w₁ {t = t} {b = b} {room = room} h n m s c) = (stop_tabled (before w b t room) 0 (sym (ap number_of ((none_exact before_lines (before w b t room)).1 h))), stops_in c)

pub stops_exact : (w w' t o o' : List ℕ) (r : Ran) (R : Runs w w' t o o' r) (S : Sound w) → BeforeEach (λ v b u m n. Tabled before_lines (before v b u m) n) (run_course w w' t o o' r R S)
stops_exact w w' t o o' r R S = stops_in (run_course w w' t o o' r R S)

-- And the command is answered n exactly if line n of its own is the first that holds, and accepted, with 0, exactly if none does.
answer_tabled : (k : Command) (s : Store) (n : ℕ) → n ≡ number_of (first_line (lines_of k) s) → Tabled (lines_of k) s n
answer_tabled k s n e = tabled (lines_of k) s KIND CALLER (omega arith) (lines_numbers k) n e

answers_in : {w t w' bytes : List ℕ} {room stop commands read : ℕ} (c : Course w t room w' stop commands read bytes) → EachAnswer (λ v k l. Tabled (lines_of k) (meaning v) (get_or l 0 0)) c
answers_in ended = tt
answers_in (stopped f) = tt
answers_in (refused w {t = t} {b = b} {n = n} h f m s c) =
    (answer_tabled (command_on b t (meaning w)) (meaning w) n (sym (ap number_of ((first_exact (lines_of (command_on b t (meaning w))) (meaning w) n).1 f))), answers_in c)
answers_in (done w w₁ {t = t} {b = b} h n m s c) =
    (answer_tabled (command_on b t (meaning w)) (meaning w) 0 (sym (ap number_of ((none_exact (lines_of (command_on b t (meaning w))) (meaning w)).1 n))), answers_in c)

pub answers_exact : (w w' t o o' : List ℕ) (r : Ran) (R : Runs w w' t o o' r) (S : Sound w) → EachAnswer (λ v k l. Tabled (lines_of k) (meaning v) (get_or l 0 0)) (run_course w w' t o o' r R S)
answers_exact w w' t o o' r R S = answers_in (run_course w w' t o o' r R S)

-- What the model's `does` says of each command in a sound store holds of each command of a run: of the stores before and after it, and of its answer with
-- those that come after it.
module _ (P : Command → Store → Store → List ℕ → Type 0) (says : (k : Command) (s : Store) (rest : List ℕ) → StoreSound s → P k s (store_after s (does k s)) (answer_of (does k s) ++ rest)) where
  told_by : (k : Command) (s s' : Store) (x : Outcome) (rest : List ℕ) → StoreSound s → does k s ≡ x → s' ≡ store_after s x → P k s s' (answer_of x ++ rest)
  told_by k s s' x rest S d m =
      subst (λ (t : Store). P k s t (answer_of x ++ rest)) (sym m) (subst (λ (y : Outcome). P k s (store_after s y) (answer_of y ++ rest)) d (says k s rest S))

  told_in : {w t w' bytes : List ℕ} {room stop commands read : ℕ} → Sound w → (c : Course w t room w' stop commands read bytes) → EachDone (λ v k v' l. P k (meaning v) (meaning v') l) c
  told_in S ended = tt
  told_in S (stopped f) = tt
  told_in S (refused w {t = t} {bytes = bytes} {b = b} {n = n} h f m s c) =
      (told_by (command_on b t (meaning w)) (meaning w) (meaning (with_refusal w)) (refuses n) bytes S.means ((refusal_exact (command_on b t (meaning w)) (meaning w) n).1 f) m.means, told_in s c)
  told_in S (done w w₁ {t = t} {bytes = bytes} {b = b} h n m s c) =
      (told_by (command_on b t (meaning w)) (meaning w) (meaning w₁) (accepts _ _) bytes S.means ((accepted_exact (command_on b t (meaning w)) (meaning w) _ _).1 (n, refl, refl)) m.means, told_in s c)

  pub told_in_run : (w w' t o o' : List ℕ) (r : Ran) (R : Runs w w' t o o' r) (S : Sound w) → EachDone (λ v k v' l. P k (meaning v) (meaning v') l) (run_course w w' t o o' r R S)
  told_in_run w w' t o o' r R S = told_in S (run_course w w' t o o' r R S)

-- 02, No. 3: "WIDE then never occurs": no command of a run is answered 13.
wide_in : {w t w' bytes : List ℕ} {room stop commands read : ℕ} → Sound w → (c : Course w t room w' stop commands read bytes) → EachAnswer (λ v k l. get_or l 0 0 ≡ WIDE → ⊥) c
wide_in S ended = tt
wide_in S (stopped f) = tt
wide_in S (refused w {t = t} {b = b} h f m s c) =
    ((λ e. wide_never (command_on b t (meaning w)) (meaning w) S.means ((refusal_exact (command_on b t (meaning w)) (meaning w) _).1 f ∙ ap refuses e)), wide_in s c)
wide_in S (done w w₁ h n m s c) = ((λ e. omega arith), wide_in s c)

pub wide_never_in_run : (w w' t o o' : List ℕ) (r : Ran) (R : Runs w w' t o o' r) (S : Sound w) → EachAnswer (λ v k l. get_or l 0 0 ≡ WIDE → ⊥) (run_course w w' t o o' r R S)
wide_never_in_run w w' t o o' r R S = wide_in S (run_course w w' t o o' r R S)

-- A refused command changes, of what the words mean, the caller's count of refusals alone: settings, kinds, entities, components, groups, draft, both
-- lists, the caller and the other counts are as they were.
refusals_in : {w t w' bytes : List ℕ} {room stop commands read : ℕ} (c : Course w t room w' stop commands read bytes) → EachRefusal (λ v u. RefusalAlone (meaning v) (meaning u)) c
refusals_in ended = tt
refusals_in (stopped f) = tt
refusals_in (refused w h f m s c) = (
  subst (RefusalAlone (meaning w)) (sym m.means)
      (record { same = refusal_unchanged (meaning w); counts = refl }),
  refusals_in c,
)
refusals_in (done w w₁ h n m s c) = refusals_in c

pub refused_command_keeps : (w w' t o o' : List ℕ) (r : Ran) (R : Runs w w' t o o' r) (S : Sound w) → EachRefusal (λ v u. RefusalAlone (meaning v) (meaning u)) (run_course w w' t o o' r R S)
refused_command_keeps w w' t o o' r R S = refusals_in (run_course w w' t o o' r R S)

-- "1 to 3, and every refusal outside a run, change no lent memory, with zeros beside the number."

pub refused_start_changes_nothing : (c : Settings) (w w' : List ℕ) (r : ℕ) → StartsWith c w w' r → 1 ≤ r → w' ≡ w
refused_start_changes_nothing c w w' r S h = go (start_with c (length w)) S.number S.leaves
  where
    go : (x : Started) → r ≡ start_number x → StartLeaves w w' x → w' ≡ w
    go (refuses_start m) e l = l
    go (makes s) e l = absurd (omega (arith, e, h))

pub unsound_run_changes_nothing : (w w' t o o' : List ℕ) (r : Ran) → Runs w w' t o o' r → r.stop ≡ UNSOUND → (w' ≡ w) × (o' ≡ o) × (r ≡ record { stop = UNSOUND; commands = 0; read = 0; written = 0 })
unsound_run_changes_nothing w w' t o o' r R h = go R.sound R.decides R.leaves refl
  where
    go : (b : Bool) → Decides b (Sound w) → RunLeaves b t (length o) w w' → R.sound ≡ b → (w' ≡ w) × (o' ≡ o) × (r ≡ record { stop = UNSOUND; commands = 0; read = 0; written = 0 })
    go true d l e = absurd ((run_unsound w w' t o o' r R).0 h d)
    go false d l e =
        let is : ran_of R.sound t (length o) (meaning w) ≡ halt UNSOUND (meaning w) = ap (λ (b : Bool). ran_of b t (length o) (meaning w)) e in (
          l,
          R.answered.bytes ∙ (λ j. (is j).bytes ++ drop (length (is j).bytes) o),
          λ i. record {
            stop = h i;
            commands = (R.answered.commands ∙ (λ j. (is j).commands)) i;
            read = (R.answered.read ∙ (λ j. (is j).read)) i;
            written = (R.answered.written ∙ (λ j. length (is j).bytes)) i;
          },
        )

pub refused_roll_changes_nothing : (w o o' : List ℕ) (r : Rolled) → Rolls w o o' r → 1 ≤ r.number → (o' ≡ o) × (r.written ≡ 0)
refused_roll_changes_nothing w o o' r R h = over_refused w o o' r.number r.written (roll (length o) (meaning w)) R h

-- "A refused column is the empty part at the front"
pub refused_column_is_empty : (v r : Bor (List ℕ)) (values : Bool) (k a e n : ℕ) → ColumnPart v r values k a e → ColumnNumbered v.now k a e n → 1 ≤ n → (r.now ≡ []) × (r.ref_ptr ≡ v.ref_ptr)
refused_column_is_empty v r values k a e n P C h =
    let both : C.sound ≡ P.sound = decides_same C.sound P.sound C.decides P.decides ((λ S. S), (λ S. S)) in
    let at = go P.sound P.words P.part.offset (C.number ∙ (λ i. number_of (column_refused (both i) k a e s))) in
    (at.0, λ i. (P.part.block i, at.1 i))
  where
    s : Store
    s = meaning v.now

    line : (o : Option ℕ) → column_refusal k a e s ≡ o → r.now ≡ column values k a e s → r.ref_ptr.1 ≡ part_place o values v.now k a * 4 + v.ref_ptr.1 → n ≡ number_of o → (r.now ≡ []) × (r.ref_ptr.1 ≡ v.ref_ptr.1)
    line none c p q z = absurd (omega (arith, z, h))
    line (some m) c p q z = (p ∙ column_refused_law values k a e s m c, omega (arith, q))

    go : (b : Bool) → r.now ≡ column_words b values k a e s → r.ref_ptr.1 ≡ part_place (column_refused b k a e s) values v.now k a * 4 + v.ref_ptr.1 → n ≡ number_of (column_refused b k a e s) → (r.now ≡ []) × (r.ref_ptr.1 ≡ v.ref_ptr.1)
    go false p q z = (p, omega (arith, q))
    go true p q z = line (column_refusal k a e s) refl p q z

-- ---- "A sound store": a start makes one, and every run leaves one

pub run_keeps_sound : (w w' t o o' : List ℕ) (r : Ran) → Runs w w' t o o' r → Sound w → Sound w'
run_keeps_sound w w' t o o' r R S = go R.sound R.decides R.leaves
  where
    go : (b : Bool) → Decides b (Sound w) → RunLeaves b t (length o) w w' → Sound w'
    go false d l = absurd (d S)
    go true d l = l.0

-- the empty store
pub started_empty : (c : Settings) (w w' : List ℕ) → StartsWith c w w' 0 → Sound w' × (meaning w' ≡ empty_with c)
started_empty c w w' S = go (start_with c (length w)) refl S.number S.leaves
  where
    go : (x : Started) → start_with c (length w) ≡ x → 0 ≡ start_number x → StartLeaves w w' x → Sound w' × (meaning w' ≡ empty_with c)
    go (refuses_start m) p e l = absurd (omega (arith, e, (start_number_law c (length w) m p).0))
    go (makes s) p e l = (l.0, l.1 ∙ (start_makes c (length w) s p).store)

pub reached_sound : {w : List ℕ} → Reached w → Sound w
reached_sound (started {c} {w} {w'} S) = (started_empty c w w' S).0
reached_sound (ran {w} {w'} {t} {o} {o'} {r} c R) = run_keeps_sound w w' t o o' r R (reached_sound c)

-- and so it is of words that a caller holds, by a start, or by one run that did not answer 3 and any runs after it: what the functions of src/held.rt ask
pub held_sound : {w : List ℕ} → Held w → Sound w
held_sound (begun {c} {w} {w'} S) = (started_empty c w w' S).0
held_sound (opened {w} {w'} {t} {o} {o'} {r} R n) = run_keeps_sound w w' t o o' r R (go R.sound R.decides)
  where
    go : (b : Bool) → Decides b (Sound w) → Sound w
    go false d = absurd (n ((run_unsound w w' t o o' r R).1 d))
    go true d = d
held_sound (went_on {w} {w'} {t} {o} {o'} {r} h R) = run_keeps_sound w w' t o o' r R (held_sound h)

-- ---- Demand 3: after each command each group's count is the number of live entities holding all its kinds, and the first that many places of each of
-- its columns hold exactly those, once each, the same at the same place; between a group and the next larger stand exactly those with all kinds of the
-- smaller that lack one or more of the larger

pub sound_groups : (w : List ℕ) → Sound w → GroupsHold (meaning w)
sound_groups w S =
    let s = meaning w in
    record { right = S.means.groups; between = all_between s.storage.sets s.entities.live s.storage.layout S.means.groups }

after_each : (P : List ℕ → Type 0) → ((w : List ℕ) → Sound w → P w) → {w t w' bytes : List ℕ} {room stop commands read : ℕ} (c : Course w t room w' stop commands read bytes) → AfterEach P c
after_each P f ended = tt
after_each P f (stopped g) = tt
after_each P f (refused w h g b s c) = (f (with_refusal w) s, after_each P f c)
after_each P f (done w w₁ h n b s c) = (f w₁ s, after_each P f c)

pub groups_after_each_command : (w w' t o o' : List ℕ) (r : Ran) (R : Runs w w' t o o' r) (S : Sound w) → AfterEach (λ v. GroupsHold (meaning v)) (run_course w w' t o o' r R S)
groups_after_each_command w w' t o o' r R S = after_each (λ v. GroupsHold (meaning v)) sound_groups (run_course w w' t o o' r R S)

-- from a start, after any runs
pub groups_reached : {w : List ℕ} → Reached w → GroupsHold (meaning w)
groups_reached {w} c = sound_groups w (reached_sound c)

-- ---- Demand 3: two rolls are equal exactly if the same entities are live with the same components and values

-- what an accepted roll wrote
pub rolled_snapshot : (w o o' : List ℕ) (r : Rolled) → Rolls w o o' r → r.number ≡ 0 → Sound w × (take r.written o' ≡ snapshot (meaning w))
unfolding roll
rolled_snapshot w o o' r R z =
    let a = over_written roll_lines (record { room = length o; store = meaning w }) (snapshot (meaning w)) NOROOM NOROOM (omega arith) w o o' r.number r.written (omega arith) R z in
    (a.0, a.2)

pub rolls_equal : (w v o p o' p' : List ℕ) (r q : Rolled) → SameWidth (meaning w) (meaning v) → Rolls w o o' r → Rolls v p p' q → r.number ≡ 0 → q.number ≡ 0 → (take r.written o' ≡ take q.written p') ↔ Same (meaning w) (meaning v)
rolls_equal w v o p o' p' r q one R Q zr zq =
    let a = rolled_snapshot w o o' r R zr in
    let b = rolled_snapshot v p p' q Q zq in
    let e = snapshots_of_sound (meaning w) (meaning v) one a.0.means b.0.means in
    ((λ x. e.0 (sym a.1 ∙ x ∙ b.1)), (λ x. a.1 ∙ e.1 x ∙ sym b.1))

-- from a start, after any runs, a roll that has room for the snapshot is accepted
pub reached_rolls : {w : List ℕ} (o o' : List ℕ) (r : Rolled) → Reached w → length (snapshot (meaning w)) ≤ length o → Rolls w o o' r → r.number ≡ 0
reached_rolls {w} o o' r c h R =
    (over_accepted w o o' (snapshot (meaning w)) r.number r.written (roll (length o) (meaning w)) (reached_sound c) (roll_fits (length o) (meaning w) h) R).0

-- so of two stores of one width, each reached from a start by any runs, with room for both: equal bytes exactly if the same entities are live with the same
-- components and values
pub reached_rolls_equal : {w v : List ℕ} (o p o' p' : List ℕ) (r q : Rolled) → SameWidth (meaning w) (meaning v) → Reached w → Reached v → length (snapshot (meaning w)) ≤ length o → length (snapshot (meaning v)) ≤ length p → Rolls w o o' r → Rolls v p p' q
    → (take r.written o' ≡ take q.written p') ↔ Same (meaning w) (meaning v)
reached_rolls_equal {w} {v} o p o' p' r q one c d h k R Q = rolls_equal w v o p o' p' r q one R Q (reached_rolls o o' r c h R) (reached_rolls p p' q d k Q)

-- ---- "From an empty store, numbers issued = live + waiting + retired; retired counts past destructions at the last version": after any runs

pub issued_reached : {w : List ℕ} (c : Reached w) → Balanced (meaning w).entities (retired_in c)
unfolding empty_with
issued_reached (started {c} {w} {w'} S) = subst (λ (s : Store). Balanced s.entities 0) (sym (started_empty c w w' S).1) refl
issued_reached (ran {w} {w'} {t} {o} {o'} {r} c R) = go R.sound R.decides R.means (issued_reached c)
  where
    go : (b : Bool) → Decides b (Sound w) → meaning w' ≡ (ran_of b t (length o) (meaning w)).store → Balanced (meaning w).entities (retired_in c)
        → Balanced (meaning w').entities (retired_in c + retired t (length o) (meaning w))
    go false d m h = absurd (d (reached_sound c))
    go true d m h =
        subst (λ (s : Store). Balanced s.entities (retired_in c + retired t (length o) (meaning w))) (sym m) (run_balanced t (length o) (meaning w) (retired_in c) h)
