-- 02, No. 7, for the words: whose count a refusal changes, what the counts are after runs, and that a store that never meets command 10 answers as by one
-- count. Theorems over the contracts of the public entries alone (specs/Entries.antt). Assumes nothing.
use mathlib.Core.Path.{◌≡◌, refl, sym, ap, ◌∙◌, subst}
use mathlib.Core.Logic.{◌≢◌}
use mathlib.Core.Bool.{Bool, true, false}
use mathlib.Core.Option.{Option}
use mathlib.Core.List.{List, ◌++◌}
use Prim.Native.Nat.{ℕ, ◌+◌, ◌≤◌, ◌<◌}
use native.Mathlib.Omega.{arith}
use lib.ListN.{length, take, length-set}
use lib.Seq.{get_or-set_same, get_or-set_other, take_at}
use denote.Ref.{Bor}
use Rattle.model.specs.Numbers.{CALLERS, LAST_CALLER, MAX_REFUSALS}
use Rattle.model.specs.Store.{Counts, Settings, Store, empty_with, refusals_by, one_more}
use Rattle.model.specs.Commands.{Command, TALLY, SETCALLER}
use Rattle.model.specs.Run.{does, store_after, answer_of}
use Rattle.model.specs.Run as model
use Rattle.model.specs.Refusals.{number_of, first_line, other_lines}
use Rattle.model.specs.Snapshot.{snapshot}
use Rattle.model.specs.Entries.{column_refusal, column, roll}
use Rattle.model.specs.History.{refused_by, refused_all, more_by, calls}
use Rattle.model.specs.Theorems.{CallTold, TallyTold, OneCaller, ButCallers, SameButCallers, recounted}
use Rattle.model.proofs.ListLaws.{default_at}
use Rattle.model.proofs.Counts.{more_up, more_full, more_more}
use Rattle.model.proofs.Callers.{call_told, tally_told, refusals_after, one_caller, answers_same, runs_same}
use Rattle.words.specs.Offsets.{REFUSALS}
use Rattle.words.specs.Decides.{Decides}
use Rattle.words.proofs.Decides.{decides_same}
use Rattle.words.proofs.Tables.{get_d_table}
use Rattle.memory.specs.Header.{caller_of, refusals_at}
use Rattle.memory.specs.Meaning.{meaning, with_refusal}
use Rattle.memory.specs.Arranged.{Sound}
use Rattle.memory.proofs.Frames.{long}
use Rattle.run.specs.declared.Ran.{Ran}
use Rattle.store.specs.declared.Rolled.{Rolled}
use Rattle.store.specs.declared.Reply.{Reply}
use Rattle.store.specs.Course.{Course, ended, stopped, refused, done, EachDone, EachAnswer, EachRefusal, Reached, started, ran, refused_in, all_refused_in, calls_in}
use Rattle.store.specs.Entries.{first_refusal, column_refused, ColumnNumbered, column_words, ColumnPart, ran_of, Runs, Rolls}
use Rattle.store.specs.Linked.{copy_told, copied, ColumnCopied}
use Rattle.store.specs.Theorems.{UnsoundAt, RefusalWord, CountedUp, NeverCalled, RunButCallers, AlikeButCallers, SameRolled, SameCopied}
use Rattle.store.proofs.Determined.{answer_bytes, over_determined, same_rolled, same_copied}
use Rattle.store.proofs.Demands.{run_course, told_in_run, started_empty, reached_sound}
use Rattle.store.proofs.Unsound.{unsound_at}

-- ---- a refused command: the caller's word and no other

refusal_word : (w : List ℕ) → Sound w → RefusalWord w (with_refusal w)
refusal_word w S =
    let c = caller_of w in
    let x = one_more (refusals_at w c) in
    record {
      size = length-set w (REFUSALS + c) x;
      caller = S.arranged.caller;
      own = get_or-set_same w (REFUSALS + c) x 0 (omega (arith, S.arranged.caller, long w S.arranged));
      others = λ i ne. get_or-set_other w (REFUSALS + c) i x 0 ne;
    }

refusal_words_in : {w t w' bytes : List ℕ} {room stop commands read : ℕ} → Sound w → (c : Course w t room w' stop commands read bytes) → EachRefusal RefusalWord c
refusal_words_in S ended = tt
refusal_words_in S (stopped f) = tt
refusal_words_in S (refused w h f m s c) = (refusal_word w S, refusal_words_in s c)
refusal_words_in S (done w w₁ h n m s c) = refusal_words_in s c

pub refused_command_words : (w w' t o o' : List ℕ) (r : Ran) (R : Runs w w' t o o' r) (S : Sound w) → EachRefusal RefusalWord (run_course w w' t o o' r R S)
refused_command_words w w' t o o' r R S = refusal_words_in S (run_course w w' t o o' r R S)

-- ---- each command 10 and each TALLY of a run

pub calls_in_run : (w w' t o o' : List ℕ) (r : Ran) (R : Runs w w' t o o' r) (S : Sound w)
    → EachDone (λ v k v' l. (c : ℕ) → k ≡ SETCALLER c → CallTold c (meaning v) (meaning v') l) (run_course w w' t o o' r R S)
calls_in_run w w' t o o' r R S =
    told_in_run (λ k s s' l. (c : ℕ) → k ≡ SETCALLER c → CallTold c s s' l)
    (λ k s rest M c e. subst (λ (x : Command). CallTold c s (store_after s (does x s)) (answer_of (does x s) ++ rest)) (sym e) (call_told c s rest)) w w' t o o' r R S

pub tallies_in_run : (w w' t o o' : List ℕ) (r : Ran) (R : Runs w w' t o o' r) (S : Sound w)
    → EachDone (λ v k v' l. k ≡ TALLY → TallyTold (meaning v) (meaning v') l) (run_course w w' t o o' r R S)
tallies_in_run w w' t o o' r R S =
    told_in_run (λ k s s' l. k ≡ TALLY → TallyTold s s' l)
    (λ k s rest M e. subst (λ (x : Command). TallyTold s (store_after s (does x s)) (answer_of (does x s) ++ rest)) (sym e) (tally_told s rest)) w w' t o o' r R S

-- ---- "Each caller has a tally of its own": the counts after runs

pub count_word : (w : List ℕ) (c : ℕ) → c < CALLERS → refusals_by c (meaning w).control ≡ refusals_at w c
unfolding meaning
count_word w c h = get_d_table CALLERS (refusals_at w) c 0 h

pub caller_word : (w : List ℕ) → (meaning w).control.counts.caller ≡ caller_of w
unfolding meaning
caller_word w = refl

-- what a run over sound words leaves, as the model has it
ran_means : (w w' t o o' : List ℕ) (r : Ran) → Runs w w' t o o' r → Sound w → meaning w' ≡ (model.run t (length o) (meaning w)).store
ran_means w w' t o o' r R S = go R.sound R.decides R.means
  where
    go : (b : Bool) → Decides b (Sound w) → meaning w' ≡ (ran_of b t (length o) (meaning w)).store → meaning w' ≡ (model.run t (length o) (meaning w)).store
    go true d m = m
    go false d m = absurd (d S)

more_in_run : (w w' t o o' : List ℕ) (r : Ran) → Runs w w' t o o' r → Sound w → (c : ℕ) → c < CALLERS → refusals_at w' c ≡ more_by (refused_by c t (length o) (meaning w)) (refusals_at w c)
more_in_run w w' t o o' r R S c h =
    sym (count_word w' c h)
    ∙ ap (λ (s : Store). refusals_by c s.control) (ran_means w w' t o o' r R S)
    ∙ refusals_after c t (length o) (meaning w) R.tape S.means
    ∙ ap (more_by (refused_by c t (length o) (meaning w))) (count_word w c h)

counted_up : (n m r : ℕ) → m ≤ MAX_REFUSALS → r ≡ more_by n m → CountedUp n m r
counted_up n m r most e = record { up = λ h. e ∙ more_up n m h; full = λ h. e ∙ more_full n m most h }

-- a count is within its bound
count_most : (w : List ℕ) → Sound w → (c : ℕ) → c < CALLERS → refusals_at w c ≤ MAX_REFUSALS
count_most w S c h = rw (count_word w c h) at (S.means.counts.most c)

-- after a run each count has gone up by what was refused while that one was the caller
pub counts_after_run : (w w' t o o' : List ℕ) (r : Ran) → Runs w w' t o o' r → Sound w → (c : ℕ) → c < CALLERS → CountedUp (refused_by c t (length o) (meaning w)) (refusals_at w c) (refusals_at w' c)
counts_after_run w w' t o o' r R S c h = counted_up (refused_by c t (length o) (meaning w)) (refusals_at w c) (refusals_at w' c) (count_most w S c h) (more_in_run w w' t o o' r R S c h)

-- "a store from start .. has caller 0 and every tally 0"
pub started_caller : (x : Settings) (w : List ℕ) → meaning w ≡ empty_with x → caller_of w ≡ 0
unfolding empty_with
started_caller x w e = sym (caller_word w) ∙ ap (λ (s : Store). s.control.counts.caller) e

pub started_count : (x : Settings) (w : List ℕ) → meaning w ≡ empty_with x → (c : ℕ) → c < CALLERS → refusals_at w c ≡ 0
unfolding empty_with
started_count x w e c h = sym (count_word w c h) ∙ ap (λ (s : Store). refusals_by c s.control) e ∙ default_at {A = ℕ} 0 CALLERS c

-- from a start, after any runs
more_reached : {w : List ℕ} (d : Reached w) (c : ℕ) → c < CALLERS → refusals_at w c ≡ more_by (refused_in c d) 0
more_reached (started {c = x} {w} {w'} S) c h = started_count x w' (started_empty x w w' S).1 c h
more_reached (ran {w} {w'} {t} {o} {o'} {r} d R) c h =
    more_in_run w w' t o o' r R (reached_sound d) c h
    ∙ ap (more_by (refused_by c t (length o) (meaning w))) (more_reached d c h)
    ∙ sym (more_more (refused_in c d) (refused_by c t (length o) (meaning w)) 0)

pub counts_reached : {w : List ℕ} (d : Reached w) (c : ℕ) → c < CALLERS → CountedUp (refused_in c d) 0 (refusals_at w c)
counts_reached {w} d c h = counted_up (refused_in c d) 0 (refusals_at w c) (omega arith) (more_reached d c h)

-- ---- "A store from start .. that never meets command 10 answers as before"

-- a run that never meets it keeps the caller, and counts all its refusals against it
pub one_caller_in_run : (w w' t o o' : List ℕ) (r : Ran) → Runs w w' t o o' r → Sound w → calls t (length o) (meaning w) ≡ 0 → OneCaller (refused_all t (length o) (meaning w)) (meaning w) (meaning w')
one_caller_in_run w w' t o o' r R S h =
    subst (OneCaller (refused_all t (length o) (meaning w)) (meaning w)) (sym (ran_means w w' t o o' r R S)) (one_caller t (length o) (meaning w) R.tape S.means h)

-- from a start: as the one count of before
record Uncalled (n : ℕ) (w : List ℕ) : Type 0 where
  pub caller : caller_of w ≡ 0
  pub own : refusals_at w 0 ≡ more_by n 0
  pub others : (c : ℕ) → 1 ≤ c → c < CALLERS → refusals_at w c ≡ 0

uncalled : {w : List ℕ} (d : Reached w) → calls_in d ≡ 0 → Uncalled (all_refused_in d) w
uncalled (started {c = x} {w} {w'} S) h =
    let e = (started_empty x w w' S).1 in
    record { caller = started_caller x w' e; own = started_count x w' e 0 (omega arith); others = λ c p q. started_count x w' e c q }
uncalled (ran {w} {w'} {t} {o} {o'} {r} d R) h =
    let U = uncalled d (omega (arith, h)) in
    let m = refused_all t (length o) (meaning w) in
    let O = one_caller_in_run w w' t o o' r R (reached_sound d) (omega (arith, h)) in
    let was : (meaning w).control.counts.caller ≡ 0 = caller_word w ∙ U.caller in
    let is : (meaning w').control.counts.caller ≡ 0 = O.caller ∙ was in
    record {
      caller = sym (caller_word w') ∙ is;
      own =
          sym (count_word w' 0 (omega arith))
          ∙ ap (λ (c : ℕ). refusals_by c (meaning w').control) (sym is)
          ∙ O.own
          ∙ ap (more_by m) (ap (λ (c : ℕ). refusals_by c (meaning w).control) was ∙ count_word w 0 (omega arith) ∙ U.own)
          ∙ sym (more_more (all_refused_in d) m 0);
      others = λ c p q. sym (count_word w' c q) ∙ O.others c (λ e. omega (arith, e, was)) ∙ count_word w c q ∙ U.others c p q;
    }

pub never_called : {w : List ℕ} (d : Reached w) → calls_in d ≡ 0 → NeverCalled (all_refused_in d) w
never_called {w} d h =
    let U = uncalled d h in
    record { caller = U.caller; own = counted_up (all_refused_in d) 0 (refusals_at w 0) (omega arith) U.own; others = U.others }

-- such a run looks at the count of the caller alone: not at who it is, nor at another's count
pub callers_unseen : (w v w' v' t o p o' p' : List ℕ) (r q : Ran) → Sound w → Sound v → ButCallers (meaning w) (meaning v) → length o ≡ length p → Runs w w' t o o' r → Runs v v' t p p' q
    → calls t (length o) (meaning w) ≡ 0 → RunButCallers w' v' o' p' r q
callers_unseen w v w' v' t o p o' p' r q S T B e R Q h = go R.sound R.decides refl Q.sound Q.decides refl
  where
    same : SameButCallers (model.run t (length o) (meaning w)) (model.run t (length p) (meaning v))
    same = subst (λ (n : ℕ). SameButCallers (model.run t (length o) (meaning w)) (model.run t n (meaning v))) e (runs_same t (length o) (meaning w) (meaning v) R.tape S.means T.means B h)

    go : (b : Bool) → Decides b (Sound w) → R.sound ≡ b → (c : Bool) → Decides c (Sound v) → Q.sound ≡ c → RunButCallers w' v' o' p' r q
    go false d x c f y = absurd (d S)
    go true d x false f y = absurd (f T)
    go true d x true f y =
        let a : ran_of R.sound t (length o) (meaning w) ≡ model.run t (length o) (meaning w) = ap (λ (z : Bool). ran_of z t (length o) (meaning w)) x in
        let b : model.run t (length p) (meaning v) ≡ ran_of Q.sound t (length p) (meaning v) = sym (ap (λ (z : Bool). ran_of z t (length p) (meaning v)) y) in
        let stop = Q.answered.stop ∙ (λ i. (sym b i).stop) ∙ same.stop ∙ (λ i. (sym a i).stop) ∙ sym R.answered.stop in
        let commands = Q.answered.commands ∙ (λ i. (sym b i).commands) ∙ same.commands ∙ (λ i. (sym a i).commands) ∙ sym R.answered.commands in
        let read = Q.answered.read ∙ (λ i. (sym b i).read) ∙ same.read ∙ (λ i. (sym a i).read) ∙ sym R.answered.read in
        let bytes = (λ i. (sym b i).bytes) ∙ same.bytes ∙ (λ i. (sym a i).bytes) in
        let written = Q.answered.written ∙ ap length bytes ∙ sym R.answered.written in
        record {
          result = λ i. record { stop = stop i; commands = commands i; read = read i; written = written i };
          answers = answer_bytes p p' q (ran_of Q.sound t (length p) (meaning v)) Q.answered ∙ bytes ∙ sym (answer_bytes o o' r (ran_of R.sound t (length o) (meaning w)) R.answered);
          store = subst (λ (s : Store). ButCallers s (meaning v')) (sym (ran_means w w' t o o' r R S)) (subst (ButCallers (model.run t (length o) (meaning w)).store) (sym (ran_means v v' t p p' q Q T)) same.store);
        }

-- and no answer of a run but TALLY's looks at the caller or any count: with others it would be the same
pub answers_unseen : (w w' t o o' : List ℕ) (r : Ran) (R : Runs w w' t o o' r) (S : Sound w)
    → EachAnswer (λ v k l. (n : Counts) → k ≢ TALLY → take (length (answer_of (does k (recounted n (meaning v))))) l ≡ answer_of (does k (recounted n (meaning v)))) (run_course w w' t o o' r R S)
answers_unseen w w' t o o' r R S =
    told_in_run (λ k s s' l. (n : Counts) → k ≢ TALLY → take (length (answer_of (does k (recounted n s)))) l ≡ answer_of (does k (recounted n s)))
    (λ k s rest M n ne. rw (answers_same n k s (λ e. absurd (ne e))) (take_at (answer_of (does k s)) rest (length (answer_of (does k s))) refl)) w w' t o o' r R S

-- ---- *roll* and *column* show neither caller nor counts

module _ (n : Counts) (s : Store) where
  roll_same : (room : ℕ) → roll room (recounted n s) ≡ roll room s
  unfolding roll snapshot
  roll_same room = refl

  refusal_same : (k a e : ℕ) → column_refusal k a e (recounted n s) ≡ column_refusal k a e s
  unfolding column_refusal
  refusal_same k a e = refl

  words_same : (b values : Bool) (k a e : ℕ) → column_words b values k a e (recounted n s) ≡ column_words b values k a e s
  unfolding column column_refusal
  words_same true values k a e = refl
  words_same false values k a e = refl

  copied_same : (values : Bool) (k a e room : ℕ) → copied (copy_told values k a e room (recounted n s)) ≡ copied (copy_told values k a e room s)
  unfolding column column_refusal
  copied_same values k a e room = refl

module _ (w v : List ℕ) (A : AlikeButCallers w v) where
  -- what is the same of a store with other counts is the same of both
  same_of : {X : Type 0} (f : Store → X) → ((n : Counts) (s : Store) → f (recounted n s) ≡ f s) → f (meaning w) ≡ f (meaning v)
  same_of f h = sym (ap f A.means ∙ h (meaning v).control.counts (meaning w))

  pub roll_unseen : (o p o' p' : List ℕ) (r q : Rolled) → length o ≡ length p → Rolls w o o' r → Rolls v p p' q → SameRolled o p o' p' r q
  roll_unseen o p o' p' r q l R Q =
      same_rolled o p o' p' r q
      (over_determined w v o p o' p' r.number r.written q.number q.written (roll (length o) (meaning w)) (roll (length p) (meaning v)) A.sound
      (same_of (roll (length o)) (λ n s. roll_same n s (length o)) ∙ ap (λ (m : ℕ). roll m (meaning v)) l) R Q)

  pub column_number_unseen : (k a e r q : ℕ) → ColumnNumbered w k a e r → ColumnNumbered v k a e q → r ≡ q
  column_number_unseen k a e r q R Q =
      let b : R.sound ≡ Q.sound = decides_same R.sound Q.sound R.decides Q.decides A.sound in
      R.number
      ∙ ap (λ (c : Bool). number_of (column_refused c k a e (meaning w))) b
      ∙ same_of (λ (s : Store). number_of (column_refused Q.sound k a e s)) (λ n s. ap (λ (x : Option ℕ). number_of (first_refusal (first_line other_lines Q.sound) x)) (refusal_same n s k a e))
      ∙ sym Q.number

  pub column_copy_unseen : (o p o' p' : List ℕ) (values : Bool) (k a e : ℕ) (r q : Reply) → length o ≡ length p → ColumnCopied w o o' values k a e r → ColumnCopied v p p' values k a e q → SameCopied o p o' p' r q
  column_copy_unseen o p o' p' values k a e r q l R Q =
      same_copied o p o' p' r q
      (over_determined w v o p o' p' r.number r.written q.number q.written (copied (copy_told values k a e (length o) (meaning w))) (copied (copy_told values k a e (length p) (meaning v))) A.sound
      (same_of (λ (s : Store). copied (copy_told values k a e (length o) s)) (λ n s. copied_same n s values k a e (length o)) ∙ ap (λ (m : ℕ). copied (copy_told values k a e m (meaning v))) l) R Q)

pub column_unseen : (u v r q : Bor (List ℕ)) (values : Bool) (k a e : ℕ) → AlikeButCallers u.now v.now → ColumnPart u r values k a e → ColumnPart v q values k a e → r.now ≡ q.now
column_unseen u v r q values k a e A R Q =
    let b : R.sound ≡ Q.sound = decides_same R.sound Q.sound R.decides Q.decides A.sound in
    R.words
    ∙ ap (λ (c : Bool). column_words c values k a e (meaning u.now)) b
    ∙ same_of u.now v.now A (λ (s : Store). column_words Q.sound values k a e s) (λ n s. words_same n s Q.sound values k a e)
    ∙ sym Q.words

-- ---- "a sound one a caller of 0 to 15": 16 in word 9 is 3 at every entry

pub high_caller : (w : List ℕ) → LAST_CALLER < caller_of w → UnsoundAt w
high_caller w h = unsound_at w (λ S. omega (arith, S.arranged.caller))
