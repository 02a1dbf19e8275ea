-- 02, No. 7: whose refusals a run counts, and that a run that never meets command 10 is answered as by one count. Assumes nothing.
use mathlib.Core.Path.{◌≡◌, refl, ap, ap₂, sym, ◌∙◌, subst}
use mathlib.Core.Logic.{◌≢◌}
use mathlib.Core.Bool.{Bool, false, ◌&&◌}
use mathlib.Core.Option.{Option, some, none}
use mathlib.Core.List.{List, [], ◌∷◌, ◌++◌}
use Prim.Native.Nat.{ℕ, zero, suc, ◌+◌, ◌-◌}
use native.Mathlib.Omega.{arith}
use borrow.Author.Tests.{lt-ltb, le-ltb, eqb-true, eqb-false, eq-eqb, ne_eqb}
use lib.ListN.{length, take, drop, get_or}
use Rattle.model.specs.Numbers.{LAST_CALLER}
use Rattle.model.specs.Lists.{one}
use Rattle.model.specs.Model.{adds_nothing}
use Rattle.model.specs.Store.{Bytes, Counts, Store, bytes_of, is_kind, staged_kinds, refusals_by, own_refusals, one_more}
use Rattle.model.specs.Commands.{Command, REG, HOLD, NEW, PUT, TAKE, DROP, KILL, WIPE, GROUP, APPLY, BAR, RANGE, EMPTY, TALLY, TRAY, SETCALLER, Done, accepted, answer_length, command_on, operands_len}
use Rattle.model.specs.Refusals.{first_line, lines_of, before_lines}
use Rattle.model.specs.Run.{Outcome, outcome, does, store_after, answer_of, Step, stops, goes, step_if, step_of, step, Ran, halt, more, run_for, run}
use Rattle.model.specs.History.{is_refusal, refused_one, refused_for, refused_by, refused_all, caller_is, any_store, more_by, calls_to, call_one, calls_for, calls}
use Rattle.model.specs.Sound.{CountsSound, StoreSound}
use Rattle.model.specs.Theorems.{CallTold, TallyTold, IfGoes, OneCaller, recounted, ButCallers, SameButCallers}
use Rattle.model.proofs.BoolLaws.{bool_cases, and_false_right}
use Rattle.model.proofs.Counts.{more_more, others_counted, own_counted}
use Rattle.model.proofs.Operations.{control_of, control_sound}
use Rattle.model.proofs.Lines.{outcome_case}
use Rattle.model.proofs.Outcomes.{caller_above, caller_set, tally_does}
use Rattle.model.proofs.Lengths.{accepted_length, step_case}
use Rattle.model.proofs.Sound.{After, bytes_drop, step_sound}

-- ---- what commands look at

-- the caller after a command that sets c, or none
abbrev caller_after : Option ℕ → ℕ → ℕ
caller_after none d = d
caller_after (some c) d = c

abbrev counts_after : Command → Counts → Counts
counts_after k n = record { caller = caller_after (calls_to k) n.caller; refusals = n.refusals }

-- no line of any command looks at caller or counts
lines_same : (n : Counts) (k : Command) (s : Store) → first_line (lines_of k) (recounted n s) ≡ first_line (lines_of k) s
unfolding lines_of
lines_same n (REG k) s = refl
lines_same n (HOLD k v) s = refl
lines_same n NEW s = refl
lines_same n (PUT e) s = refl
lines_same n (TAKE e) s = refl
lines_same n (DROP e) s = refl
lines_same n (KILL e) s = refl
lines_same n WIPE s = refl
lines_same n GROUP s = refl
lines_same n APPLY s = refl
lines_same n (BAR k) s = refl
lines_same n RANGE s = refl
lines_same n EMPTY s = refl
lines_same n TALLY s = refl
lines_same n (TRAY m) s = refl
lines_same n (SETCALLER c) s = refl

-- nor does any answer but TALLY's, which tells the caller's own count
answer_same : (n : Counts) (k : Command) (s : Store) → (k ≡ TALLY → own_refusals (recounted n s).control ≡ own_refusals s.control) → (accepted k (recounted n s)).answer ≡ (accepted k s).answer
unfolding accepted
answer_same n (REG k) s h = bool_cases (is_kind k s) (λ t. rw t) (λ t. rw t)
answer_same n (HOLD k v) s h = refl
answer_same n NEW s h = refl
answer_same n (PUT e) s h = refl
answer_same n (TAKE e) s h = refl
answer_same n (DROP e) s h = refl
answer_same n (KILL e) s h = refl
answer_same n WIPE s h = refl
answer_same n GROUP s h = bool_cases (adds_nothing (staged_kinds s) s.control.draft) (λ t. rw t) (λ t. rw t)
answer_same n APPLY s h = refl
answer_same n (BAR k) s h = refl
answer_same n RANGE s h = refl
answer_same n EMPTY s h = refl
answer_same n TALLY s h = ap (bytes_of 4) (h refl)
answer_same n (TRAY m) s h = refl
answer_same n (SETCALLER c) s h = refl

-- an accepted command leaves the counts, and all but SETCALLER the caller; what else it leaves looks at neither
store_same : (n : Counts) (k : Command) (s : Store) → (accepted k (recounted n s)).store ≡ recounted (counts_after k n) (accepted k s).store
unfolding accepted
store_same n (REG k) s = bool_cases (is_kind k s) (λ t. rw t) (λ t. rw t)
store_same n (HOLD k v) s = refl
store_same n NEW s = refl
store_same n (PUT e) s = refl
store_same n (TAKE e) s = refl
store_same n (DROP e) s = refl
store_same n (KILL e) s = refl
store_same n WIPE s = refl
store_same n GROUP s = bool_cases (adds_nothing (staged_kinds s) s.control.draft) (λ t. rw t) (λ t. rw t)
store_same n APPLY s = refl
store_same n (BAR k) s = refl
store_same n RANGE s = refl
store_same n EMPTY s = refl
store_same n TALLY s = refl
store_same n (TRAY m) s = refl
store_same n (SETCALLER c) s = refl

pub accepted_counts : (k : Command) (s : Store) → (accepted k s).store.control.counts ≡ counts_after k s.control.counts
accepted_counts k s = ap (λ (x : Store). x.control.counts) (store_same s.control.counts k s)

-- ---- command 10, and TALLY

pub call_told : (c : ℕ) (s : Store) (rest : List ℕ) → CallTold c s (store_after s (does (SETCALLER c) s)) (answer_of (does (SETCALLER c) s) ++ rest)
call_told c s rest =
    record {
      above = λ h. let e = caller_above s c (lt-ltb LAST_CALLER c h) in (ap (λ (x : Outcome). take 1 (answer_of x ++ rest)) e, ap (store_after s) e);
      sets = λ h. let e = caller_set s c (le-ltb LAST_CALLER c h) in (ap (λ (x : Outcome). take 1 (answer_of x ++ rest)) e, ap (store_after s) e);
    }

pub tally_told : (s : Store) (rest : List ℕ) → TallyTold s (store_after s (does TALLY s)) (answer_of (does TALLY s) ++ rest)
tally_told s rest =
    let e = tally_does s in
    record { answer = ap (λ (x : Outcome). take 5 (answer_of x ++ rest)) e; same = ap (store_after s) e }

-- ---- one command

called_kept : (o : Option ℕ) (d : ℕ) → call_one o ≡ 0 → caller_after o d ≡ d
called_kept none d h = refl
called_kept (some c) d h = absurd (omega arith)

-- but for command 10 an accepted one leaves the caller too
uncalled_counts : (k : Command) (n : Counts) → call_one (calls_to k) ≡ 0 → counts_after k n ≡ n
uncalled_counts k n h = let e = called_kept (calls_to k) n.caller h in λ i. record { caller = e i; refusals = n.refusals }

-- the refusals counted against c go up where the command is refused while c is the caller, and else they stay
after_refusals : (c : ℕ) (k : Command) (s : Store) → CountsSound s.control.counts → refusals_by c (store_after s (does k s)).control ≡ more_by (refused_one (caller_is c) k s) (refusals_by c s.control)
unfolding does
after_refusals c k s N =
    outcome_case (λ (o : Outcome). refusals_by c (store_after s o).control ≡ more_by (one (caller_is c s && is_refusal o)) (refusals_by c s.control)) (first_line (lines_of k) s) (accepted k s)
    (λ n e. bool_cases (caller_is c s)
    (λ t. let same : c ≡ s.control.counts.caller = eqb-true c s.control.counts.caller t in rw (t, same) (own_counted s.control N))
    (λ t. rw t (others_counted s.control c (eqb-false c s.control.counts.caller t))))
    (λ e. rw (and_false_right (caller_is c s) false refl) (ap (λ (n : Counts). get_or n.refusals c 0) (accepted_counts k s)))

after_caller : (k : Command) (s : Store) → call_one (calls_to k) ≡ 0 → (store_after s (does k s)).control.counts.caller ≡ s.control.counts.caller
unfolding does
after_caller k s h =
    outcome_case (λ (o : Outcome). (store_after s o).control.counts.caller ≡ s.control.counts.caller) (first_line (lines_of k) s) (accepted k s)
    (λ n e. refl)
    (λ e. ap (λ (n : Counts). n.caller) (accepted_counts k s ∙ uncalled_counts k s.control.counts h))

-- ---- one step

module _ (b : ℕ) (t : List ℕ) (room : ℕ) (s : Store) where
  -- the command
  abbrev k : Command
  k = command_on b t s

  step_refusals : (c : ℕ) → CountsSound s.control.counts → IfGoes (λ w a s'. refusals_by c s'.control ≡ more_by (refused_one (caller_is c) k s) (refusals_by c s.control)) (step b t room s)
  step_refusals c N =
      step_case (IfGoes (λ w a s'. refusals_by c s'.control ≡ more_by (refused_one (caller_is c) k s) (refusals_by c s.control))) b t room s (λ n. tt) (λ h. after_refusals c k s N)

  step_caller : IfGoes (λ w a s'. call_one (calls_to k) ≡ 0 → s'.control.counts.caller ≡ s.control.counts.caller) (step b t room s)
  step_caller = step_case (IfGoes (λ w a s'. call_one (calls_to k) ≡ 0 → s'.control.counts.caller ≡ s.control.counts.caller)) b t room s (λ n. tt) (λ h. after_caller k s)

-- ---- "Each caller has a tally of its own": after a run it has gone up by what was refused while that one was the caller

refusals_for : (c fuel : ℕ) (t : List ℕ) (room : ℕ) (s : Store) → Bytes t → StoreSound s → refusals_by c (run_for fuel t room s).store.control ≡ more_by (refused_for (caller_is c) fuel t room s) (refusals_by c s.control)
unfolding run_for refused_for
refusals_for c zero t room s B S = refl
refusals_for c (suc fuel) [] room s B S = refl
refusals_for c (suc fuel) (b ∷ t) room s B S =
    go (step b t room s) (step_sound b t room s B.1 S) (step_refusals b t room s c S.counts) (λ w m s'. refusals_for c fuel (drop w (b ∷ t)) m s' (bytes_drop w (b ∷ t) B))
  where
    one' : ℕ
    one' = refused_one (caller_is c) (command_on b t s) s

    rest : ℕ → ℕ → Store → ℕ
    rest w m s' = refused_for (caller_is c) fuel (drop w (b ∷ t)) m s'

    go : (p : Step) → After StoreSound p → IfGoes (λ w a s'. refusals_by c s'.control ≡ more_by one' (refusals_by c s.control)) p
        → ((w m : ℕ) (s' : Store) → StoreSound s' → refusals_by c (run_for fuel (drop w (b ∷ t)) m s').store.control ≡ more_by (rest w m s') (refusals_by c s'.control))
        → refusals_by c (elim p as (λ p. Ran) [ stops n ↦ halt n s | goes w a s' ↦ more w a (run_for fuel (drop w (b ∷ t)) (room - length a) s') ]).store.control
        ≡ more_by (elim p as (λ q. ℕ) [ stops n ↦ 0 | goes w a s' ↦ one' + rest w (room - length a) s' ]) (refusals_by c s.control)
    go (stops n) S' q rec = refl
    go (goes w a s') S' q rec =
        rec w (room - length a) s' S' ∙ ap (more_by (rest w (room - length a) s')) q ∙ sym (more_more one' (rest w (room - length a) s') (refusals_by c s.control))

pub refusals_after : (c : ℕ) (t : List ℕ) (room : ℕ) (s : Store) → Bytes t → StoreSound s → refusals_by c (run t room s).store.control ≡ more_by (refused_by c t room s) (refusals_by c s.control)
unfolding run refused_by
refusals_after c t room s B S = refusals_for c (length t) t room s B S

-- ---- a run that never meets command 10 keeps the caller, and counts all its refusals against it

caller_for : (fuel : ℕ) (t : List ℕ) (room : ℕ) (s : Store) → calls_for fuel t room s ≡ 0 → (run_for fuel t room s).store.control.counts.caller ≡ s.control.counts.caller
unfolding run_for calls_for
caller_for zero t room s h = refl
caller_for (suc fuel) [] room s h = refl
caller_for (suc fuel) (b ∷ t) room s h = go (step b t room s) (step_caller b t room s) (λ w m s'. caller_for fuel (drop w (b ∷ t)) m s') h
  where
    one' : ℕ
    one' = call_one (calls_to (command_on b t s))

    go : (p : Step) → IfGoes (λ w a s'. one' ≡ 0 → s'.control.counts.caller ≡ s.control.counts.caller) p
        → ((w m : ℕ) (s' : Store) → calls_for fuel (drop w (b ∷ t)) m s' ≡ 0 → (run_for fuel (drop w (b ∷ t)) m s').store.control.counts.caller ≡ s'.control.counts.caller)
        → ◌≡◌ {A = ℕ} (elim p as (λ q. ℕ) [ stops n ↦ 0 | goes w a s' ↦ one' + calls_for fuel (drop w (b ∷ t)) (room - length a) s' ]) 0
        → (elim p as (λ p. Ran) [ stops n ↦ halt n s | goes w a s' ↦ more w a (run_for fuel (drop w (b ∷ t)) (room - length a) s') ]).store.control.counts.caller ≡ s.control.counts.caller
    go (stops n) q rec z = refl
    go (goes w a s') q rec z = rec w (room - length a) s' (omega (arith, z)) ∙ q (omega (arith, z))

-- two tests that agree while d is the caller tell as many
refused_alike : (p q : Store → Bool) (d : ℕ) → ((u : Store) → u.control.counts.caller ≡ d → p u ≡ q u) → (fuel : ℕ) (t : List ℕ) (room : ℕ) (s : Store) → s.control.counts.caller ≡ d → calls_for fuel t room s ≡ 0
    → refused_for p fuel t room s ≡ refused_for q fuel t room s
unfolding refused_for calls_for
refused_alike p q d f zero t room s e h = refl
refused_alike p q d f (suc fuel) [] room s e h = refl
refused_alike p q d f (suc fuel) (b ∷ t) room s e h = go (step b t room s) (step_caller b t room s) (λ w m s'. refused_alike p q d f fuel (drop w (b ∷ t)) m s') h
  where
    k' : Command
    k' = command_on b t s

    first : refused_one p k' s ≡ refused_one q k' s
    first = ap (λ (x : Bool). one (x && is_refusal (does k' s))) (f s e)

    go : (x : Step) → IfGoes (λ w a s'. call_one (calls_to k') ≡ 0 → s'.control.counts.caller ≡ s.control.counts.caller) x
        → ((w m : ℕ) (s' : Store) → s'.control.counts.caller ≡ d → calls_for fuel (drop w (b ∷ t)) m s' ≡ 0 → refused_for p fuel (drop w (b ∷ t)) m s' ≡ refused_for q fuel (drop w (b ∷ t)) m s')
        → ◌≡◌ {A = ℕ} (elim x as (λ y. ℕ) [ stops n ↦ 0 | goes w a s' ↦ call_one (calls_to k') + calls_for fuel (drop w (b ∷ t)) (room - length a) s' ]) 0
        → ◌≡◌ {A = ℕ} (elim x as (λ y. ℕ) [ stops n ↦ 0 | goes w a s' ↦ refused_one p k' s + refused_for p fuel (drop w (b ∷ t)) (room - length a) s' ])
        (elim x as (λ y. ℕ) [ stops n ↦ 0 | goes w a s' ↦ refused_one q k' s + refused_for q fuel (drop w (b ∷ t)) (room - length a) s' ])
    go (stops n) g rec z = refl
    go (goes w a s') g rec z = omega (arith, first, rec w (room - length a) s' (g (omega (arith, z)) ∙ e) (omega (arith, z)))

none_refused : (fuel : ℕ) (t : List ℕ) (room : ℕ) (s : Store) → refused_for (λ u. false) fuel t room s ≡ 0
unfolding refused_for
none_refused zero t room s = refl
none_refused (suc fuel) [] room s = refl
none_refused (suc fuel) (b ∷ t) room s = go (step b t room s) (λ w m s'. none_refused fuel (drop w (b ∷ t)) m s')
  where
    go : (x : Step) → ((w m : ℕ) (s' : Store) → refused_for (λ u. false) fuel (drop w (b ∷ t)) m s' ≡ 0)
        → ◌≡◌ {A = ℕ} (elim x as (λ y. ℕ) [ stops n ↦ 0 | goes w a s' ↦ 0 + refused_for (λ u. false) fuel (drop w (b ∷ t)) (room - length a) s' ]) 0
    go (stops n) rec = refl
    go (goes w a s') rec = omega (arith, rec w (room - length a) s')

module _ (t : List ℕ) (room : ℕ) (s : Store) (B : Bytes t) (S : StoreSound s) (h : calls t room s ≡ 0) where
  abbrev d : ℕ
  d = s.control.counts.caller

  own_all : refused_by d t room s ≡ refused_all t room s
  unfolding refused_by refused_all calls
  own_all = refused_alike (caller_is d) any_store d (λ u e. eq-eqb d u.control.counts.caller (sym e)) (length t) t room s refl h

  other_none : (c : ℕ) → c ≢ d → refused_by c t room s ≡ 0
  unfolding refused_by calls
  other_none c ne =
      refused_alike (caller_is c) (λ u. false) d (λ u e. ne_eqb c u.control.counts.caller (λ q. ne (q ∙ e))) (length t) t room s refl h ∙ none_refused (length t) t room s

  caller_kept : (run t room s).store.control.counts.caller ≡ d
  unfolding run calls
  caller_kept = caller_for (length t) t room s h

  pub one_caller : OneCaller (refused_all t room s) s (run t room s).store
  one_caller =
      record {
        caller = caller_kept;
        own = ap (λ (c : ℕ). refusals_by c (run t room s).store.control) caller_kept ∙ refusals_after d t room s B S ∙ ap (λ (n : ℕ). more_by n (refusals_by d s.control)) own_all;
        others = λ c ne. refusals_after c t room s B S ∙ ap (λ (n : ℕ). more_by n (refusals_by c s.control)) (other_none c ne);
      }

-- ---- stores that differ in caller and counts alone

recounted_sound : (n : Counts) (s : Store) → CountsSound n → StoreSound s → StoreSound (recounted n s)
recounted_sound n s N S = let C = control_of s S in control_sound s S _ (record { staged = C.staged; excluded = C.excluded; draft = C.draft; counts = N })

answer_by : (o : Option ℕ) (d e : Done) → d.answer ≡ e.answer → answer_of (outcome o d) ≡ answer_of (outcome o e)
answer_by (some n) d e q = refl
answer_by none d e q = ap {B = List ℕ} (λ a. 0 ∷ a) q

module _ (n : Counts) (k : Command) (s : Store) where
  -- no answer but TALLY's looks at caller or counts
  pub answers_same : (k ≡ TALLY → own_refusals (recounted n s).control ≡ own_refusals s.control) → answer_of (does k (recounted n s)) ≡ answer_of (does k s)
  unfolding does
  answers_same h =
      ap (λ (o : Option ℕ). answer_of (outcome o (accepted k (recounted n s)))) (lines_same n k s)
      ∙ answer_by (first_line (lines_of k) s) (accepted k (recounted n s)) (accepted k s) (answer_same n k s h)

  -- and what it leaves differs again in these alone
  pub stores_same : store_after (recounted n s) (does k (recounted n s)) ≡ recounted (store_after (recounted n s) (does k (recounted n s))).control.counts (store_after s (does k s))
  unfolding does
  stores_same = rw (lines_same n k s) (by_line (first_line (lines_of k) s))
    where
      by_line : (o : Option ℕ) → store_after (recounted n s) (outcome o (accepted k (recounted n s))) ≡ recounted (store_after (recounted n s) (outcome o (accepted k (recounted n s)))).control.counts (store_after s (outcome o (accepted k s)))
      by_line (some m) = refl
      by_line none = store_same n k s ∙ ap (λ (m : Counts). recounted m (accepted k s).store) (sym (accepted_counts k (recounted n s)))

  module _ (N : CountsSound n) (S : CountsSound s.control.counts) (e : own_refusals (recounted n s).control ≡ own_refusals s.control) (u : call_one (calls_to k) ≡ 0) where
    own_same : own_refusals (store_after (recounted n s) (does k (recounted n s))).control ≡ own_refusals (store_after s (does k s)).control
    unfolding does
    own_same = rw (lines_same n k s) (by_line (first_line (lines_of k) s))
      where
        kept : (x : Store) → own_refusals (accepted k x).store.control ≡ own_refusals x.control
        kept x = ap (λ (m : Counts). get_or m.refusals m.caller 0) (accepted_counts k x ∙ uncalled_counts k x.control.counts u)

        by_line : (o : Option ℕ) → own_refusals (store_after (recounted n s) (outcome o (accepted k (recounted n s)))).control ≡ own_refusals (store_after s (outcome o (accepted k s))).control
        by_line (some m) = own_counted (recounted n s).control N ∙ ap one_more e ∙ sym (own_counted s.control S)
        by_line none = kept (recounted n s) ∙ e ∙ sym (kept s)

-- a step, with other counts in the store that it leaves
abbrev restep : Counts → Step → Step
restep m (stops n) = stops n
restep m (goes w a s) = goes w a (recounted m s)

module _ (n : Counts) (b : ℕ) (t : List ℕ) (room : ℕ) (s : Store) (e : own_refusals (recounted n s).control ≡ own_refusals s.control) where
  abbrev op : Command
  op = command_on b t s

  -- the counts after it
  abbrev m : Counts
  m = (store_after (recounted n s) (does op (recounted n s))).control.counts

  room_same : answer_length op (recounted n s) ≡ answer_length op s
  room_same = sym (accepted_length op (recounted n s)) ∙ ap (λ (a : List ℕ). suc (length a)) (answer_same n op s (λ q. e)) ∙ accepted_length op s

  before_same : first_line before_lines (record { byte = b; rest = t; room = room; store = recounted n s }) ≡ first_line before_lines (record { byte = b; rest = t; room = room; store = s })
  before_same = rw room_same

  step_same : step b t room (recounted n s) ≡ restep m (step b t room s)
  unfolding step
  step_same = rw before_same (by_line (first_line before_lines (record { byte = b; rest = t; room = room; store = s })))
    where
      by_line : (o : Option ℕ) → step_if o (step_of (suc (operands_len b s)) (recounted n s) (does op (recounted n s))) ≡ restep m (step_if o (step_of (suc (operands_len b s)) s (does op s)))
      by_line (some i) = refl
      by_line none = ap₂ (λ (a : List ℕ) (x : Store). goes (suc (operands_len b s)) a x) (answers_same n op s (λ q. e)) (stores_same n op s)

  own_step : CountsSound n → CountsSound s.control.counts → IfGoes (λ w a s'. call_one (calls_to op) ≡ 0 → own_refusals (recounted m s').control ≡ own_refusals s'.control) (step b t room s)
  own_step N S =
      step_case (IfGoes (λ w a s'. call_one (calls_to op) ≡ 0 → own_refusals (recounted m s').control ≡ own_refusals s'.control)) b t room s (λ i. tt) (λ h. own_same n op s N S e)

-- ---- a run that never meets command 10 looks at the caller's own count alone

same_for : (n : Counts) (fuel : ℕ) (t : List ℕ) (room : ℕ) (s : Store) → Bytes t → StoreSound s → CountsSound n → own_refusals (recounted n s).control ≡ own_refusals s.control → calls_for fuel t room s ≡ 0
    → SameButCallers (run_for fuel t room s) (run_for fuel t room (recounted n s))
unfolding run_for calls_for
same_for n zero t room s B S N e h = record { stop = refl; commands = refl; read = refl; bytes = refl; store = record { same = refl; own = e } }
same_for n (suc fuel) [] room s B S N e h = record { stop = refl; commands = refl; read = refl; bytes = refl; store = record { same = refl; own = e } }
same_for n (suc fuel) (b ∷ t) room s B S N e h =
    let next = step_same n b t room s e in
    subst (λ (p : Step). SameButCallers (ran s (step b t room s)) (ran (recounted n s) p)) (sym next)
    (go (step b t room s) (step_sound b t room s B.1 S)
    (subst (After StoreSound) next (step_sound b t room (recounted n s) B.1 (recounted_sound n s N S)))
    (own_step n b t room s e N S.counts)
    (λ w i s' P Q. same_for after fuel (drop w (b ∷ t)) i s' (bytes_drop w (b ∷ t) B) P Q) h)
  where
    one' : ℕ
    one' = call_one (calls_to (command_on b t s))

    after : Counts
    after = (store_after (recounted n s) (does (command_on b t s) (recounted n s))).control.counts

    ran : Store → Step → Ran
    ran x p = elim p as (λ p. Ran) [ stops i ↦ halt i x | goes w a s' ↦ more w a (run_for fuel (drop w (b ∷ t)) (room - length a) s') ]

    go : (p : Step) → After StoreSound p → After StoreSound (restep after p) → IfGoes (λ w a s'. one' ≡ 0 → own_refusals (recounted after s').control ≡ own_refusals s'.control) p
        → ((w i : ℕ) (s' : Store) → StoreSound s' → CountsSound after → own_refusals (recounted after s').control ≡ own_refusals s'.control → calls_for fuel (drop w (b ∷ t)) i s' ≡ 0
        → SameButCallers (run_for fuel (drop w (b ∷ t)) i s') (run_for fuel (drop w (b ∷ t)) i (recounted after s')))
        → ◌≡◌ {A = ℕ} (elim p as (λ q. ℕ) [ stops i ↦ 0 | goes w a s' ↦ one' + calls_for fuel (drop w (b ∷ t)) (room - length a) s' ]) 0
        → SameButCallers (ran s p) (ran (recounted n s) (restep after p))
    go (stops i) P Q g rec z = record { stop = refl; commands = refl; read = refl; bytes = refl; store = record { same = refl; own = e } }
    go (goes w a s') P Q g rec z =
        let r = rec w (room - length a) s' P Q.counts (g (omega (arith, z))) (omega (arith, z)) in
        record { stop = r.stop; commands = ap suc r.commands; read = ap (λ (i : ℕ). w + i) r.read; bytes = ap (λ (l : List ℕ). a ++ l) r.bytes; store = r.store }

pub runs_same : (t : List ℕ) (room : ℕ) (s u : Store) → Bytes t → StoreSound s → StoreSound u → ButCallers s u → calls t room s ≡ 0 → SameButCallers (run t room s) (run t room u)
unfolding run calls
runs_same t room s u B S U C h =
    subst (λ (x : Store). SameButCallers (run_for (length t) t room s) (run_for (length t) t room x)) (sym C.same) (same_for u.control.counts (length t) t room s B S U.counts C.own h)
