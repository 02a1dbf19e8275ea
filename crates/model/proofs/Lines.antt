-- The table of refusals: a refusal is the number of the first line that holds, and what a refused command changes. Assumes nothing.
use mathlib.Core.Path.{◌≡◌, refl, ap, ap₂, sym, ◌∙◌, subst}
use mathlib.Core.Logic.{◌↔◌, inl, inr, ⊎_elim}
use mathlib.Core.Bool.{true}
use mathlib.Core.Option.{Option, some, none}
use mathlib.Core.List.{List, [], ◌∷◌, ◌++◌}
use Prim.Native.Nat.{ℕ, suc, ◌≤◌}
use native.Mathlib.Omega.{arith}
use borrow.Author.Tests.{ltb-true}
use lib.ListN.{length, length-map}
use Rattle.model.specs.Numbers.{CALLER, KIND, LIST_CAPACITY, MAX_GROUP_ARITY, NOROOM, UNKNOWN, WIDE}
use Rattle.model.specs.Model.{kind_of}
use Rattle.model.specs.Store.{Store, staged_kinds, own_refusals}
use Rattle.model.specs.Commands.{Command, REG, HOLD, NEW, PUT, TAKE, DROP, KILL, WIPE, GROUP, APPLY, BAR, RANGE, EMPTY, TALLY, TRAY, SETCALLER, Done, accepted, command_on, operands_len}
use Rattle.model.specs.Refusals.{Line, first_line, NoneHolds, First, lines_of, before_lines}
use Rattle.model.specs.Run.{Outcome, refuses, accepts, outcome, does, Step, stops, store_after, step_of, step_if, step}
use Rattle.model.specs.Sound.{CountsSound, StoreSound}
use Rattle.model.proofs.BoolLaws.{bool_cases}
use Rattle.model.proofs.Counts.{refusal_unchanged, own_counted, one_more_up, one_more_full}
use Rattle.model.specs.Theorems.{InRun, RefusedStep}

-- ---- the first line that holds

pub some_eq : {m n : ℕ} → some m ≡ some n → m ≡ n
some_eq p = cc

pub some_none : {n : ℕ} → some n ≡ none → ⊥
some_none {n} p = let z : ◌≡◌ {A = ℕ} 0 1 = cc in omega arith

module _ {A : Type 0} where
  first_to : (ls : List (Line A)) (a : A) (n : ℕ) → first_line ls a ≡ some n → First ls a n
  first_to [] a n e = absurd (some_none (sym e))
  first_to (l ∷ ls) a n e =
      bool_cases (l.holds a)
      (λ t. record { above = []; here = l; under = ls; table = refl; passed = tt; holds = t; number = some_eq (rw t at e) })
      (λ t.
      let r : First ls a n = first_to ls a n (rw t at e) in
      record { above = l ∷ r.above; here = r.here; under = r.under; table = ap {B = List (Line A)} (λ x. l ∷ x) r.table; passed = (t, r.passed); holds = r.holds; number = r.number })

  first_at_law : (above under : List (Line A)) (here : Line A) (a : A) → NoneHolds above a → here.holds a ≡ true → first_line (above ++ (here ∷ under)) a ≡ some here.number
  first_at_law [] under here a p t = rw t
  first_at_law (l ∷ above) under here a p t = rw p.0 (first_at_law above under here a p.1 t)

  first_from : (ls : List (Line A)) (a : A) (n : ℕ) → First ls a n → first_line ls a ≡ some n
  first_from ls a n f = ap (λ (x : List (Line A)). first_line x a) f.table ∙ first_at_law f.above f.under f.here a f.passed f.holds ∙ ap {B = Option ℕ} some f.number

  -- a number is given exactly where its line holds and no line above does
  pub first_exact : (ls : List (Line A)) (a : A) (n : ℕ) → (first_line ls a ≡ some n) ↔ First ls a n
  first_exact ls a n = (first_to ls a n, first_from ls a n)

  pub none_to : (ls : List (Line A)) (a : A) → first_line ls a ≡ none → NoneHolds ls a
  none_to [] a e = tt
  none_to (l ∷ ls) a e = bool_cases (l.holds a) (λ t. absurd (some_none (rw t at e))) (λ t. (t, none_to ls a (rw t at e)))

  pub none_from : (ls : List (Line A)) (a : A) → NoneHolds ls a → first_line ls a ≡ none
  none_from [] a h = refl
  none_from (l ∷ ls) a h = rw h.0 (none_from ls a h.1)

  -- none is given exactly where no line holds
  pub none_exact : (ls : List (Line A)) (a : A) → (first_line ls a ≡ none) ↔ NoneHolds ls a
  none_exact ls a = (none_to ls a, none_from ls a)

-- ---- commands

pub outcome_case : (P : Outcome → Type 0) (r : Option ℕ) (d : Done) → ((n : ℕ) → r ≡ some n → P (refuses n)) → (r ≡ none → P (accepts d.store d.answer)) → P (outcome r d)
outcome_case P (some n) d f g = f n refl
outcome_case P none d f g = g refl

refuses_eq : {m n : ℕ} → refuses m ≡ refuses n → m ≡ n
refuses_eq p = cc

outcome_refuses : (r : Option ℕ) (d : Done) (n : ℕ) → outcome r d ≡ refuses n → r ≡ some n
outcome_refuses (some m) d n e = ap {B = Option ℕ} some (refuses_eq e)
outcome_refuses none d n e = let z : ◌≡◌ {A = ℕ} 0 1 = cc in absurd (omega arith)

outcome_accepts : (r : Option ℕ) (d : Done) (s : Store) (a : List ℕ) → outcome r d ≡ accepts s a → (r ≡ none) × (d.store ≡ s) × (d.answer ≡ a)
outcome_accepts (some m) d s a e = let z : ◌≡◌ {A = ℕ} 0 1 = cc in absurd (omega arith)
outcome_accepts none d s a e = (refl, cc, cc)

-- a command is refused by a number exactly where the table gives it: the line of its number holds, and no line above does
pub refusal_exact : (c : Command) (s : Store) (n : ℕ) → (does c s ≡ refuses n) ↔ First (lines_of c) s n
unfolding does
refusal_exact c s n = ((λ e. first_to (lines_of c) s n (outcome_refuses (first_line (lines_of c) s) (accepted c s) n e)), (λ f. rw (first_from (lines_of c) s n f)))

-- it is accepted, with what the table of commands says, exactly where no line holds
pub accepted_exact : (c : Command) (s : Store) (s' : Store) (a : List ℕ) → (does c s ≡ accepts s' a) ↔ (NoneHolds (lines_of c) s × ((accepted c s).store ≡ s') × ((accepted c s).answer ≡ a))
unfolding does
accepted_exact c s s' a = (
  (λ e. let o = outcome_accepts (first_line (lines_of c) s) (accepted c s) s' a e in (none_to (lines_of c) s o.0, o.1, o.2)),
  (λ h. rw (none_from (lines_of c) s h.0) (ap₂ accepts h.1 h.2)),
)

-- the numbers of a list of lines, each such as P says
abbrev EachNumber : {A : Type 0} → (ℕ → Type 0) → List (Line A) → Type 0
EachNumber P [] = Unit {0}
EachNumber P (l ∷ ls) = P l.number × EachNumber P ls

first_such : {A : Type 0} (P : ℕ → Type 0) (ls : List (Line A)) (x : A) (n : ℕ) → EachNumber P ls → first_line ls x ≡ some n → P n
first_such P [] x n h e = absurd (some_none (sym e))
first_such P (l ∷ ls) x n h e = bool_cases (l.holds x) (λ t. subst P (some_eq (rw t at e)) h.0) (λ t. first_such P ls x n h.1 (rw t at e))

-- the numbers of a list of lines, from a to b
abbrev pub NumbersIn : {A : Type 0} → ℕ → ℕ → List (Line A) → Type 0
NumbersIn a b [] = Unit {0}
NumbersIn a b (l ∷ ls) = (a ≤ l.number) × (l.number ≤ b) × NumbersIn a b ls

pub first_number : {A : Type 0} (ls : List (Line A)) (x : A) (a b n : ℕ) → NumbersIn a b ls → first_line ls x ≡ some n → (a ≤ n) × (n ≤ b)
first_number [] x a b n h e = absurd (some_none (sym e))
first_number (l ∷ ls) x a b n h e =
    bool_cases (l.holds x)
    (λ t. let p : l.number ≡ n = some_eq (rw t at e) in (omega (arith, h.0), omega (arith, h.1)))
    (λ t. first_number ls x a b n h.2 (rw t at e))

lines_in_run : (c : Command) → EachNumber InRun (lines_of c)
unfolding lines_of
lines_in_run (REG k) = (inl (omega arith), (inl (omega arith), tt))
lines_in_run (HOLD k v) = (inl (omega arith), (inl (omega arith), (inl (omega arith), tt)))
lines_in_run NEW = (inl (omega arith), tt)
lines_in_run (PUT e) = (inl (omega arith), tt)
lines_in_run (TAKE e) = (inl (omega arith), tt)
lines_in_run (DROP e) = (inl (omega arith), tt)
lines_in_run (KILL e) = (inl (omega arith), tt)
lines_in_run WIPE = tt
lines_in_run GROUP = (inl (omega arith), (inl (omega arith), (inl (omega arith), tt)))
lines_in_run APPLY = tt
lines_in_run (BAR k) = (inl (omega arith), (inl (omega arith), (inl (omega arith), tt)))
lines_in_run RANGE = tt
lines_in_run EMPTY = tt
lines_in_run TALLY = tt
lines_in_run (TRAY n) = (inl (omega arith), tt)
lines_in_run (SETCALLER c) = (inr refl, tt)

in_run_numbers : {A : Type 0} (ls : List (Line A)) → EachNumber InRun ls → NumbersIn KIND CALLER ls
in_run_numbers [] h = tt
in_run_numbers (l ∷ ls) h =
    let n : (KIND ≤ l.number) × (l.number ≤ CALLER) = ⊎_elim (λ p. (p.0, omega (arith, p.1))) (λ e. (omega (arith, e), omega (arith, e))) h.0 in
    (n.0, n.1, in_run_numbers ls h.1)

pub lines_numbers : (c : Command) → NumbersIn KIND CALLER (lines_of c)
lines_numbers c = in_run_numbers (lines_of c) (lines_in_run c)

-- a command's refusal is one of 7 to 15, or 19
pub refusal_number : (c : Command) (s : Store) (n : ℕ) → does c s ≡ refuses n → InRun n
unfolding does
refusal_number c s n e = first_such InRun (lines_of c) s n (lines_in_run c) (outcome_refuses (first_line (lines_of c) s) (accepted c s) n e)

-- ---- 13 WIDE

-- no line of the number n holds
abbrev NoneBy : {A : Type 0} → ℕ → List (Line A) → A → Type 0
NoneBy n [] a = Unit {0}
NoneBy n (l ∷ ls) a = (l.number ≡ n → l.holds a ≡ true → ⊥) × NoneBy n ls a

first_by : {A : Type 0} (ls : List (Line A)) (a : A) (n : ℕ) → NoneBy n ls a → first_line ls a ≡ some n → ⊥
first_by [] a n h e = some_none (sym e)
first_by (l ∷ ls) a n h e = bool_cases (l.holds a) (λ t. h.0 (some_eq (rw t at e)) t) (λ t. first_by ls a n h.1 (rw t at e))

-- the number of a line is another one
other : {P : Type 0} (m n : ℕ) → (m ≡ n → ⊥) → m ≡ n → P → ⊥
other m n h e p = h e

-- as many kinds as a hand may have, a group may
pub staged_narrow : (n : ℕ) → n ≤ LIST_CAPACITY → n ≤ MAX_GROUP_ARITY
staged_narrow n h = omega arith

-- a hand has "up to 16 distinct kinds"
pub staged_few : (s : Store) → StoreSound s → length (staged_kinds s) ≤ LIST_CAPACITY
staged_few s S = omega (arith, length-map s.control.staged kind_of, S.staged.few)

lines_wide : (c : Command) (s : Store) → StoreSound s → NoneBy WIDE (lines_of c) s
unfolding lines_of
lines_wide (REG k) s S = (other _ _ (λ e. omega arith), (other _ _ (λ e. omega arith), tt))
lines_wide (HOLD k v) s S = (other _ _ (λ e. omega arith), (other _ _ (λ e. omega arith), (other _ _ (λ e. omega arith), tt)))
lines_wide NEW s S = (other _ _ (λ e. omega arith), tt)
lines_wide (PUT e) s S = (other _ _ (λ e. omega arith), tt)
lines_wide (TAKE e) s S = (other _ _ (λ e. omega arith), tt)
lines_wide (DROP e) s S = (other _ _ (λ e. omega arith), tt)
lines_wide (KILL e) s S = (other _ _ (λ e. omega arith), tt)
lines_wide WIPE s S = tt
lines_wide GROUP s S =
    ((λ e t. omega (arith, staged_narrow (length (staged_kinds s)) (staged_few s S), ltb-true _ (length (staged_kinds s)) t)), (other _ _ (λ e. omega arith), (other _ _ (λ e. omega arith), tt)))
lines_wide APPLY s S = tt
lines_wide (BAR k) s S = (other _ _ (λ e. omega arith), (other _ _ (λ e. omega arith), (other _ _ (λ e. omega arith), tt)))
lines_wide RANGE s S = tt
lines_wide EMPTY s S = tt
lines_wide TALLY s S = tt
lines_wide (TRAY n) s S = (other _ _ (λ e. omega arith), tt)
lines_wide (SETCALLER c) s S = (other _ _ (λ e. omega arith), tt)

-- 02, No. 3: "WIDE then never occurs"
pub wide_never : (c : Command) (s : Store) → StoreSound s → does c s ≡ refuses WIDE → ⊥
unfolding does
wide_never c s S e = first_by (lines_of c) s WIDE (lines_wide c s S) (outcome_refuses (first_line (lines_of c) s) (accepted c s) WIDE e)

-- ---- what a refused command changes: the refusal count of the caller alone, which saturates

-- "7 to 15 in a run write their number as one byte, add to the tally, change no other word, and the run goes on", and so 19
pub refused_step : (w : ℕ) (c : Command) (s : Store) (n : ℕ) → CountsSound s.control.counts → does c s ≡ refuses n → RefusedStep n w s (step_of w s (does c s))
refused_step w c s n N e =
    record {
      after = store_after s (refuses n);
      step = rw e;
      same = refusal_unchanged s;
      more = λ h. own_counted s.control N ∙ one_more_up (own_refusals s.control) h;
      full = λ h. own_counted s.control N ∙ one_more_full (own_refusals s.control) h;
    }

-- ---- stops

step_if_stops : (r : Option ℕ) (p : Step) (n : ℕ) → ((m : ℕ) → p ≡ stops m → ⊥) → step_if r p ≡ stops n → r ≡ some n
step_if_stops (some m) p n f e = ap {B = Option ℕ} some (stops_eq e)
  where
    stops_eq : {a b : ℕ} → stops a ≡ stops b → a ≡ b
    stops_eq q = cc
step_if_stops none p n f e = absurd (f n e)

step_of_goes : (w : ℕ) (s : Store) (o : Outcome) (m : ℕ) → step_of w s o ≡ stops m → ⊥
step_of_goes w s o m e = let z : ◌≡◌ {A = ℕ} 0 1 = cc in omega arith

-- a run stops before a command exactly where the table gives the number, one of 4 to 6
pub stop_exact : (b : ℕ) (t : List ℕ) (room : ℕ) (s : Store) (n : ℕ) → (step b t room s ≡ stops n) ↔ First before_lines (record { byte = b; rest = t; room = room; store = s }) n
unfolding step
stop_exact b t room s n = (
  (λ e. first_to before_lines (record { byte = b; rest = t; room = room; store = s }) n (step_if_stops (first_line before_lines (record { byte = b; rest = t; room = room; store = s })) (step_of (suc (operands_len b s)) s (does (command_on b t s) s)) n (step_of_goes (suc (operands_len b s)) s (does (command_on b t s) s)) e)),
  (λ f. ap (λ (r : Option ℕ). step_if r (step_of (suc (operands_len b s)) s (does (command_on b t s) s))) (first_from before_lines (record { byte = b; rest = t; room = room; store = s }) n f)),
)

pub stop_number : (b : ℕ) (t : List ℕ) (room : ℕ) (s : Store) (n : ℕ) → step b t room s ≡ stops n → (UNKNOWN ≤ n) × (n ≤ NOROOM)
stop_number b t room s n e =
    let f = (stop_exact b t room s n).0 e in
    first_number before_lines (record { byte = b; rest = t; room = room; store = s }) UNKNOWN NOROOM n (omega arith) (first_from before_lines (record { byte = b; rest = t; room = room; store = s }) n f)
