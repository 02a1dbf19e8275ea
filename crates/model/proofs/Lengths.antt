-- Answers have their accepted lengths, refusals are one byte; a run writes no more than its room, and stops with 0 only at the tape's end. Assumes nothing.
use mathlib.Core.Path.{◌≡◌, refl, ap, ap₂, sym, ◌∙◌}
use mathlib.Core.Logic.{inl, inr}
use mathlib.Core.Bool.{false}
use mathlib.Core.Option.{Option, some, none}
use mathlib.Core.List.{List, [], ◌∷◌, ◌++◌}
use Prim.Native.Nat.{ℕ, zero, suc, ◌+◌, ◌-◌, ◌*◌, ◌/◌, ◌≤◌}
use native.Mathlib.Omega.{arith}
use borrow.Author.Tests.{ltb-false}
use lib.Dec.{ltb}
use lib.ListN.{length, drop, get_or, length-append, length-map, length-drop}
use Rattle.model.specs.Model.{Entity, SparseSet, Storage, Range, none, found, no_row, set_of, at, held, kind_of, range_under, adds_nothing, create}
use Rattle.model.specs.Store.{Store, bytes_of, staged_kinds, is_kind, own_refusals}
use Rattle.model.specs.Commands.{Command, REG, HOLD, NEW, PUT, TAKE, DROP, KILL, WIPE, GROUP, APPLY, BAR, RANGE, EMPTY, TALLY, TRAY, SETCALLER, Done, accepted, answer_length, taken_bytes, held_bytes, range_bytes, command_on, operands_len}
use Rattle.model.specs.Refusals.{first_line, NoneHolds, before_lines}
use Rattle.model.specs.Run.{Outcome, refuses, accepts, does, Step, stops, goes, step_of, step_if, step, answer_of, Ran, halt, more, run_for, run}
use Rattle.model.proofs.BoolLaws.{cond_case}
use Rattle.model.proofs.Lines.{none_to, accepted_exact, stop_number}
use Rattle.model.specs.Theorems.{IfGoes, RunFits, StepFits}

-- ---- answers

pub bytes_of_length : (n x : ℕ) → length (bytes_of n x) ≡ n
bytes_of_length zero x = refl
bytes_of_length (suc n) x = ap suc (bytes_of_length n (x / 256))

pair_length : (x y : ℕ) → length (bytes_of 4 x ++ bytes_of 4 y) ≡ 8
pair_length x y = length-append (bytes_of 4 x) (bytes_of 4 y) ∙ ap₂ (λ (a b : ℕ). a + b) (bytes_of_length 4 x) (bytes_of_length 4 y)

pub component_length : (v : ℕ) (e : Entity) (rows : SparseSet) → length (taken_bytes v e rows) ≡ 1 + v
component_length v e rows = cond_case (λ (b : List ℕ). length b ≡ 1 + v) (held e rows) _ _ (λ t. omega (arith, bytes_of_length v (get_or rows (at e rows) no_row).value)) (λ t. omega (arith, bytes_of_length v 0))

pub held_length : (v : ℕ) (e : Entity) (ks : List ℕ) (p : Storage) → length (held_bytes v e ks p) ≡ (1 + v) * length ks
held_length v e [] p = omega arith
held_length v e (k ∷ ks) p = omega (arith, held_length v e ks p, component_length v e (set_of p.sets k), length-append (taken_bytes v e (set_of p.sets k)) (held_bytes v e ks p))

range_length : (r : Range) → length (range_bytes r) ≡ 9
range_length none = refl
range_length (found a b) = ap suc (pair_length a b)

-- an accepted answer, with its 0 byte, has the length that the room is judged by
pub accepted_length : (c : Command) (s : Store) → suc (length (accepted c s).answer) ≡ answer_length c s
unfolding accepted
accepted_length (REG k) s = cond_case (λ (d : Done). suc (length d.answer) ≡ 2) (is_kind k s) _ _ (λ t. refl) (λ t. refl)
accepted_length (HOLD k v) s = refl
accepted_length NEW s = ap suc (pair_length (create s.entities).entity.index (create s.entities).entity.version)
accepted_length (PUT e) s = refl
accepted_length (TAKE e) s =
    let h : length (held_bytes s.settings.value_bytes e (staged_kinds s) s.storage) ≡ (1 + s.settings.value_bytes) * length s.control.staged =
    held_length s.settings.value_bytes e (staged_kinds s) s.storage ∙ ap (λ (n : ℕ). (1 + s.settings.value_bytes) * n) (length-map s.control.staged kind_of) in
    omega (arith, h)
accepted_length (DROP e) s = refl
accepted_length (KILL e) s = refl
accepted_length WIPE s = refl
accepted_length GROUP s = cond_case (λ (d : Done). suc (length d.answer) ≡ 2) (adds_nothing (staged_kinds s) s.control.draft) _ _ (λ t. refl) (λ t. refl)
accepted_length APPLY s = refl
accepted_length (BAR k) s = refl
accepted_length RANGE s = ap suc (range_length (range_under s.settings.newer (staged_kinds s) s.control.excluded s.storage))
accepted_length EMPTY s = refl
accepted_length TALLY s = ap suc (bytes_of_length 4 (own_refusals s.control))
accepted_length (TRAY n) s = ap suc (bytes_of_length 2 n)
accepted_length (SETCALLER c) s = refl

pub answer_length_law : (c : Command) (s s' : Store) (a : List ℕ) → does c s ≡ accepts s' a → suc (length a) ≡ answer_length c s
answer_length_law c s s' a e = sym (ap (λ (b : List ℕ). suc (length b)) ((accepted_exact c s s' a).0 e).2) ∙ accepted_length c s

pub answer_positive : (c : Command) (s : Store) → 1 ≤ answer_length c s
answer_positive c s = omega (arith, accepted_length c s)

-- the answer takes no more than the accepted one
pub answer_fits : (c : Command) (s : Store) (x : Outcome) → does c s ≡ x → length (answer_of x) ≤ answer_length c s
answer_fits c s (refuses n) e = answer_positive c s
answer_fits c s (accepts s' a) e = omega (arith, answer_length_law c s s' a e)

-- ---- one step

-- a property of a step that goes on, from that of what it does where no line before the command holds
pub step_case : (P : Step → Type 0) (b : ℕ) (t : List ℕ) (room : ℕ) (s : Store) → ((n : ℕ) → P (stops n)) → (NoneHolds before_lines (record { byte = b; rest = t; room = room; store = s }) → P (step_of (suc (operands_len b s)) s (does (command_on b t s) s))) → P (step b t room s)
unfolding step
step_case P b t room s f g = go (first_line before_lines (record { byte = b; rest = t; room = room; store = s })) (λ e. g (none_to before_lines (record { byte = b; rest = t; room = room; store = s }) e))
  where
    go : (r : Option ℕ) → (r ≡ none → P (step_of (suc (operands_len b s)) s (does (command_on b t s) s))) → P (step_if r (step_of (suc (operands_len b s)) s (does (command_on b t s) s)))
    go (some n) h = f n
    go none h = h refl

-- no outcome is both
pub clash : (o : Outcome) (n : ℕ) (s : Store) (a : List ℕ) → o ≡ refuses n → o ≡ accepts s a → ⊥
clash o n s a p q = let z : ◌≡◌ {A = ℕ} 0 1 = cc in omega arith

pub step_lengths : (b : ℕ) (t : List ℕ) (room : ℕ) (s : Store) → IfGoes (λ w a s'. StepFits b t room s w a) (step b t room s)
step_lengths b t room s = step_case (IfGoes (λ w a s'. StepFits b t room s w a)) b t room s (λ n. tt) (λ h. go (does (command_on b t s) s) refl h.1.0 h.1.1.0)
  where
    go : (o : Outcome) → does (command_on b t s) s ≡ o → ltb (length t) (operands_len b s) ≡ false → ltb room (answer_length (command_on b t s) s) ≡ false → IfGoes (λ w a s'. StepFits b t room s w a) (step_of (suc (operands_len b s)) s o)
    go (refuses n) e v w =
        record {
          read = refl;
          whole = omega (arith, ltb-false (length t) (operands_len b s) v);
          fits = omega (arith, ltb-false room (answer_length (command_on b t s) s) w, answer_positive (command_on b t s) s);
          refused = λ m p. refl;
          accepted = λ s' x p. absurd (clash (does (command_on b t s) s) n s' x e p);
        }
    go (accepts s' a) e v w =
        record {
          read = refl;
          whole = omega (arith, ltb-false (length t) (operands_len b s) v);
          fits = omega (arith, ltb-false room (answer_length (command_on b t s) s) w, answer_length_law (command_on b t s) s s' a e);
          refused = λ m p. absurd (clash (does (command_on b t s) s) m s' a p e);
          accepted = λ q x p. answer_length_law (command_on b t s) s s' a e;
        }

-- ---- a run

run_fits_for : (fuel : ℕ) (t : List ℕ) (room : ℕ) (s : Store) → length t ≤ fuel → RunFits t room (run_for fuel t room s)
unfolding run_for
run_fits_for zero t room s bytes_of = record { bytes = omega arith; tape = omega arith; commands = omega arith; stop = inl refl; end = λ e. omega arith }
run_fits_for (suc fuel) [] room s bytes_of = record { bytes = omega arith; tape = omega arith; commands = omega arith; stop = inl refl; end = λ e. refl }
run_fits_for (suc fuel) (b ∷ t) room s bytes_of = go (step b t room s) refl (step_lengths b t room s) (λ w r s' h. run_fits_for fuel (drop w (b ∷ t)) r s' h)
  where
    go : (p : Step) → step b t room s ≡ p → IfGoes (λ w a s'. StepFits b t room s w a) p → ((w r : ℕ) (s' : Store) → length (drop w (b ∷ t)) ≤ fuel → RunFits (drop w (b ∷ t)) r (run_for fuel (drop w (b ∷ t)) r s')) → RunFits (b ∷ t) room (elim p as (λ p. Ran) [ stops n ↦ halt n s | goes w a s' ↦ more w a (run_for fuel (drop w (b ∷ t)) (room - length a) s') ])
    go (stops n) e h rec = let q = stop_number b t room s n e in record { bytes = omega arith; tape = omega arith; commands = omega arith; stop = inr q; end = λ z. absurd (omega (arith, q.0, z)) }
    go (goes w a s') e h rec =
        let d : length (drop w (b ∷ t)) ≡ suc (length t) - w = length-drop w (b ∷ t) in
        let R = rec w (room - length a) s' (omega (arith, h.read)) in
        record {
          bytes = rw (length-append a (run_for fuel (drop w (b ∷ t)) (room - length a) s').bytes) (omega (arith, R.bytes, h.fits));
          tape = omega (arith, R.tape, h.whole);
          commands = omega (arith, R.commands, h.read);
          stop = R.stop;
          end = λ z. omega (arith, R.end z, h.whole);
        }

pub run_fits : (t : List ℕ) (room : ℕ) (s : Store) → RunFits t room (run t room s)
unfolding run
run_fits t room s = run_fits_for (length t) t room s (omega arith)
