-- What the functions of a run ask and promise. Working vocabulary. Assumes nothing.
use Rattle.std.specs.Prelude.{◌≡◌, List, [], ◌∷◌, ◌++◌, ℕ, ◌+◌, ◌≤◌, ◌<◌, length, get_or, drop, Result, Ok, IsErrAnd}
use Rattle.std.proofs.lemmas.List.Edits.{sets}
use Rattle.model.specs.Codes.{refusal_code}
use Rattle.model.specs.Store.{Store}
use Rattle.model.specs.Commands.{Command}
use Rattle.model.specs.Run.{Step, stops, goes, step}
use Rattle.model.specs.Run as model
use Rattle.memory.specs.Meaning.{meaning}
use Rattle.memory.specs.Arranged.{Sound, Becomes}
use Rattle.run_command.specs.Given.{command_in}
use Rattle.model.specs.declared.refusals.Refusal.{Refusal}
use Rattle.run.specs.declared.Progress.{Progress}
use Rattle.run.specs.declared.Ran.{Ran}
use Rattle.run.specs.Run.{Refused, Traced}

-- bytes of the accepted answer by command byte; TAKE's is for no staged component
abbrev pub answers : List ℕ
answers = 5 ∷ 2 ∷ 1 ∷ 9 ∷ 1 ∷ 1 ∷ 1 ∷ 1 ∷ 1 ∷ 2 ∷ 1 ∷ 1 ∷ 10 ∷ 1 ∷ 5 ∷ 3 ∷ 1 ∷ []

-- a step may be made at `at` of the tape, with answers up to p
pub record StepReady (w t : List ℕ) (at : ℕ) (o : List ℕ) (p : ℕ) : Type 0 where
  pub sound : Sound w
  pub more : at < length t
  pub within : p ≤ length o

-- the model's step at `at` of the tape, with so many free bytes
abbrev pub step_at : Store → List ℕ → ℕ → ℕ → Step
step_at s t at room = step (get_or t at 0) (drop (at + 1) t) room s

-- the store after a step, and the bytes that it wrote: "4 to 6 stop a run before the command"
abbrev pub store_of : Store → Step → Store
store_of s (stops n) = s
store_of s (goes k a s') = s'

abbrev pub step_bytes : Step → List ℕ
step_bytes (stops n) = []
step_bytes (goes k a s) = a

-- its answer: how far the run is, or the refusal by whose number it stops
abbrev pub ResultOf : ℕ → ℕ → Step → Result Progress Refusal → Type 0
ResultOf at p (stops n) r = IsErrAnd r (λ refusal. refusal_code refusal ≡ n)
ResultOf at p (goes k a s) r = r ≡ Ok (record { read = at + k; written = p + length a })

-- a stop before the command c changes no word, and its refusal only the one
abbrev pub KeptBy : List ℕ → List ℕ → Command → Step → Type 0
KeptBy w w' c (stops n) = w' ≡ w
KeptBy w w' c (goes k a s) = Refused w w' c

pub record Stepped (w w' t o o' : List ℕ) (at p : ℕ) (r : Result Progress Refusal) (x : Step) : Type 0 where
  pub sound : Sound w'
  pub becomes : Becomes w w' (store_of (meaning w) x)
  pub kept : KeptBy w w' (command_in (get_or t at 0) t (at + 1) (meaning w)) x
  pub bytes : o' ≡ sets o p (step_bytes x)
  pub within : p + length (step_bytes x) ≤ length o
  pub result : ResultOf at p x r

-- "stop number (0 at the tape's end), commands done (refused ones counted), tape bytes read, answer bytes written"; "the bytes past those written,
-- in a run too, stay"
pub record Completed (w w' t o o' : List ℕ) (r : Ran) (x : model.Ran) : Type 0 where
  pub sound : Sound w'
  pub becomes : Becomes w w' x.store
  pub each : Traced (length t) t (length o) w w'
  pub bytes : o' ≡ x.bytes ++ drop (length x.bytes) o
  pub stop : r.stop ≡ x.stop
  pub commands : r.commands ≡ x.commands
  pub read : r.read ≡ x.read
  pub written : r.written ≡ length x.bytes
