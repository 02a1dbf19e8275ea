-- A command's outcome, one step of a run, and a run. Assumes nothing.
use Rattle.std.proofs.Math.Option.{Option, some, none}
use Rattle.std.specs.Prelude.{List, [], ◌∷◌, ◌++◌, ℕ, zero, suc, ◌+◌, ◌-◌, length, drop}
use Rattle.model.specs.Store.{Store, counted, with_control}
use Rattle.model.specs.Commands.{Command, Done, accepted, operands_len}
use Rattle.model.specs.Refusals.{first_line, lines_of, BeforeCommand, command_of, before_lines}

-- what a command does: it is refused by a number, or accepted with the store after it and the answer after the 0 byte
pub data Outcome : Type 0 where
  refuses : ℕ → Outcome
  accepts : Store → List ℕ → Outcome

abbrev pub outcome : Option ℕ → Done → Outcome
outcome (some n) d = refuses n
outcome none d = accepts d.store d.answer

-- the refusal of the first line that holds, else the accepted effect and answer
unfoldable pub does : Command → Store → Outcome
does c s = outcome (first_line (lines_of c) s) (accepted c s)

-- ---- one step

-- a run stops before the command, by its number; or goes on, with the bytes read, the bytes written and the store after
pub data Step : Type 0 where
  stops : ℕ → Step
  goes : ℕ → List ℕ → Store → Step

-- the store after a command: "7 to 15 in a run .. add to the tally, change no other word"; 02, No. 7: 19 is "answered in a run as 7 to 15 are and counted
-- against the caller then set"
abbrev pub store_after : Store → Outcome → Store
store_after s (refuses n) = with_control s (counted s.control)
store_after s (accepts s' a) = s'

-- its answer: "7 to 15 in a run write their number as one byte", and so 19; an accepted one "after a 0 byte"
abbrev pub answer_of : Outcome → List ℕ
answer_of (refuses n) = n ∷ []
answer_of (accepts s a) = 0 ∷ a

-- "and the run goes on": refused or accepted, with the w bytes of the command read
abbrev pub step_of : ℕ → Store → Outcome → Step
step_of w s x = goes w (answer_of x) (store_after s x)

-- "4 to 6 stop a run before the command and aren't tallied."
abbrev pub step_if : Option ℕ → Step → Step
step_if (some n) p = stops n
step_if none p = p

-- the command of byte b, with the tape t after it
unfoldable pub step : ℕ → List ℕ → ℕ → Store → Step
step b t room s =
    let r : BeforeCommand = record { byte = b; rest = t; room = room; store = s } in
    step_if (first_line before_lines r) (step_of (suc (operands_len b s)) s (does (command_of r) s))

-- ---- a run

-- "stop number (0 at the tape's end), commands done (refused ones counted), tape bytes read, answer bytes written"
pub record Ran : Type 0 where
  pub store : Store
  pub stop : ℕ
  pub commands : ℕ
  pub read : ℕ
  pub bytes : List ℕ

abbrev pub halt : ℕ → Store → Ran
halt n s = record { store = s; stop = n; commands = 0; read = 0; bytes = [] }

-- one command done: n bytes read, the answer before what the rest of the run gives
abbrev pub more : ℕ → List ℕ → Ran → Ran
more n a r = record { store = r.store; stop = r.stop; commands = suc r.commands; read = n + r.read; bytes = a ++ r.bytes }

-- the first commands of a run, at most as many as fuel says, with room for the answers
unfoldable pub run_for : ℕ → List ℕ → ℕ → Store → Ran
run_for zero t room s = halt 0 s
run_for (suc fuel) [] room s = halt 0 s
run_for (suc fuel) (b ∷ t) room s =
    elim (step b t room s) as (λ p. Ran) [
      | stops n ↦ halt n s
      | goes w a s' ↦ more w a (run_for fuel (drop w (b ∷ t)) (room - length a) s')
    ]

-- the whole run: each command reads a byte or more, so that there are no more commands than bytes
unfoldable pub run : List ℕ → ℕ → Store → Ran
run t room s = run_for (length t) t room s
