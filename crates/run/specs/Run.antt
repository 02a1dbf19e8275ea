-- A run over the words, command by command. Assumes nothing.
use Rattle.std.specs.Prelude.{◌≡◌, List, [], ◌∷◌, ℕ, zero, suc, ◌-◌, length, drop}
use Rattle.model.specs.Store.{Store}
use Rattle.model.specs.Commands.{Command, command_on}
use Rattle.model.specs.Run.{refuses, does, Step, stops, goes, step}
use Rattle.memory.specs.Meaning.{meaning, with_refusal}
use Rattle.memory.specs.Arranged.{Becomes}

-- "7 to 15 in a run .. add to the tally, change no other word", and so 19: of the words themselves
abbrev pub Refused : List ℕ → List ℕ → Command → Type 0
Refused w w' c = (n : ℕ) → does c (meaning w) ≡ refuses n → w' ≡ with_refusal w

-- the command c leaves words that mean s, and P says what the rest of the run makes of them
pub record Leaves (w : List ℕ) (c : Command) (s : Store) (P : List ℕ → Type 0) : Type 0 where
  pub words : List ℕ
  pub becomes : Becomes w words s
  pub refused : Refused w words c
  pub rest : P words

-- a stop ends the run, and a command goes before the rest of it
abbrev pub GoesOn : Step → List ℕ → List ℕ → Command → (ℕ → List ℕ → List ℕ → Type 0) → Type 0
GoesOn (stops n) w w' c P = w' ≡ w
GoesOn (goes k a s) w w' c P = Leaves w c s (P k a)

-- the words w become w' by the commands of the tape, each with room for its answer, as the model's `run_for` goes through them
unfoldable pub Traced : ℕ → List ℕ → ℕ → List ℕ → List ℕ → Type 0
Traced zero t room w w' = w' ≡ w
Traced (suc fuel) [] room w w' = w' ≡ w
Traced (suc fuel) (b ∷ t) room w w' =
    GoesOn (step b t room (meaning w)) w w' (command_on b t (meaning w)) (λ k a w₁. Traced fuel (drop k (b ∷ t)) (room - length a) w₁ w')
