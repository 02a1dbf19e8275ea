-- What every command's function asks and leaves. Assumes nothing.
use Rattle.std.specs.Prelude.{◌≡◌, List, ℕ, ◌+◌, ◌≤◌, length}
use Rattle.std.proofs.lemmas.List.Edits.{sets}
use Rattle.model.specs.Commands.{Command, answer_length}
use Rattle.model.specs.Run.{Outcome, refuses, store_after, answer_of}
use Rattle.memory.specs.Meaning.{meaning, with_refusal}
use Rattle.memory.specs.Arranged.{Sound, Becomes}

-- the command may be done: the words w are sound, and the bytes o have room at `at` for its accepted answer
pub record Ready (w o : List ℕ) (at : ℕ) (c : Command) : Type 0 where
  pub sound : Sound w
  pub room : at + answer_length c (meaning w) ≤ length o

-- the bytes a were written at `at`, and no other; r is how many
pub record Written (o o' : List ℕ) (at r : ℕ) (a : List ℕ) : Type 0 where
  pub bytes : o' ≡ sets o at a
  pub count : r ≡ length a

-- a command with outcome x, from the words w and bytes o to w' and o', with r bytes written at `at`
pub record Acted (w w' o o' : List ℕ) (at r : ℕ) (x : Outcome) : Type 0 where
  pub becomes : Becomes w w' (store_after (meaning w) x)
  pub written : Written o o' at r (answer_of x)
  -- "add to the tally, change no other word": of the words themselves
  pub refused : (n : ℕ) → x ≡ refuses n → w' ≡ with_refusal w
