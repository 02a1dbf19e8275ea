-- What the program `tape` writes. Assumes nothing.
use Rattle.std.specs.Prelude.{◌≡◌, List, ◌∷◌, ◌++◌, ℕ, length, drop}
use Rattle.model.specs.Store.{bytes_of, empty}
use Rattle.model.specs.Run.{Ran, run}
use Rattle.model.specs.Examples.{written}

-- "then stop 1, commands 4, read 4, written 4"
abbrev pub numbers : ℕ → ℕ → ℕ → ℕ → List ℕ
numbers stop commands read bytes = stop ∷ bytes_of 4 commands ++ bytes_of 4 read ++ bytes_of 4 bytes

-- "The program tape (N 64, K 8) .. with 16,384 answer bytes"
abbrev pub ran_on : List ℕ → Ran
ran_on t = run t 16384 (empty 64 8)

-- "writes the answers, then .."
unfoldable pub output : List ℕ → List ℕ
output t = written (ran_on t)

-- of the tape t: its output stands at the front of the bytes o', r is its length, and the bytes past it are those of o
pub record Served (t o o' : List ℕ) (r : ℕ) : Type 0 where
  pub bytes : o' ≡ output t ++ drop (length (output t)) o
  pub count : r ≡ length (output t)
