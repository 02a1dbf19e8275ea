-- A command on the tape, and what its function asks. Assumes nothing.
use Rattle.std.specs.Prelude.{◌≡◌, ◌⊎◌, List, ℕ, ◌+◌, ◌≤◌, length, drop}
use Rattle.model.specs.Numbers.{REG_BYTE, WIPE_BYTE, LAST_COMMAND}
use Rattle.model.specs.Store.{Store}
use Rattle.model.specs.Commands.{Command, operands_len, command_on}
use Rattle.memory.specs.Meaning.{meaning}
use Rattle.command.specs.Acted.{Ready}

-- the command of byte b in the store s whose operands stand at `at` of the tape
abbrev pub command_in : ℕ → List ℕ → ℕ → Store → Command
command_in b t at s = command_on b (drop at t) s

-- the bytes of REG, and of WIPE and what follows it
abbrev pub Rare : ℕ → Type 0
Rare b = (b ≡ REG_BYTE) ⊎ ((WIPE_BYTE ≤ b) × (b ≤ LAST_COMMAND))

-- it may be done: its operands are there, the words w are sound, and the bytes o have room at p for its accepted answer
pub record Given (w : List ℕ) (b : ℕ) (t : List ℕ) (at : ℕ) (o : List ℕ) (p : ℕ) : Type 0 where
  pub whole : at + operands_len b (meaning w) ≤ length t
  pub ready : Ready w o p (command_in b t at (meaning w))
