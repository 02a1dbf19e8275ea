-- The number of each refusal and the byte of each command, as the code has them by name. Assumes nothing.
use Rattle.std.specs.Prelude.{◌≡◌, false, ℕ, Result, MatchResult}
use Rattle.model.specs.Numbers.{SIZE, SHORT, UNSOUND, UNKNOWN, CUT, NOROOM, KIND, KINDS, AGAIN, HANDFUL, DEAD, FULL, CLASH, MANY, BEYOND, CALLER}
use Rattle.model.specs.Numbers.{REG_BYTE, HOLD_BYTE, NEW_BYTE, PUT_BYTE, TAKE_BYTE, DROP_BYTE, KILL_BYTE, WIPE_BYTE, GROUP_BYTE, APPLY_BYTE, BAR_BYTE, RANGE_BYTE, EMPTY_BYTE, TALLY_BYTE, TRAY_BYTE, SETCALLER_BYTE}
use Rattle.model.specs.Commands.{is_command}
use Rattle.model.specs.declared.refusals.Refusal.{Refusal}
use Rattle.model.specs.declared.refusals.Refusal.TheVariants as refusals
use Rattle.model.specs.declared.commands.Command.{Command}
use Rattle.model.specs.declared.commands.Command.TheVariants as commands

-- the number by which a refusal is answered
abbrev pub refusal_code : Refusal → ℕ
refusal_code refusals.Size = SIZE
refusal_code refusals.Short = SHORT
refusal_code refusals.Unsound = UNSOUND
refusal_code refusals.Unknown = UNKNOWN
refusal_code refusals.Cut = CUT
refusal_code refusals.NoRoom = NOROOM
refusal_code refusals.Kind = KIND
refusal_code refusals.Kinds = KINDS
refusal_code refusals.Again = AGAIN
refusal_code refusals.Handful = HANDFUL
refusal_code refusals.Dead = DEAD
refusal_code refusals.Full = FULL
refusal_code refusals.Clash = CLASH
refusal_code refusals.Many = MANY
refusal_code refusals.Beyond = BEYOND
refusal_code refusals.Caller = CALLER

-- the byte that stands for a command on a tape
abbrev pub command_byte : Command → ℕ
command_byte commands.Register = REG_BYTE
command_byte commands.Hold = HOLD_BYTE
command_byte commands.New = NEW_BYTE
command_byte commands.Put = PUT_BYTE
command_byte commands.Take = TAKE_BYTE
command_byte commands.Drop = DROP_BYTE
command_byte commands.Kill = KILL_BYTE
command_byte commands.Wipe = WIPE_BYTE
command_byte commands.Group = GROUP_BYTE
command_byte commands.Apply = APPLY_BYTE
command_byte commands.Bar = BAR_BYTE
command_byte commands.Range = RANGE_BYTE
command_byte commands.Empty = EMPTY_BYTE
command_byte commands.Tally = TALLY_BYTE
command_byte commands.Tray = TRAY_BYTE
command_byte commands.SetCaller = SETCALLER_BYTE

-- the result is the command of this byte, or the refusal of a byte that is no command
abbrev pub Decodes : ℕ → Result Command Refusal → Type 0
Decodes byte r = MatchResult r (λ command. command_byte command ≡ byte) (λ refusal. (refusal ≡ refusals.Unknown) × (is_command byte ≡ false))
