-- The numbers of refusals, and the bytes of commands. Assumes nothing.
use mathlib.Core.Path.{◌≡◌, refl, sym, ap, ◌∙◌}
use mathlib.Core.Bool.{cond}
use Prim.Native.Nat.{ℕ, ◌≤◌}
use native.Mathlib.Omega.{arith}
use lib.Dec.{eqb}
use Rattle.model.specs.Numbers.{LAST_COMMAND, SIZE, SHORT, UNSOUND, UNKNOWN, CUT, NOROOM, KIND, KINDS, AGAIN, HANDFUL, DEAD, FULL, CLASH, MANY, BEYOND}
use Rattle.model.specs.Codes.{refusal_code, command_byte}
use Rattle.model.specs.declared.refusals.Refusal.{Refusal}
use Rattle.model.specs.declared.refusals.Refusal.TheVariants as refusals
use Rattle.model.specs.declared.commands.Command.{Command}
use Rattle.model.specs.declared.commands.Command.TheVariants as commands

-- a command's byte is from 1 to the last
pub byte_bounds : (c : Command) → (1 ≤ command_byte c) × (command_byte c ≤ LAST_COMMAND)
byte_bounds commands.Register = (omega arith, omega arith)
byte_bounds commands.Hold = (omega arith, omega arith)
byte_bounds commands.New = (omega arith, omega arith)
byte_bounds commands.Put = (omega arith, omega arith)
byte_bounds commands.Take = (omega arith, omega arith)
byte_bounds commands.Drop = (omega arith, omega arith)
byte_bounds commands.Kill = (omega arith, omega arith)
byte_bounds commands.Wipe = (omega arith, omega arith)
byte_bounds commands.Group = (omega arith, omega arith)
byte_bounds commands.Apply = (omega arith, omega arith)
byte_bounds commands.Bar = (omega arith, omega arith)
byte_bounds commands.Range = (omega arith, omega arith)
byte_bounds commands.Empty = (omega arith, omega arith)
byte_bounds commands.Tally = (omega arith, omega arith)
byte_bounds commands.Tray = (omega arith, omega arith)
byte_bounds commands.SetCaller = (omega arith, omega arith)

-- the refusal of a number
abbrev named : ℕ → Refusal
named n =
    cond (eqb n SIZE) refusals.Size
    (cond (eqb n SHORT) refusals.Short
    (cond (eqb n UNSOUND) refusals.Unsound
    (cond (eqb n UNKNOWN) refusals.Unknown
    (cond (eqb n CUT) refusals.Cut
    (cond (eqb n NOROOM) refusals.NoRoom
    (cond (eqb n KIND) refusals.Kind
    (cond (eqb n KINDS) refusals.Kinds
    (cond (eqb n AGAIN) refusals.Again
    (cond (eqb n HANDFUL) refusals.Handful
    (cond (eqb n DEAD) refusals.Dead
    (cond (eqb n FULL) refusals.Full
    (cond (eqb n CLASH) refusals.Clash
    (cond (eqb n MANY) refusals.Many
    (cond (eqb n BEYOND) refusals.Beyond refusals.Caller))))))))))))))

named_back : (r : Refusal) → named (refusal_code r) ≡ r
named_back refusals.Size = refl
named_back refusals.Short = refl
named_back refusals.Unsound = refl
named_back refusals.Unknown = refl
named_back refusals.Cut = refl
named_back refusals.NoRoom = refl
named_back refusals.Kind = refl
named_back refusals.Kinds = refl
named_back refusals.Again = refl
named_back refusals.Handful = refl
named_back refusals.Dead = refl
named_back refusals.Full = refl
named_back refusals.Clash = refl
named_back refusals.Many = refl
named_back refusals.Beyond = refl
named_back refusals.Caller = refl

-- no two refusals have the same number
pub code_injective : (r q : Refusal) → refusal_code r ≡ refusal_code q → r ≡ q
code_injective r q e = sym (named_back r) ∙ ap named e ∙ named_back q
