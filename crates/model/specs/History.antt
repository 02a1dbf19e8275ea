-- What a run passes through: the store after each command, the numbers it retires, and whose commands it refuses. Said beside the run, for the theorems
-- on runs; no store holds it. Assumes nothing.
use Rattle.std.specs.Prelude.{Bool, true, false, ◌&&◌, List, [], ◌∷◌, ℕ, zero, suc, ◌+◌, ◌-◌, eqb, leb, length, drop}
use Rattle.std.proofs.Math.Option.{Option, some, none}
use Rattle.model.specs.Model.{is_live, last_version}
use Rattle.model.specs.Lists.{one}
use Rattle.model.specs.Store.{Store, one_more}
use Rattle.model.specs.Commands.{Command, REG, HOLD, NEW, PUT, TAKE, DROP, KILL, WIPE, GROUP, APPLY, BAR, RANGE, EMPTY, TALLY, TRAY, SETCALLER, command_on}
use Rattle.model.specs.Run.{Outcome, refuses, accepts, does, stops, goes, step}

-- the store after each command of a run, in order
unfoldable pub trail_for : ℕ → List ℕ → ℕ → Store → List Store
trail_for zero t room s = []
trail_for (suc fuel) [] room s = []
trail_for (suc fuel) (b ∷ t) room s =
    elim (step b t room s) as (λ p. List Store) [
      | stops n ↦ []
      | goes w a s' ↦ s' ∷ trail_for fuel (drop w (b ∷ t)) (room - length a) s'
    ]

unfoldable pub trail : List ℕ → ℕ → Store → List Store
trail t room s = trail_for (length t) t room s

-- "retired counts past destructions at the last version": of one command
abbrev pub retires : Command → Store → ℕ
retires (REG k) s = 0
retires (HOLD k v) s = 0
retires NEW s = 0
retires (PUT e) s = 0
retires (TAKE e) s = 0
retires (DROP e) s = 0
retires (KILL e) s = one (is_live e s.entities && leb last_version e.version)
retires WIPE s = 0
retires GROUP s = 0
retires APPLY s = 0
retires (BAR k) s = 0
retires RANGE s = 0
retires EMPTY s = 0
retires TALLY s = 0
retires (TRAY n) s = 0
retires (SETCALLER c) s = 0

-- and of a run
unfoldable pub retired_for : ℕ → List ℕ → ℕ → Store → ℕ
retired_for zero t room s = 0
retired_for (suc fuel) [] room s = 0
retired_for (suc fuel) (b ∷ t) room s =
    elim (step b t room s) as (λ p. ℕ) [
      | stops n ↦ 0
      | goes w a s' ↦ retires (command_on b t s) s + retired_for fuel (drop w (b ∷ t)) (room - length a) s'
    ]

unfoldable pub retired : List ℕ → ℕ → Store → ℕ
retired t room s = retired_for (length t) t room s

-- ---- 02, No. 7: refusals by their caller

abbrev pub is_refusal : Outcome → Bool
is_refusal (refuses n) = true
is_refusal (accepts s a) = false

-- 1 where the command is refused in a store of which p holds
abbrev pub refused_one : (Store → Bool) → Command → Store → ℕ
refused_one p k s = one (p s && is_refusal (does k s))

-- how many commands of a run are refused in a store of which p holds
unfoldable pub refused_for : (Store → Bool) → ℕ → List ℕ → ℕ → Store → ℕ
refused_for p zero t room s = 0
refused_for p (suc fuel) [] room s = 0
refused_for p (suc fuel) (b ∷ t) room s =
    elim (step b t room s) as (λ q. ℕ) [
      | stops n ↦ 0
      | goes w a s' ↦ refused_one p (command_on b t s) s + refused_for p fuel (drop w (b ∷ t)) (room - length a) s'
    ]

-- c is the caller
abbrev pub caller_is : ℕ → Store → Bool
caller_is c s = eqb c s.control.counts.caller

-- in any store
abbrev pub any_store : Store → Bool
any_store s = true

-- those that are refused while c is the caller, and all of them
unfoldable pub refused_by : ℕ → List ℕ → ℕ → Store → ℕ
refused_by c t room s = refused_for (caller_is c) (length t) t room s

unfoldable pub refused_all : List ℕ → ℕ → Store → ℕ
refused_all t room s = refused_for any_store (length t) t room s

-- a count and n more: "stays at 4,294,967,295"
abbrev pub more_by : ℕ → ℕ → ℕ
more_by zero m = m
more_by (suc n) m = more_by n (one_more m)

-- the caller that a command sets
abbrev pub calls_to : Command → Option ℕ
calls_to (REG k) = none
calls_to (HOLD k v) = none
calls_to NEW = none
calls_to (PUT e) = none
calls_to (TAKE e) = none
calls_to (DROP e) = none
calls_to (KILL e) = none
calls_to WIPE = none
calls_to GROUP = none
calls_to APPLY = none
calls_to (BAR k) = none
calls_to RANGE = none
calls_to EMPTY = none
calls_to TALLY = none
calls_to (TRAY n) = none
calls_to (SETCALLER c) = some c

-- 1 where it is command 10
abbrev pub call_one : Option ℕ → ℕ
call_one none = 0
call_one (some c) = 1

-- how many commands of a run are command 10, accepted or refused: none where it "never meets command 10". One before which the run stops changes
-- nothing, and is not counted
unfoldable pub calls_for : ℕ → List ℕ → ℕ → Store → ℕ
calls_for zero t room s = 0
calls_for (suc fuel) [] room s = 0
calls_for (suc fuel) (b ∷ t) room s =
    elim (step b t room s) as (λ p. ℕ) [
      | stops n ↦ 0
      | goes w a s' ↦ call_one (calls_to (command_on b t s)) + calls_for fuel (drop w (b ∷ t)) (room - length a) s'
    ]

unfoldable pub calls : List ℕ → ℕ → Store → ℕ
calls t room s = calls_for (length t) t room s

-- of each store of a list, as of a trail
abbrev pub EachStore : (Store → Type 0) → List Store → Type 0
EachStore P [] = Unit {0}
EachStore P (s ∷ ss) = P s × EachStore P ss
