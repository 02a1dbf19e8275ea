-- A command as it stands on a tape, the tape of a list of commands, and what such a list does to a store. Assumes nothing.
use Rattle.std.specs.Prelude.{List, [], ◌∷◌, ◌++◌, ℕ, ◌+◌, ◌^◌, ◌<◌, length}
use Rattle.model.specs.Numbers.{REG_BYTE, HOLD_BYTE, NEW_BYTE, PUT_BYTE, TAKE_BYTE, DROP_BYTE, KILL_BYTE, WIPE_BYTE, GROUP_BYTE, APPLY_BYTE, BAR_BYTE, RANGE_BYTE, EMPTY_BYTE, TALLY_BYTE, TRAY_BYTE, SETCALLER_BYTE}
use Rattle.model.specs.Model.{Entity}
use Rattle.model.specs.Store.{Store, bytes_of}
use Rattle.model.specs.Commands.{Command, REG, HOLD, NEW, PUT, TAKE, DROP, KILL, WIPE, GROUP, APPLY, BAR, RANGE, EMPTY, TALLY, TRAY, SETCALLER, answer_length}
use Rattle.model.specs.Run.{does, store_after, answer_of, Ran}
use Rattle.model.specs.Sound.{ValueFits}

-- ---- "One command byte, then operands"

abbrev pub byte_of : Command → ℕ
byte_of (REG k) = REG_BYTE
byte_of (HOLD k v) = HOLD_BYTE
byte_of NEW = NEW_BYTE
byte_of (PUT e) = PUT_BYTE
byte_of (TAKE e) = TAKE_BYTE
byte_of (DROP e) = DROP_BYTE
byte_of (KILL e) = KILL_BYTE
byte_of WIPE = WIPE_BYTE
byte_of GROUP = GROUP_BYTE
byte_of APPLY = APPLY_BYTE
byte_of (BAR k) = BAR_BYTE
byte_of RANGE = RANGE_BYTE
byte_of EMPTY = EMPTY_BYTE
byte_of TALLY = TALLY_BYTE
byte_of (TRAY n) = TRAY_BYTE
byte_of (SETCALLER c) = SETCALLER_BYTE

-- "index 4, version 4"
abbrev pub entity_bytes : Entity → List ℕ
entity_bytes e = bytes_of 4 e.index ++ bytes_of 4 e.version

-- a value being of v bytes: "kind 1", "kind 1, value 8"; 02, No. 4: "count 2 bytes"; No. 7: "caller 1 byte"; No. 13: "HOLD, TAKE .. follow it"
abbrev pub operands_of : ℕ → Command → List ℕ
operands_of v (REG k) = k ∷ []
operands_of v (HOLD k x) = k ∷ bytes_of v x
operands_of v NEW = []
operands_of v (PUT e) = entity_bytes e
operands_of v (TAKE e) = entity_bytes e
operands_of v (DROP e) = entity_bytes e
operands_of v (KILL e) = entity_bytes e
operands_of v WIPE = []
operands_of v GROUP = []
operands_of v APPLY = []
operands_of v (BAR k) = k ∷ []
operands_of v RANGE = []
operands_of v EMPTY = []
operands_of v TALLY = []
operands_of v (TRAY n) = bytes_of 2 n
operands_of v (SETCALLER c) = c ∷ []

-- an entity's two numbers are of four bytes
abbrev pub EntityFits : Entity → Type 0
EntityFits e = (e.index < 256 ^ 4) × (e.version < 256 ^ 4)

-- each operand has room in its bytes, so that the command can stand on a tape
abbrev pub Encodable : ℕ → Command → Type 0
Encodable v (REG k) = k < 256
Encodable v (HOLD k x) = (k < 256) × ValueFits v x
Encodable v NEW = Unit {0}
Encodable v (PUT e) = EntityFits e
Encodable v (TAKE e) = EntityFits e
Encodable v (DROP e) = EntityFits e
Encodable v (KILL e) = EntityFits e
Encodable v WIPE = Unit {0}
Encodable v GROUP = Unit {0}
Encodable v APPLY = Unit {0}
Encodable v (BAR k) = k < 256
Encodable v RANGE = Unit {0}
Encodable v EMPTY = Unit {0}
Encodable v TALLY = Unit {0}
Encodable v (TRAY n) = n < 256 ^ 2
Encodable v (SETCALLER c) = c < 256

abbrev pub AllEncodable : ℕ → List Command → Type 0
AllEncodable v [] = Unit {0}
AllEncodable v (c ∷ cs) = Encodable v c × AllEncodable v cs

-- the commands one behind another
abbrev pub tape_of : ℕ → List Command → List ℕ
tape_of v [] = []
tape_of v (c ∷ cs) = byte_of c ∷ (operands_of v c ++ tape_of v cs)

-- ---- the commands done one after another, refused ones too

abbrev pub after_one : Command → Store → Store
after_one c s = store_after s (does c s)

abbrev pub after_all : List Command → Store → Store
after_all [] s = s
after_all (c ∷ cs) s = after_all cs (after_one c s)

abbrev pub answers_to : List Command → Store → List ℕ
answers_to [] s = []
answers_to (c ∷ cs) s = answer_of (does c s) ++ answers_to cs (after_one c s)

-- the room that is enough for all of them: each is judged by "the accepted answer", even where it is refused
abbrev pub room_for : List Command → Store → ℕ
room_for [] s = 0
room_for (c ∷ cs) s = answer_length c s + room_for cs (after_one c s)

-- what their run gives, to the tape's end; their tape is for the store's own bytes of a value
abbrev pub ran_all : List Command → Store → Ran
ran_all cs s = record { store = after_all cs s; stop = 0; commands = length cs; read = length (tape_of s.settings.value_bytes cs); bytes = answers_to cs s }
