-- The numbers of the papers, by name: the limits, the words that things take, the commands, the refusals. The code has the same names (src/lib.rt,
-- src/commands.rt, src/refusals.rt); a command's byte is `REG_BYTE` here, since `REG` is the command. Assumes nothing.
use Rattle.std.specs.Prelude.{ℕ, ◌+◌, ◌*◌, ◌/◌}

-- ---- limits

-- "N not 1 to 4,096 or K not 1 to 128" is SIZE
abbrev pub MAX_ENTITIES : ℕ
MAX_ENTITIES = 4096

abbrev pub MAX_KINDS : ℕ
MAX_KINDS = 128

-- "A kind is a number 0 to 127."
abbrev pub LAST_KIND : ℕ
LAST_KIND = 127

-- a hand and a bar have "up to 16 distinct kinds"
abbrev pub LIST_CAPACITY : ℕ
LIST_CAPACITY = 16

-- the most kinds of a group; 02, No. 3: "The sixteenth kind". More are WIDE, which "then never occurs"
abbrev pub MAX_GROUP_ARITY : ℕ
MAX_GROUP_ARITY = 16

-- the most groups of a layout; 02, No. 3: "MANY moves to a draft with 64 groups"
abbrev pub MAX_GROUP_COUNT : ℕ
MAX_GROUP_COUNT = 64

-- "a tally of refused commands that stays at 4,294,967,295"; 02, No. 7: "Each caller has a tally of its own"
abbrev pub MAX_REFUSALS : ℕ
MAX_REFUSALS = 4294967295

-- 02, No. 7: "caller 1 byte (0 to 15)"
abbrev pub CALLERS : ℕ
CALLERS = 16

abbrev pub LAST_CALLER : ℕ
LAST_CALLER = 15

-- "A part is a card's value of one kind, eight bytes."; 02, No. 13: "part width 8 or 16"
abbrev pub VALUE_BYTES : ℕ
VALUE_BYTES = 8

abbrev pub LONG_VALUE_BYTES : ℕ
LONG_VALUE_BYTES = 16

-- the words of a value of v bytes, four bytes each: "values (low word, high word)"; 02, No. 13: "value columns (four words)"
abbrev pub stride_of : ℕ → ℕ
stride_of v = v / 4

-- ---- a store "needs 1,024 + 16 × N + K × (8 + 6 × N) words"; 02, No. 13: "1,024 + 16 × N + K × (8 + 8 × N) at width 16"

-- the header, and the words for each entity
abbrev pub HEADER_LEN : ℕ
HEADER_LEN = 1024

abbrev pub ENTITY_LEN : ℕ
ENTITY_LEN = 16

-- a column: its head, and the words for each entity, four and its value's
abbrev pub COLUMN_HEAD : ℕ
COLUMN_HEAD = 8

abbrev pub LINKS_LEN : ℕ
LINKS_LEN = 4

abbrev pub row_len : ℕ → ℕ
row_len v = LINKS_LEN + stride_of v

-- the words of a column in a store of capacity n, its values of v bytes
abbrev pub column_len : ℕ → ℕ → ℕ
column_len n v = COLUMN_HEAD + row_len v * n

-- ---- commands by their byte

abbrev pub REG_BYTE : ℕ
REG_BYTE = 1

abbrev pub HOLD_BYTE : ℕ
HOLD_BYTE = 2

abbrev pub NEW_BYTE : ℕ
NEW_BYTE = 3

abbrev pub PUT_BYTE : ℕ
PUT_BYTE = 4

abbrev pub TAKE_BYTE : ℕ
TAKE_BYTE = 5

abbrev pub DROP_BYTE : ℕ
DROP_BYTE = 6

abbrev pub KILL_BYTE : ℕ
KILL_BYTE = 7

abbrev pub WIPE_BYTE : ℕ
WIPE_BYTE = 8

abbrev pub GROUP_BYTE : ℕ
GROUP_BYTE = 9

abbrev pub APPLY_BYTE : ℕ
APPLY_BYTE = 10

abbrev pub BAR_BYTE : ℕ
BAR_BYTE = 11

abbrev pub RANGE_BYTE : ℕ
RANGE_BYTE = 12

abbrev pub EMPTY_BYTE : ℕ
EMPTY_BYTE = 13

abbrev pub TALLY_BYTE : ℕ
TALLY_BYTE = 14

-- 02, No. 4: "Command 0F"
abbrev pub TRAY_BYTE : ℕ
TRAY_BYTE = 15

-- 02, No. 7: "Command 10"
abbrev pub SETCALLER_BYTE : ℕ
SETCALLER_BYTE = 16

-- "byte not 01 to 0E" is UNKNOWN; 02, No. 7: "4 begins above 10"
abbrev pub LAST_COMMAND : ℕ
LAST_COMMAND = SETCALLER_BYTE

-- ---- "Refusals by place": their numbers

abbrev pub SIZE : ℕ
SIZE = 1

abbrev pub SHORT : ℕ
SHORT = 2

abbrev pub UNSOUND : ℕ
UNSOUND = 3

abbrev pub UNKNOWN : ℕ
UNKNOWN = 4

abbrev pub CUT : ℕ
CUT = 5

abbrev pub NOROOM : ℕ
NOROOM = 6

abbrev pub KIND : ℕ
KIND = 7

abbrev pub KINDS : ℕ
KINDS = 8

abbrev pub AGAIN : ℕ
AGAIN = 9

abbrev pub HANDFUL : ℕ
HANDFUL = 10

abbrev pub DEAD : ℕ
DEAD = 11

abbrev pub FULL : ℕ
FULL = 12

abbrev pub WIDE : ℕ
WIDE = 13

abbrev pub CLASH : ℕ
CLASH = 14

abbrev pub MANY : ℕ
MANY = 15

abbrev pub BEYOND : ℕ
BEYOND = 16

-- 02, No. 7: "19 CALLER"
abbrev pub CALLER : ℕ
CALLER = 19
