-- Where things stand in the lent words (docs/WORDS.md): the header, the entity part, and a column for each slot. Assumes nothing.
use Rattle.std.specs.Prelude.{ℕ, ◌+◌}
use Rattle.model.specs.Numbers.{HEADER_LEN, COLUMN_HEAD}

-- ---- the header, word by word

-- what a start is told
abbrev pub CAPACITY : ℕ
CAPACITY = 0

abbrev pub KIND_CAPACITY : ℕ
KIND_CAPACITY = 1

-- how many kinds are registered, and how long the staged and the excluded list are
abbrev pub REGISTERED : ℕ
REGISTERED = 2

abbrev pub STAGED_LEN : ℕ
STAGED_LEN = 3

abbrev pub EXCLUDED_LEN : ℕ
EXCLUDED_LEN = 4

-- the families and groups of the draft, and of the layout in force
abbrev pub DRAFT_FAMILIES : ℕ
DRAFT_FAMILIES = 5

abbrev pub DRAFT_GROUPS : ℕ
DRAFT_GROUPS = 6

abbrev pub LAYOUT_FAMILIES : ℕ
LAYOUT_FAMILIES = 7

abbrev pub LAYOUT_GROUPS : ℕ
LAYOUT_GROUPS = 8

-- the caller
abbrev pub CALLER : ℕ
CALLER = 9

-- from here to the refusal counts stands what else a start is told: the rule, and the bytes of a value. The other words are kept for more, and nothing
-- reads them yet
abbrev pub MORE_SETTINGS : ℕ
MORE_SETTINGS = 10

abbrev pub RULE : ℕ
RULE = 10

-- the word of the newer rule; that of the older is 0
abbrev pub NEWER : ℕ
NEWER = 1

abbrev pub VALUE_WIDTH : ℕ
VALUE_WIDTH = 11

-- the refusal counts of the sixteen callers
abbrev pub REFUSALS : ℕ
REFUSALS = 16

-- the slot of each kind, and the word of a kind that has none
abbrev pub TABLE : ℕ
TABLE = 32

abbrev pub UNREGISTERED : ℕ
UNREGISTERED = 255

-- the staged kinds, their values at four words each, the excluded kinds
abbrev pub STAGED_KINDS : ℕ
STAGED_KINDS = 160

abbrev pub STAGED_VALUES : ℕ
STAGED_VALUES = 176

abbrev pub STAGED_VALUE_LEN : ℕ
STAGED_VALUE_LEN = 4

abbrev pub EXCLUDED_KINDS : ℕ
EXCLUDED_KINDS = 240

-- two blocks: the draft, and the layout in force
abbrev pub DRAFT : ℕ
DRAFT = 256

abbrev pub LAYOUT : ℕ
LAYOUT = 576

-- a block: kinds in order, then arities, kind ends and group ends, which have places for 64 groups each
abbrev pub ARITIES : ℕ
ARITIES = 128

abbrev pub KIND_ENDS : ℕ
KIND_ENDS = 192

abbrev pub ENDS : ℕ
ENDS = 256

abbrev pub BLOCK_LEN : ℕ
BLOCK_LEN = 320

abbrev pub GROUP_PLACES : ℕ
GROUP_PLACES = 64

-- the same three of the layout in force
abbrev pub LAYOUT_ARITIES : ℕ
LAYOUT_ARITIES = LAYOUT + ARITIES

abbrev pub LAYOUT_KIND_ENDS : ℕ
LAYOUT_KIND_ENDS = LAYOUT + KIND_ENDS

abbrev pub LAYOUT_ENDS : ℕ
LAYOUT_ENDS = LAYOUT + ENDS

-- the family and the count of each group of the layout in force
abbrev pub GROUP_FAMILIES : ℕ
GROUP_FAMILIES = 896

abbrev pub GROUP_COUNTS : ℕ
GROUP_COUNTS = 960

-- the entity part follows the header
abbrev pub ENTITIES : ℕ
ENTITIES = HEADER_LEN

-- ---- the entity part: how many are live, how many numbers are issued, where the queue of recycled numbers begins and how many it has; the live
-- list follows

abbrev pub LIVE_LEN : ℕ
LIVE_LEN = 0

abbrev pub ISSUED : ℕ
ISSUED = 1

abbrev pub QUEUE_HEAD : ℕ
QUEUE_HEAD = 2

abbrev pub RECYCLED_LEN : ℕ
RECYCLED_LEN = 3

abbrev pub LIVE_LIST : ℕ
LIVE_LIST = 8

-- ---- a column's head: how many rows it has, its kind, the kind's own group plus one, the kind's place in its family; the rows follow the head

abbrev pub ROWS_LEN : ℕ
ROWS_LEN = 0

abbrev pub COLUMN_KIND : ℕ
COLUMN_KIND = 1

abbrev pub OWN_GROUP : ℕ
OWN_GROUP = 2

abbrev pub PLACE_IN_FAMILY : ℕ
PLACE_IN_FAMILY = 3

abbrev pub ROWS : ℕ
ROWS = COLUMN_HEAD
