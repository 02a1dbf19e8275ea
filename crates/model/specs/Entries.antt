-- The other entries: *start*, and told more *start_with*; *column*, *roll*. Each gives its number, and zeros beside it where it is refused. Refusal 3 is of the words and is judged
-- before these (other_lines). Assumes nothing.
use Rattle.std.specs.Prelude.{◌≡◌, Bool, true, false, List, [], ◌∷◌, ◌++◌, map, ℕ, zero, suc, ◌/◌, ◌%◌, length, take, drop}
use Rattle.std.proofs.Math.Option.{Option, some, none}
use Rattle.model.specs.Numbers.{stride_of}
use Rattle.model.specs.Model.{Entity, Row, SparseSet, set_of, keys}
use Rattle.model.specs.Store.{Settings, Store, older, empty_with}
use Rattle.model.specs.Snapshot.{snapshot}
use Rattle.model.specs.Refusals.{Line, first_line, StartTold, start_lines, roll_lines, column_lines}

-- ---- start: "whatever the words held, makes an empty store"

-- what start gives: a refusal's number, or the store made
pub data Started : Type 0 where
  refuses_start : ℕ → Started
  makes : Store → Started

-- by the first line of its table that holds
abbrev pub started_by : Option ℕ → Store → Started
started_by (some n) s = refuses_start n
started_by none s = makes s

-- what the lines look at, of the settings and how many words are lent: no line is of the rule
abbrev pub start_told : Settings → ℕ → StartTold
start_told c words = record { capacity = c.capacity; kind_capacity = c.kind_capacity; value_bytes = c.value_bytes; words = words }

-- 02, No. 8: "A store may be started under the newer rule, told by a bool"; No. 13: "with part width 8 or 16"
unfoldable pub start_with : Settings → ℕ → Started
start_with c words = started_by (first_line start_lines (start_told c words)) (empty_with c)

-- 01's *start*, told N and K: eight bytes, the older rule
abbrev pub start : ℕ → ℕ → ℕ → Started
start n k words = start_with (older n k) words

-- ---- column: "a kind's cards (index word, version word) or values (low word, high word) from start to end"

-- "cards (index word, version word)"
abbrev pub entity_words : List Entity → List ℕ
entity_words [] = []
entity_words (e ∷ es) = e.index ∷ e.version ∷ entity_words es

-- a number in d words, lowest first; the last is what the others leave
abbrev pub in_words : ℕ → ℕ → List ℕ
in_words zero x = []
in_words (suc zero) x = x ∷ []
in_words (suc (suc d)) x = x % 4294967296 ∷ in_words (suc d) (x / 4294967296)

-- "values (low word, high word)"; a value is of d words
abbrev pub value_words : ℕ → List ℕ → List ℕ
value_words d [] = []
value_words d (x ∷ xs) = in_words d x ++ value_words d xs

-- a row's value
abbrev pub row_value : Row → ℕ
row_value r = r.value

-- the items of a list from a to e, which is excluded
abbrev pub part : {A : Type 0} → ℕ → ℕ → List A → List A
part a e l = drop a (take e l)

-- the words that column hands back, of the entities (which = false) or of the values (which = true), which have v bytes
abbrev pub part_words : ℕ → Bool → ℕ → ℕ → SparseSet → List ℕ
part_words v false a e rows = entity_words (part a e (keys rows))
part_words v true a e rows = value_words (stride_of v) (part a e (map row_value rows))

-- how many for each row
abbrev pub item_words : ℕ → Bool → ℕ
item_words v false = 2
item_words v true = stride_of v

-- "a second entry with the same operands gives column's number, 0 if accepted"
unfoldable pub column_refusal : ℕ → ℕ → ℕ → Store → Option ℕ
column_refusal k a e s = first_line column_lines (record { kind = k; start = a; end = e; store = s })

-- the words, or none where column is refused
abbrev pub column_by : Option ℕ → List ℕ → List ℕ
column_by (some n) w = []
column_by none w = w

-- "A refused column is the empty part at the front"
unfoldable pub column : Bool → ℕ → ℕ → ℕ → Store → List ℕ
column which k a e s = column_by (column_refusal k a e s) (part_words s.settings.value_bytes which a e (set_of s.storage.sets k))

-- ---- an entry that writes bytes

-- what it gives: a refusal's number, or the bytes written
pub data Emitted : Type 0 where
  refuses_emit : ℕ → Emitted
  writes : List ℕ → Emitted

-- by the first line of its table that holds
abbrev pub emitted_by : Option ℕ → List ℕ → Emitted
emitted_by (some n) b = refuses_emit n
emitted_by none b = writes b

-- by its lines, what its place is given, and the bytes b that it writes where no line holds
abbrev pub emitted : {A : Type 0} → List (Line A) → A → List ℕ → Emitted
emitted ls a b = emitted_by (first_line ls a) b

-- "An accepted entry gives number 0"
abbrev pub emitted_number : Emitted → ℕ
emitted_number (refuses_emit n) = n
emitted_number (writes b) = 0

-- "every refusal outside a run, change no lent memory, with zeros"
abbrev pub emitted_bytes : Emitted → List ℕ
emitted_bytes (refuses_emit n) = []
emitted_bytes (writes b) = b

-- it gives the number n and the count k of bytes written, from the front of the bytes o, which it leaves as o'
pub record Emits (o o' : List ℕ) (n k : ℕ) (x : Emitted) : Type 0 where
  pub number : n ≡ emitted_number x
  pub written : k ≡ length (emitted_bytes x)
  -- "the bytes past those written .. stay"
  pub bytes : o' ≡ emitted_bytes x ++ drop (length (emitted_bytes x)) o

-- ---- roll: the snapshot, if it has room

-- refused where there are "fewer free bytes than .. the roll, takes"
unfoldable pub roll : ℕ → Store → Emitted
roll room s = emitted roll_lines (record { room = room; store = s }) (snapshot s)
