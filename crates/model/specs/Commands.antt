-- The sixteen commands, 01's fourteen, TRAY of 02's No. 4 and SETCALLER of its No. 7: how they are read, what an accepted one does and answers, and how
-- long its answer is. Assumes nothing.
use Rattle.std.specs.Prelude.{Bool, cond, ◌&&◌, List, [], ◌∷◌, ◌++◌, ℕ, ◌+◌, ◌*◌, leb, length, take, drop, get_or}
use Rattle.model.specs.Numbers.{LAST_COMMAND}
use Rattle.model.specs.Model.{Entity, SparseSet, Storage, Range, none, found, no_row, set_of, at, held, insert_components, remove, clear_all, set_layout, range_under, adds_nothing, with_group, create, extend, destroy}
use Rattle.model.specs.Store.{Store, bytes_of, number, staged_kinds, is_kind, with_control, with_storage, with_all, with_kinds, empty_staged, empty_both, with_staged, with_excluded, with_draft, with_caller, own_refusals}

-- a command with its operands
pub data Command : Type 0 where
  REG : ℕ → Command
  HOLD : ℕ → ℕ → Command
  NEW : Command
  PUT TAKE DROP KILL : Entity → Command
  WIPE GROUP APPLY : Command
  BAR : ℕ → Command
  RANGE EMPTY TALLY : Command
  TRAY : ℕ → Command
  SETCALLER : ℕ → Command

-- ---- reading a command off the tape: "One command byte, then operands"

-- "Operand widths: a constant table by command byte", from byte 0, which is no command; of TRAY "count 2 bytes", of SETCALLER "caller 1 byte". Here and
-- below v is the number of bytes of a value: HOLD's operands are "kind 1, value 8"; 02, No. 13: "HOLD, TAKE .. follow it".
abbrev pub widths : ℕ → List ℕ
widths v = 0 ∷ 1 ∷ (1 + v) ∷ 0 ∷ 8 ∷ 8 ∷ 8 ∷ 8 ∷ 0 ∷ 0 ∷ 0 ∷ 1 ∷ 0 ∷ 0 ∷ 0 ∷ 2 ∷ 1 ∷ []

abbrev pub width : ℕ → ℕ → ℕ
width v b = get_or (widths v) b 0

-- "byte not 01 to 0E" is UNKNOWN; 02, No. 7: "4 begins above 10"
abbrev pub is_command : ℕ → Bool
is_command b = leb 1 b && leb b LAST_COMMAND

-- "index 4, version 4"
abbrev pub entity_of_bytes : List ℕ → Entity
entity_of_bytes bs = record { index = number (take 4 bs); version = number (drop 4 bs) }

-- the commands by byte, in the order of 01's table, then TRAY and SETCALLER, with their operand bytes; from byte 0
abbrev pub commands : List ℕ → List Command
commands ops =
    TALLY
    ∷ REG (get_or ops 0 0)
    ∷ HOLD (get_or ops 0 0) (number (drop 1 ops))
    ∷ NEW
    ∷ PUT (entity_of_bytes ops)
    ∷ TAKE (entity_of_bytes ops)
    ∷ DROP (entity_of_bytes ops)
    ∷ KILL (entity_of_bytes ops)
    ∷ WIPE
    ∷ GROUP
    ∷ APPLY
    ∷ BAR (get_or ops 0 0)
    ∷ RANGE
    ∷ EMPTY
    ∷ TALLY
    ∷ TRAY (number ops)
    ∷ SETCALLER (get_or ops 0 0)
    ∷ []

-- the command of a byte from 1 to LAST_COMMAND
abbrev pub command_at : ℕ → List ℕ → Command
command_at b ops = get_or (commands ops) b TALLY

-- how many operand bytes it has in the store s, by the bytes of a value there
abbrev pub operands_len : ℕ → Store → ℕ
operands_len b s = width s.settings.value_bytes b

-- and the command, with the tape t after its byte
abbrev pub command_on : ℕ → List ℕ → Store → Command
command_on b t s = command_at b (take (operands_len b s) t)

-- ---- answers

-- TAKE: "for each in hand order 1 byte held, value 8 (zeros if not held)"
abbrev pub taken_bytes : ℕ → Entity → SparseSet → List ℕ
taken_bytes v e rows =
    let yes' : List ℕ = 1 ∷ bytes_of v (get_or rows (at e rows) no_row).value in
    let no'' : List ℕ = 0 ∷ bytes_of v 0 in
    cond (held e rows) yes' no''

abbrev pub held_bytes : ℕ → Entity → List ℕ → Storage → List ℕ
held_bytes v e [] p = []
held_bytes v e (k ∷ ks) p = taken_bytes v e (set_of p.sets k) ++ held_bytes v e ks p

-- RANGE: "1 byte found, start 4, end 4 (zeros if none)"
abbrev pub range_bytes : Range → List ℕ
range_bytes none = 0 ∷ bytes_of 4 0 ++ bytes_of 4 0
range_bytes (found a b) = 1 ∷ bytes_of 4 a ++ bytes_of 4 b

-- how many bytes "the accepted answer .. takes", its 0 byte with them
abbrev pub answer_length : Command → Store → ℕ
answer_length (REG k) s = 2
answer_length (HOLD k x) s = 1
answer_length NEW s = 9
answer_length (PUT e) s = 1
answer_length (TAKE e) s = 1 + (1 + s.settings.value_bytes) * length s.control.staged
answer_length (DROP e) s = 1
answer_length (KILL e) s = 1
answer_length WIPE s = 1
answer_length GROUP s = 2
answer_length APPLY s = 1
answer_length (BAR k) s = 1
answer_length RANGE s = 10
answer_length EMPTY s = 1
answer_length TALLY s = 5
answer_length (TRAY n) s = 3
answer_length (SETCALLER c) s = 1

-- ---- accepted commands

-- the store after the command, and the answer after the 0 byte
pub record Done : Type 0 where
  pub store : Store
  pub answer : List ℕ

abbrev pub done : Store → List ℕ → Done
done s a = record { store = s; answer = a }

-- "effect; answer after a 0 byte", row by row. "03 to 06, 09 and 0C, when accepted, empty the hand; 0C also the bar."
unfoldable pub accepted : Command → Store → Done
-- "register; 1 byte, 1 new or 0 known"
accepted (REG k) s =
    let known = done s (0 ∷ []) in
    let new = done (with_kinds s (s.kinds ++ (k ∷ []))) (1 ∷ []) in
    cond (is_kind k s) known new
-- "into the hand"
accepted (HOLD k v) s = done (with_control s (with_staged s.control (s.control.staged ++ (record { kind = k; value = v } ∷ [])))) []
-- "create with the hand; index 4, version 4"
accepted NEW s =
    let c = create s.entities in
    done (with_all s c.entities (insert_components c.entity s.control.staged s.storage) (empty_staged s.control)) (bytes_of 4 c.entity.index ++ bytes_of 4 c.entity.version)
-- "insert the hand"
accepted (PUT e) s = done (with_control (with_storage s (insert_components e s.control.staged s.storage)) (empty_staged s.control)) []
-- "remove the hand's kinds; for each in hand order 1 byte held, value 8 (zeros if not held)"
accepted (TAKE e) s = done (with_control (with_storage s (remove e (staged_kinds s) s.storage)) (empty_staged s.control)) (held_bytes s.settings.value_bytes e (staged_kinds s) s.storage)
-- "remove, no values"
accepted (DROP e) s = done (with_control (with_storage s (remove e (staged_kinds s) s.storage)) (empty_staged s.control)) []
-- "destroy"; "A destroyed card leaves all groups this way, highest first." Here the families come first to last, and in each its largest group first:
-- families have no kind in common, so that their order changes nothing.
accepted (KILL e) s = done (with_all s (destroy e s.entities) (remove e s.kinds s.storage) s.control) []
-- "all parts go, cards live on"
accepted WIPE s = done (with_storage s (clear_all s.storage)) []
-- "the hand's kinds into the draft; 1 added or 0 nothing added"
accepted GROUP s =
    let nothing_added = done (with_control s (empty_staged s.control)) (0 ∷ []) in
    let group_added = done (with_control s (with_draft (empty_staged s.control) (with_group (staged_kinds s) s.control.draft))) (1 ∷ []) in
    cond (adds_nothing (staged_kinds s) s.control.draft) nothing_added group_added
-- "draft becomes layout, draft emptied"
accepted APPLY s = done (with_control (with_storage s (set_layout s.entities.live s.control.draft s.storage)) (with_draft s.control [])) []
-- "into the bar"
accepted (BAR k) s = done (with_control s (with_excluded s.control (s.control.excluded ++ (k ∷ [])))) []
-- "1 byte found, start 4, end 4 (zeros if none)", by the store's rule
accepted RANGE s = done (with_control s (empty_both s.control)) (range_bytes (range_under s.settings.newer (staged_kinds s) s.control.excluded s.storage))
-- "empties hand and bar"
accepted EMPTY s = done (with_control s (empty_both s.control)) []
-- "4 bytes"; 02, No. 7: "TALLY answers the current one"
accepted TALLY s = done s (bytes_of 4 (own_refusals s.control))
-- 02, No. 4: "creates that many cards with the hand's parts, as `extend` does"; "Answer: 0 and the count, 2 bytes." "Count 0 empties the hand and does
-- nothing else."
accepted (TRAY n) s =
    let x = extend n s.control.staged s.entities s.storage in
    done (with_all s x.entities x.storage (empty_staged s.control)) (bytes_of 2 n)
-- 02, No. 7: "Command 10, caller 1 byte (0 to 15), sets the caller for what follows"
accepted (SETCALLER c) s = done (with_control s (with_caller s.control c)) []
