-- "Marked examples of the definitions": 01's fourteen, as a list under one theorem, each by what commands answer in a store that commands have built; its
-- byte-exact tape; and in that store a tray, callers and the newer rule of 02. All computed. Assumes nothing.
use Rattle.std.specs.Prelude.{◌≡◌, refl, true, List, [], ◌∷◌, ◌++◌, map, ℕ, length}
use Rattle.model.specs.Numbers.{REG_BYTE, HOLD_BYTE, NEW_BYTE, KILL_BYTE, GROUP_BYTE, APPLY_BYTE, BAR_BYTE, RANGE_BYTE, TALLY_BYTE, TRAY_BYTE, SETCALLER_BYTE}
use Rattle.model.specs.Model.{Entity, Storage, Group, Family, group_all, group_components, ungroup_components, group_family, ungroup_family, group_touched, ungroup, insert_components, remove, range_for, set_layout, regroup, create, create_each, group_each, extend, destroy, entity, keys, set_of}
use Rattle.model.specs.Store.{Store, told, empty_with, empty, bytes_of}
use Rattle.model.specs.Commands.{NEW, KILL, GROUP, RANGE, accepted}
use Rattle.model.specs.Refusals.{lines_of}
use Rattle.model.specs.Run.{Ran, run, run_for, step, does, store_after, answer_of}

-- ---- tapes: "One command byte, then operands"

abbrev pub reg : ℕ → List ℕ
reg k = REG_BYTE ∷ k ∷ []

abbrev pub hold : ℕ → ℕ → List ℕ
hold k v = HOLD_BYTE ∷ k ∷ bytes_of 8 v

-- HOLD of each kind, value 0
abbrev pub hold_all : List ℕ → List ℕ
hold_all [] = []
hold_all (k ∷ ks) = hold k 0 ++ hold_all ks

-- BAR of each kind
abbrev pub bar_all : List ℕ → List ℕ
bar_all [] = []
bar_all (k ∷ ks) = BAR_BYTE ∷ k ∷ bar_all ks

-- HOLD of each kind, then the command of byte b, which has no operands
abbrev pub holding : List ℕ → ℕ → List ℕ
holding ks b = hold_all ks ++ (b ∷ [])

-- "with 16,384 answer bytes"
abbrev pub ANSWER_ROOM : ℕ
ANSWER_ROOM = 16384

-- the store after the commands of a tape
abbrev pub after_tape : List ℕ → Store → Store
after_tape t s = (run t ANSWER_ROOM s).store

-- "writes the answers, then stop 1, commands 4, read 4, written 4"
abbrev pub written : Ran → List ℕ
written r = r.bytes ++ (r.stop ∷ bytes_of 4 r.commands ++ bytes_of 4 r.read ++ bytes_of 4 (length r.bytes))

-- ---- the store of the examples, by commands alone from an empty one of "N 64, K 8"

-- "Layout {1,2}, then {1,2,3,4}."
abbrev pub groups_tape : List ℕ
groups_tape = holding (1 ∷ 2 ∷ []) GROUP_BYTE ++ holding (1 ∷ 2 ∷ 3 ∷ 4 ∷ []) GROUP_BYTE

-- "Cards 0 {1,2,3}, 1 {1,2,3,4}, 2 {1,2}, 3 {1}."
abbrev pub entities_tape : List ℕ
entities_tape = holding (1 ∷ 2 ∷ 3 ∷ []) NEW_BYTE ++ holding (1 ∷ 2 ∷ 3 ∷ 4 ∷ []) NEW_BYTE ++ holding (1 ∷ 2 ∷ []) NEW_BYTE ++ holding (1 ∷ []) NEW_BYTE

unfoldable pub example_tape : List ℕ
example_tape = reg 1 ++ reg 2 ++ reg 3 ++ reg 4 ++ reg 5 ++ reg 6 ++ groups_tape ++ (APPLY_BYTE ∷ []) ++ entities_tape

unfoldable pub example_store : Store
unfolding example_tape run run_for step does accepted lines_of empty_with insert_components group_touched group_family group_components set_layout regroup group_all create
example_store = after_tape example_tape (empty 64 8)

-- its answers, each command accepted; then stop 0, commands 29, read 179, written 69
pub example_answer : List ℕ
example_answer =
    -- REG of 1 to 6: "1 new"
    (0 ∷ 1 ∷ 0 ∷ 1 ∷ 0 ∷ 1 ∷ 0 ∷ 1 ∷ 0 ∷ 1 ∷ 0 ∷ 1 ∷ [])
    -- HOLD, .. GROUP: "1 added"
    ++ (0 ∷ 0 ∷ 0 ∷ 1 ∷ [])
    ++ (0 ∷ 0 ∷ 0 ∷ 0 ∷ 0 ∷ 1 ∷ [])
    -- APPLY
    ++ (0 ∷ [])
    -- HOLD, .. NEW: "index 4, version 4"
    ++ (0 ∷ 0 ∷ 0 ∷ 0 ∷ 0 ∷ 0 ∷ 0 ∷ 0 ∷ 1 ∷ 0 ∷ 0 ∷ 0 ∷ [])
    ++ (0 ∷ 0 ∷ 0 ∷ 0 ∷ 0 ∷ 1 ∷ 0 ∷ 0 ∷ 0 ∷ 1 ∷ 0 ∷ 0 ∷ 0 ∷ [])
    ++ (0 ∷ 0 ∷ 0 ∷ 2 ∷ 0 ∷ 0 ∷ 0 ∷ 1 ∷ 0 ∷ 0 ∷ 0 ∷ [])
    ++ (0 ∷ 0 ∷ 3 ∷ 0 ∷ 0 ∷ 0 ∷ 1 ∷ 0 ∷ 0 ∷ 0 ∷ [])
    ++ (0 ∷ 29 ∷ 0 ∷ 0 ∷ 0 ∷ 179 ∷ 0 ∷ 0 ∷ 0 ∷ 69 ∷ 0 ∷ 0 ∷ 0 ∷ [])

pub store_example : written (run example_tape ANSWER_ROOM (empty 64 8)) ≡ example_answer
unfolding example_answer example_store
store_example = refl

-- "In a draft with these groups": made anew, since APPLY has emptied the draft
example_draft : Store
unfolding example_store
example_draft = after_tape groups_tape example_store

-- "KILL card 1"
unfoldable pub after_kill : Store
unfolding example_store destroy remove ungroup ungroup_family ungroup_components
after_kill = store_after example_store (does (KILL (entity 1 1)) example_store)

-- ---- the fourteen

-- what the model gives, and what 01 says, or 02 in its place
pub record Example : Type 0 where
  pub got : List ℕ
  pub want : List ℕ

-- what RANGE answers in the store s, with a hand and a bar
ranges : Store → List ℕ → List ℕ → List ℕ
unfolding run run_for step does accepted lines_of range_for
ranges s ks bs = answer_of (does RANGE (after_tape (hold_all ks ++ bar_all bs) s))

-- what GROUP answers, with a hand
adds : List ℕ → List ℕ
unfolding example_draft
adds ks = answer_of (does GROUP (after_tape (hold_all ks) example_draft))

-- what KILL answers, and after it RANGE with each of the groups, and NEW
kills : List ℕ
unfolding after_kill ranges
kills = answer_of (does (KILL (entity 1 1)) example_store) ++ ranges after_kill (1 ∷ 2 ∷ []) [] ++ ranges after_kill (1 ∷ 2 ∷ 3 ∷ 4 ∷ []) [] ++ answer_of (does NEW after_kill)

pub marked : List Example
unfolding ranges adds kills
marked =
    -- "RANGE: {1,2} 0..3; {1,2,3,4} 0..1; {1} 0..4; {1,3} none; {1,2} bar {3,4} 1..3; {1,2} bar {3} none; empty none."
    record { got = ranges example_store (1 ∷ 2 ∷ []) []; want = 0 ∷ 1 ∷ 0 ∷ 0 ∷ 0 ∷ 0 ∷ 3 ∷ 0 ∷ 0 ∷ 0 ∷ [] }
    ∷ record { got = ranges example_store (1 ∷ 2 ∷ 3 ∷ 4 ∷ []) []; want = 0 ∷ 1 ∷ 0 ∷ 0 ∷ 0 ∷ 0 ∷ 1 ∷ 0 ∷ 0 ∷ 0 ∷ [] }
    ∷ record { got = ranges example_store (1 ∷ []) []; want = 0 ∷ 1 ∷ 0 ∷ 0 ∷ 0 ∷ 0 ∷ 4 ∷ 0 ∷ 0 ∷ 0 ∷ [] }
    ∷ record { got = ranges example_store (1 ∷ 3 ∷ []) []; want = 0 ∷ 0 ∷ 0 ∷ 0 ∷ 0 ∷ 0 ∷ 0 ∷ 0 ∷ 0 ∷ 0 ∷ [] }
    ∷ record { got = ranges example_store (1 ∷ 2 ∷ []) (3 ∷ 4 ∷ []); want = 0 ∷ 1 ∷ 1 ∷ 0 ∷ 0 ∷ 0 ∷ 3 ∷ 0 ∷ 0 ∷ 0 ∷ [] }
    ∷ record { got = ranges example_store (1 ∷ 2 ∷ []) (3 ∷ []); want = 0 ∷ 0 ∷ 0 ∷ 0 ∷ 0 ∷ 0 ∷ 0 ∷ 0 ∷ 0 ∷ 0 ∷ [] }
    ∷ record { got = ranges example_store [] []; want = 0 ∷ 0 ∷ 0 ∷ 0 ∷ 0 ∷ 0 ∷ 0 ∷ 0 ∷ 0 ∷ 0 ∷ [] }
    -- "{1,2} nothing; {1,2,3} 14; {1,2,5} 14; {3,4} 14; {5,6} added; {1,2,3,4,5} added." 02's No. 1 changes the second: "In 01 {1,2,3} becomes added;
    -- {1,2,5} and {3,4} still clash"
    ∷ record { got = adds (1 ∷ 2 ∷ []); want = 0 ∷ 0 ∷ [] }
    ∷ record { got = adds (1 ∷ 2 ∷ 3 ∷ []); want = 0 ∷ 1 ∷ [] }
    ∷ record { got = adds (1 ∷ 2 ∷ 5 ∷ []); want = 14 ∷ [] }
    ∷ record { got = adds (3 ∷ 4 ∷ []); want = 14 ∷ [] }
    ∷ record { got = adds (5 ∷ 6 ∷ []); want = 0 ∷ 1 ∷ [] }
    ∷ record { got = adds (1 ∷ 2 ∷ 3 ∷ 4 ∷ 5 ∷ []); want = 0 ∷ 1 ∷ [] }
    -- "counts 2 and 0; the next NEW is index 1, version 2."
    ∷ record { got = kills; want = (0 ∷ []) ++ (0 ∷ 1 ∷ 0 ∷ 0 ∷ 0 ∷ 0 ∷ 2 ∷ 0 ∷ 0 ∷ 0 ∷ []) ++ (0 ∷ 1 ∷ 0 ∷ 0 ∷ 0 ∷ 0 ∷ 0 ∷ 0 ∷ 0 ∷ 0 ∷ []) ++ (0 ∷ 1 ∷ 0 ∷ 0 ∷ 0 ∷ 2 ∷ 0 ∷ 0 ∷ 0 ∷ []) }
    ∷ []

abbrev pub gots : List Example → List (List ℕ)
gots es = map (λ (e : Example). e.got) es

abbrev pub wants : List Example → List (List ℕ)
wants es = map (λ (e : Example). e.want) es

pub examples : gots marked ≡ wants marked
unfolding marked
examples = refl

-- ---- the byte-exact tape

-- "REG 1, REG 2, HOLD 1 and 2 (value 0), GROUP, APPLY, HOLD 1=5, NEW, HOLD 1=6, HOLD 2=7, NEW, HOLD 1 and 2 (value 0), RANGE"
pub sample : List ℕ
sample = reg 1 ++ reg 2 ++ holding (1 ∷ 2 ∷ []) GROUP_BYTE ++ (APPLY_BYTE ∷ []) ++ hold 1 5 ++ (NEW_BYTE ∷ []) ++ hold 1 6 ++ hold 2 7 ++ (NEW_BYTE ∷ []) ++ holding (1 ∷ 2 ∷ []) RANGE_BYTE

-- the answers, "then" the numbers
pub answer : List ℕ
answer =
    0 ∷ 1 ∷ 0 ∷ 1 ∷ 0 ∷ 0 ∷ 0 ∷ 1 ∷ 0 ∷ 0 ∷ 0 ∷ 0 ∷ 0 ∷ 0 ∷ 0 ∷ 1 ∷ 0 ∷ 0 ∷ 0 ∷ 0 ∷ 0 ∷ 0 ∷ 1 ∷ 0 ∷ 0 ∷ 0 ∷ 1 ∷ 0 ∷ 0 ∷ 0 ∷ 0 ∷ 0 ∷ 0 ∷ 1 ∷ 0 ∷ 0 ∷ 0 ∷ 0 ∷ 1 ∷ 0 ∷ 0 ∷ 0
    ∷ 0 ∷ 14 ∷ 0 ∷ 0 ∷ 0 ∷ 79 ∷ 0 ∷ 0 ∷ 0 ∷ 42 ∷ 0 ∷ 0 ∷ 0 ∷ []

pub stream_example : written (run sample ANSWER_ROOM (empty 64 8)) ≡ answer
unfolding sample answer run run_for step does accepted lines_of empty_with insert_components group_touched group_family group_components set_layout regroup group_all range_for create
stream_example = refl

-- ---- what proofs/Faults.antt looks at, and the last example

-- the groups' counts, family by family
unfoldable pub counts_of : List Family → List ℕ
counts_of [] = []
counts_of (f ∷ fs) = map (λ (r : Group). r.count) f ++ counts_of fs

-- the indexes of kind k's sparse set, in order
unfoldable pub indexes : ℕ → Storage → List ℕ
indexes k p = map (λ (e : Entity). e.index) (keys (set_of p.sets k))

-- ---- 02's No. 4, in the store of the examples

-- KILL of entity 1, HOLD of {1,2}, a tray of 62; then a tray of 2, RANGE of {1,2}; then HOLD of {1} and a tray of none, RANGE of no kind
abbrev pub tray_tape : List ℕ
tray_tape =
    (KILL_BYTE ∷ bytes_of 4 1 ++ bytes_of 4 1) ++ hold_all (1 ∷ 2 ∷ []) ++ (TRAY_BYTE ∷ bytes_of 2 62) ++ (TRAY_BYTE ∷ bytes_of 2 2) ++ holding (1 ∷ 2 ∷ []) RANGE_BYTE
    ++ hold_all (1 ∷ []) ++ (TRAY_BYTE ∷ bytes_of 2 0) ++ (RANGE_BYTE ∷ [])

-- one number waits and 60 are not yet issued, so that 62 are refused; the hand stays, and two are made: {1,2} is held by 0, 2 and those two
pub tray_answer : List ℕ
tray_answer =
    (0 ∷ 0 ∷ 0 ∷ 12 ∷ [])
    ++ (0 ∷ 2 ∷ 0 ∷ [])
    ++ (0 ∷ 0 ∷ 0 ∷ 1 ∷ 0 ∷ 0 ∷ 0 ∷ 0 ∷ 4 ∷ 0 ∷ 0 ∷ 0 ∷ [])
    ++ (0 ∷ 0 ∷ 0 ∷ 0 ∷ [])
    ++ (0 ∷ 0 ∷ 0 ∷ 0 ∷ 0 ∷ 0 ∷ 0 ∷ 0 ∷ 0 ∷ 0 ∷ [])

pub tray_example : (run tray_tape ANSWER_ROOM example_store).bytes ≡ tray_answer
unfolding tray_answer after_kill run run_for step does accepted lines_of range_for extend create_each group_each
tray_example = refl

-- the rows of kinds 1 and 2 then: the number that waited stands before the next index, and both before entity 3, which lacks kind 2
pub tray_rows : indexes 1 (run tray_tape ANSWER_ROOM example_store).store.storage ++ indexes 2 (run tray_tape ANSWER_ROOM example_store).store.storage ≡ (2 ∷ 0 ∷ 1 ∷ 4 ∷ 3 ∷ []) ++ (2 ∷ 0 ∷ 1 ∷ 4 ∷ [])
unfolding indexes after_kill run run_for step does accepted lines_of range_for extend create_each group_each
tray_rows = refl

-- ---- 02's No. 7, in the store of the examples

abbrev pub call : ℕ → List ℕ
call c = SETCALLER_BYTE ∷ c ∷ []

-- caller 2, a REG that is refused, TALLY; caller 16, TALLY; caller 0, TALLY; caller 2, TALLY
abbrev pub caller_tape : List ℕ
caller_tape = call 2 ++ reg 128 ++ (TALLY_BYTE ∷ []) ++ call 16 ++ (TALLY_BYTE ∷ []) ++ call 0 ++ (TALLY_BYTE ∷ []) ++ call 2 ++ (TALLY_BYTE ∷ [])

-- 7 and 19 are both counted against caller 2, and none against caller 0
pub caller_answer : List ℕ
caller_answer =
    (0 ∷ 7 ∷ 0 ∷ 1 ∷ 0 ∷ 0 ∷ 0 ∷ [])
    ++ (19 ∷ 0 ∷ 2 ∷ 0 ∷ 0 ∷ 0 ∷ [])
    ++ (0 ∷ 0 ∷ 0 ∷ 0 ∷ 0 ∷ 0 ∷ [])
    ++ (0 ∷ 0 ∷ 2 ∷ 0 ∷ 0 ∷ 0 ∷ [])

pub caller_example : (run caller_tape ANSWER_ROOM example_store).bytes ≡ caller_answer
unfolding caller_answer example_store
caller_example = refl

-- "4 begins above 10": the byte 11 stops a run
pub eleven_stops : (run (17 ∷ []) ANSWER_ROOM example_store).stop ≡ 4
unfolding example_store
eleven_stops = refl

-- ---- 02's No. 8: the store of the examples under the newer rule

unfoldable pub newer_store : Store
unfolding example_tape run run_for step does accepted lines_of empty_with insert_components group_touched group_family group_components set_layout regroup group_all create
newer_store = after_tape example_tape (empty_with (told 64 8 8 true))

-- and both with "the larger group's ring" of one kind: groups {1,2}, then {1,2,3}
abbrev pub one_ring_tape : List ℕ
one_ring_tape = holding (1 ∷ 2 ∷ []) GROUP_BYTE ++ holding (1 ∷ 2 ∷ 3 ∷ []) GROUP_BYTE ++ (APPLY_BYTE ∷ [])

pub ruled : List Example
unfolding ranges
ruled =
    -- {1,2} bar {3,4} is none, and the others are 01's
    record { got = ranges newer_store (1 ∷ 2 ∷ []) (3 ∷ 4 ∷ []); want = 0 ∷ 0 ∷ 0 ∷ 0 ∷ 0 ∷ 0 ∷ 0 ∷ 0 ∷ 0 ∷ 0 ∷ [] }
    ∷ record { got = ranges newer_store (1 ∷ 2 ∷ []) []; want = 0 ∷ 1 ∷ 0 ∷ 0 ∷ 0 ∷ 0 ∷ 3 ∷ 0 ∷ 0 ∷ 0 ∷ [] }
    ∷ record { got = ranges newer_store (1 ∷ 2 ∷ 3 ∷ 4 ∷ []) []; want = 0 ∷ 1 ∷ 0 ∷ 0 ∷ 0 ∷ 0 ∷ 1 ∷ 0 ∷ 0 ∷ 0 ∷ [] }
    ∷ record { got = ranges newer_store (1 ∷ []) []; want = 0 ∷ 1 ∷ 0 ∷ 0 ∷ 0 ∷ 0 ∷ 4 ∷ 0 ∷ 0 ∷ 0 ∷ [] }
    ∷ record { got = ranges newer_store (1 ∷ 3 ∷ []) []; want = 0 ∷ 0 ∷ 0 ∷ 0 ∷ 0 ∷ 0 ∷ 0 ∷ 0 ∷ 0 ∷ 0 ∷ [] }
    ∷ record { got = ranges newer_store (1 ∷ 2 ∷ []) (3 ∷ []); want = 0 ∷ 0 ∷ 0 ∷ 0 ∷ 0 ∷ 0 ∷ 0 ∷ 0 ∷ 0 ∷ 0 ∷ [] }
    ∷ record { got = ranges newer_store [] []; want = 0 ∷ 0 ∷ 0 ∷ 0 ∷ 0 ∷ 0 ∷ 0 ∷ 0 ∷ 0 ∷ 0 ∷ [] }
    -- of entities 0 {1,2,3}, 1 {1,2,3,4}, 2 {1,2}, the last alone has 1 and 2 and not 3: 2..3 under both rules
    ∷ record { got = ranges (after_tape one_ring_tape newer_store) (1 ∷ 2 ∷ []) (3 ∷ []); want = 0 ∷ 1 ∷ 2 ∷ 0 ∷ 0 ∷ 0 ∷ 3 ∷ 0 ∷ 0 ∷ 0 ∷ [] }
    ∷ record { got = ranges (after_tape one_ring_tape example_store) (1 ∷ 2 ∷ []) (3 ∷ []); want = 0 ∷ 1 ∷ 2 ∷ 0 ∷ 0 ∷ 0 ∷ 3 ∷ 0 ∷ 0 ∷ 0 ∷ [] }
    ∷ []

pub rule_examples : gots ruled ≡ wants ruled
unfolding ruled newer_store example_store
rule_examples = refl
