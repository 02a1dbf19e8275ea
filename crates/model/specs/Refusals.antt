-- "Refusals by place": 01's table, place by place in its order. Assumes nothing.
use Rattle.std.specs.Prelude.{◌≡◌, ◌≢◌, Bool, true, false, cond, not, ◌&&◌, ◌||◌, List, [], ◌∷◌, ◌++◌, ℕ, eqb, leb, ltb, length}
use Rattle.std.proofs.Math.Option.{Option, some, none}
use Rattle.model.specs.Numbers.{CALLER, HANDFUL, KIND, LAST_CALLER, LAST_KIND, LIST_CAPACITY, MANY, MAX_ENTITIES, MAX_GROUP_ARITY, MAX_GROUP_COUNT, MAX_KINDS, SIZE, WIDE, SHORT, UNSOUND, UNKNOWN, CUT, NOROOM, KINDS, AGAIN, DEAD, FULL, CLASH, BEYOND, VALUE_BYTES, LONG_VALUE_BYTES}
use Rattle.model.specs.Model.{Entity, mem, set_of, groups_of, adds_nothing, joins, is_full, free_numbers, is_live}
use Rattle.model.specs.Store.{Store, staged_kinds, is_kind, refusals_by, words_needed}
use Rattle.model.specs.Commands.{Command, REG, HOLD, NEW, PUT, TAKE, DROP, KILL, WIPE, GROUP, APPLY, BAR, RANGE, EMPTY, TALLY, TRAY, SETCALLER, is_command, answer_length, command_on, operands_len}
use Rattle.model.specs.Snapshot.{snapshot}

-- ---- lines

-- a line of the table: its number, and when it holds of what the place is given
pub record Line (A : Type 0) : Type 0 where
  pub number : ℕ
  pub holds : A → Bool

abbrev pub line : {A : Type 0} → ℕ → (A → Bool) → Line A
line n t = record { number = n; holds = t }

-- "A refusal comes when its line holds and no line above does, else never"
abbrev pub first_line : {A : Type 0} → List (Line A) → A → Option ℕ
first_line [] a = none
first_line (l ∷ ls) a = let r = first_line ls a in cond (l.holds a) (some l.number) r

-- no line of the list holds
abbrev pub NoneHolds : {A : Type 0} → List (Line A) → A → Type 0
NoneHolds [] a = Unit {0}
NoneHolds (l ∷ ls) a = (l.holds a ≡ false) × NoneHolds ls a

-- "its line holds and no line above does": what it means that a line is the first (first_exact in proofs/Lines.antt)
pub record First {A : Type 0} (ls : List (Line A)) (a : A) (n : ℕ) : Type 0 where
  pub above : List (Line A)
  pub here : Line A
  pub under : List (Line A)
  pub table : ls ≡ above ++ (here ∷ under)
  pub passed : NoneHolds above a
  pub holds : here.holds a ≡ true
  pub number : here.number ≡ n

-- the number that an entry gives: "An accepted entry gives number 0"
abbrev pub number_of : Option ℕ → ℕ
number_of none = 0
number_of (some n) = n

-- ---- start

-- what start is told: N, K, the bytes of a value, and how many words are lent
pub record StartTold : Type 0 where
  pub capacity : ℕ
  pub kind_capacity : ℕ
  pub value_bytes : ℕ
  pub words : ℕ

-- not 1 to most
abbrev pub outside : ℕ → ℕ → Bool
outside n most = eqb n 0 || ltb most n

-- neither 8 nor 16
abbrev pub other_width : ℕ → Bool
other_width v = not (eqb v VALUE_BYTES || eqb v LONG_VALUE_BYTES)

abbrev pub outsize : ℕ → ℕ → ℕ → Bool
outsize n k v = outside n MAX_ENTITIES || (outside k MAX_KINDS || other_width v)

abbrev pub start_lines : List (Line StartTold)
start_lines =
    -- "N not 1 to 4,096 or K not 1 to 128"; 02, No. 13: "1 also for another width, before all else"
    line SIZE (λ l. outsize l.capacity l.kind_capacity l.value_bytes)
    -- "too few words"
    ∷ line SHORT (λ l. ltb l.words (words_needed l.capacity l.kind_capacity l.value_bytes))
    ∷ []

-- ---- other entries, first: told whether the lent words are sound

abbrev pub other_lines : List (Line Bool)
other_lines =
    -- "store not sound"
    line UNSOUND not
    ∷ []

-- ---- run, before a command

-- the tape from the command's byte on, the free answer bytes, and the store
pub record BeforeCommand : Type 0 where
  pub byte : ℕ
  pub rest : List ℕ
  pub room : ℕ
  pub store : Store

-- the command that is to be done
abbrev pub command_of : BeforeCommand → Command
command_of r = command_on r.byte r.rest r.store

abbrev pub before_lines : List (Line BeforeCommand)
before_lines =
    -- "byte not 01 to 0E"; 02, No. 7: "4 begins above 10"
    line UNKNOWN (λ r. not (is_command r.byte))
    -- "operands incomplete"
    ∷ line CUT (λ r. ltb (length r.rest) (operands_len r.byte r.store))
    -- "fewer free bytes than the accepted answer .. takes"
    ∷ line NOROOM (λ r. ltb r.room (answer_length (command_of r) r.store))
    ∷ []

-- ---- roll

-- the free bytes, and the store
pub record Asked : Type 0 where
  pub room : ℕ
  pub store : Store

abbrev pub roll_lines : List (Line Asked)
roll_lines =
    -- "fewer free bytes than .. the roll, takes"
    line NOROOM (λ a. ltb a.room (length (snapshot a.store)))
    ∷ []

-- ---- each command

-- PUT, TAKE, DROP, KILL: "card not live"
abbrev pub dead_line : Entity → Line Store
dead_line e = line DEAD (λ s. not (is_live e s.entities))

-- for HOLD, BAR and column: "above 127; for all but REG also unregistered"
abbrev pub unknown_kind : ℕ → Store → Bool
unknown_kind k s = ltb LAST_KIND k || not (is_kind k s)

unfoldable pub lines_of : Command → List (Line Store)
lines_of (REG k) =
    -- "above 127"
    line KIND (λ s. ltb LAST_KIND k)
    -- "new, and K are registered"
    ∷ line KINDS (λ s. not (is_kind k s) && leb s.settings.kind_capacity (length s.kinds))
    ∷ []
lines_of (HOLD k v) =
    line KIND (unknown_kind k)
    -- "already in that list"
    ∷ line AGAIN (λ s. mem k (staged_kinds s))
    -- "list has 16"
    ∷ line HANDFUL (λ s. leb LIST_CAPACITY (length s.control.staged))
    ∷ []
lines_of (BAR k) =
    line KIND (unknown_kind k)
    ∷ line AGAIN (λ s. mem k s.control.excluded)
    ∷ line HANDFUL (λ s. leb LIST_CAPACITY (length s.control.excluded))
    ∷ []
lines_of (PUT e) = dead_line e ∷ []
lines_of (TAKE e) = dead_line e ∷ []
lines_of (DROP e) = dead_line e ∷ []
lines_of (KILL e) = dead_line e ∷ []
lines_of NEW =
    -- "none waiting, N issued"
    line FULL (λ s. is_full s.settings.capacity s.entities)
    ∷ []
-- "GROUP answers "nothing added" for a small hand before 13 and for an equal group before 14."
lines_of GROUP =
    -- more kinds than a group may have. 02, No. 3: "WIDE then never occurs": a hand has 16 at most (`wide_never`)
    line WIDE (λ s. ltb MAX_GROUP_ARITY (length (staged_kinds s)))
    -- 02, No. 1: "CLASH shrinks to what is left"
    ∷ line CLASH (λ s. not (adds_nothing (staged_kinds s) s.control.draft) && not (joins (staged_kinds s) s.control.draft))
    -- 02, No. 3: "MANY moves to a draft with 64 groups"
    ∷ line MANY (λ s. not (adds_nothing (staged_kinds s) s.control.draft) && leb MAX_GROUP_COUNT (groups_of s.control.draft))
    ∷ []
lines_of WIPE = []
lines_of APPLY = []
lines_of RANGE = []
lines_of EMPTY = []
lines_of TALLY = []
lines_of (TRAY n) =
    -- 02, No. 4: "12 if the numbers waiting and those not yet issued are together fewer than the count, and then no card is made"
    line FULL (λ s. ltb (free_numbers s.settings.capacity s.entities) n)
    ∷ []
lines_of (SETCALLER c) =
    -- 02, No. 7: "19 CALLER for 16 or above"
    line CALLER (λ s. ltb LAST_CALLER c)
    ∷ []

-- ---- column

-- the kind, start and end, and the store
pub record Part : Type 0 where
  pub kind : ℕ
  pub start : ℕ
  pub end : ℕ
  pub store : Store

abbrev pub column_lines : List (Line Part)
column_lines =
    line KIND (λ p. unknown_kind p.kind p.store)
    -- "start above end or end above length"
    ∷ line BEYOND (λ p. ltb p.end p.start || ltb (length (set_of p.store.storage.sets p.kind)) p.end)
    ∷ []

-- ---- a refused command inside a run

-- "change no other word": all but the refusal count of the caller is as it was
pub record Unchanged (s t : Store) : Type 0 where
  pub settings : t.settings ≡ s.settings
  pub kinds : t.kinds ≡ s.kinds
  pub entities : t.entities ≡ s.entities
  pub storage : t.storage ≡ s.storage
  pub staged : t.control.staged ≡ s.control.staged
  pub excluded : t.control.excluded ≡ s.control.excluded
  pub draft : t.control.draft ≡ s.control.draft
  pub caller : t.control.counts.caller ≡ s.control.counts.caller
  -- 02, No. 7: "no caller's refusals alter another's"
  pub others : (c : ℕ) → c ≢ s.control.counts.caller → refusals_by c t.control ≡ refusals_by c s.control
