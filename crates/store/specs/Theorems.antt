-- What the theorems on the entries say of an answer: by its table, of two answers to the same call, of a store that is reached. Assumes nothing.
use Rattle.std.specs.Prelude.{◌≡◌, ◌≢◌, ◌↔◌, Bool, cond, List, [], ℕ, suc, ◌+◌, ◌≤◌, ◌<◌, length, get_or, take}
use Rattle.model.specs.Refusals.{Line, NoneHolds, First, Unchanged}
use Rattle.memory.specs.Arranged.{Sound}
use Rattle.memory.specs.Header.{caller_of, refusals_at, rule_of, value_bytes_of}
use Rattle.memory.specs.Meaning.{meaning}
use Rattle.run.specs.declared.Ran.{Ran}
use Rattle.store.specs.declared.Rolled.{Rolled}
use Rattle.store.specs.declared.Reply.{Reply}
use Rattle.model.specs.Store.{Settings, Store, one_more, counted}
use Rattle.model.specs.Sound.{EightOrSixteen, GroupsRight, GroupsBetween}
use Rattle.model.specs.Numbers.{CALLERS, LAST_CALLER, MAX_REFUSALS, UNSOUND}
use Rattle.model.specs.Theorems.{recounted, ButCallers}
use Rattle.words.specs.Offsets.{NEWER, REFUSALS}
use Rattle.std.specs.Borrow.{Bor}
use Rattle.store.specs.Entries.{ColumnNumbered, ColumnPart, Runs, Rolls}
use Rattle.store.specs.Linked.{ColumnPlaced, ColumnCopied}

-- r is the number of the first line that holds, 0 where none does
pub record Tabled {A : Type 0} (ls : List (Line A)) (x : A) (r : ℕ) : Type 0 where
  pub refused : (m : ℕ) → (r ≡ suc m) ↔ First ls x (suc m)
  pub accepted : (r ≡ 0) ↔ NoneHolds ls x

-- the same of an entry that is told words: 3 exactly where they are not sound, which no line of its own has
pub record Judged {A : Type 0} (w : List ℕ) (ls : List (Line A)) (x : A) (r : ℕ) : Type 0 where
  pub unsound : (r ≡ UNSOUND) ↔ (Sound w → ⊥)
  pub sound : Sound w → Tabled ls x r

-- words that are no sound store, at every entry: 3, place 0, and "A refused column is the empty part at the front"
pub record UnsoundAt (w : List ℕ) : Type 0 where
  pub run : (w' t o o' : List ℕ) (r : Ran) → Runs w w' t o o' r → r.stop ≡ UNSOUND
  pub roll : (o o' : List ℕ) (r : Rolled) → Rolls w o o' r → r.number ≡ UNSOUND
  pub column : (k a e r : ℕ) → ColumnNumbered w k a e r → r ≡ UNSOUND
  pub place : (values : Bool) (k a e r : ℕ) → ColumnPlaced w values k a e r → r ≡ 0
  pub copy : (o o' : List ℕ) (values : Bool) (k a e : ℕ) (r : Reply) → ColumnCopied w o o' values k a e r → r.number ≡ UNSOUND
  pub part : (v r : Bor (List ℕ)) (values : Bool) (k a e n : ℕ) → v.now ≡ w → ColumnPart v r values k a e → ColumnNumbered v.now k a e n → (r.now ≡ []) × (r.ref_ptr ≡ v.ref_ptr)

-- what a refused command inside a run leaves: all that the words mean is as it was, but for the caller's count of refusals, which is counted up
pub record RefusalAlone (s t : Store) : Type 0 where
  pub same : Unchanged s t
  -- "a tally of refused commands that stays at 4,294,967,295"
  pub counts : t.control.counts ≡ (counted s.control).counts

-- the same of the words themselves. 02, No. 7: "no caller's refusals alter another's"; "change no other word"
pub record RefusalWord (w v : List ℕ) : Type 0 where
  pub size : length v ≡ length w
  pub caller : caller_of w ≤ LAST_CALLER
  pub own : refusals_at v (caller_of w) ≡ one_more (refusals_at w (caller_of w))
  pub others : (i : ℕ) → i ≢ REFUSALS + caller_of w → get_or v i 0 ≡ get_or w i 0

-- a count that was m, after n refusals more: "stays at 4,294,967,295"
pub record CountedUp (n m r : ℕ) : Type 0 where
  pub up : m + n ≤ MAX_REFUSALS → r ≡ m + n
  pub full : MAX_REFUSALS ≤ m + n → r ≡ MAX_REFUSALS

-- 02, No. 7: "A store from start .. that never meets command 10": the caller is 0, n refusals are counted against it, and none against another
pub record NeverCalled (n : ℕ) (w : List ℕ) : Type 0 where
  pub caller : caller_of w ≡ 0
  pub own : CountedUp n 0 (refusals_at w 0)
  pub others : (c : ℕ) → 1 ≤ c → c < CALLERS → refusals_at w c ≡ 0

-- two runs of one tape over words that differ in callers and counts alone: the same result, the same answers, and words that differ so again
pub record RunButCallers (w' v' o' p' : List ℕ) (r q : Ran) : Type 0 where
  pub result : q ≡ r
  pub answers : take q.written p' ≡ take r.written o'
  pub store : ButCallers (meaning w') (meaning v')

-- words of one meaning, sound or not alike: *run*, *roll* and *column*, its number, place and copy do not tell them apart (proofs/Determined.antt);
-- the two starts look at nothing but how many they are
pub record Alike (w v : List ℕ) : Type 0 where
  pub means : meaning w ≡ meaning v
  pub sound : Sound w ↔ Sound v

-- 02, No. 7: words that differ in callers and counts alone, sound or not alike: *roll* and *column*, its number and copy do not tell them apart
-- (proofs/Calling.antt)
pub record AlikeButCallers (w v : List ℕ) : Type 0 where
  pub means : meaning v ≡ recounted (meaning v).control.counts (meaning w)
  pub sound : Sound w ↔ Sound v

-- two starts over as many words: the same number, and where it is 0 the same store; refused, nothing changed
pub record SameStart (w v w' v' : List ℕ) (r q : ℕ) : Type 0 where
  pub number : r ≡ q
  pub made : r ≡ 0 → meaning w' ≡ meaning v'
  pub refused : 1 ≤ r → (w' ≡ w) × (v' ≡ v)

-- two runs of one tape: the same result, the same answers, words that are alike
pub record SameRun (o p w' v' o' p' : List ℕ) (r q : Ran) : Type 0 where
  pub result : r ≡ q
  pub alike : Alike w' v'
  pub answers : take r.written o' ≡ take q.written p'
  -- bytes that were equal stay equal
  pub bytes : o ≡ p → o' ≡ p'

-- two entries that wrote: the same result and the same bytes
pub record SameRolled (o p o' p' : List ℕ) (r q : Rolled) : Type 0 where
  pub result : r ≡ q
  pub answers : take r.written o' ≡ take q.written p'
  -- bytes that were equal stay equal
  pub bytes : o ≡ p → o' ≡ p'

-- two copies, or two entries that answer as a copy does: the same result and the same words
pub record SameCopied (o p o' p' : List ℕ) (r q : Reply) : Type 0 where
  pub result : r ≡ q
  pub answers : take r.written o' ≡ take q.written p'
  -- words that were equal stay equal
  pub words : o ≡ p → o' ≡ p'

-- demand 3 of the groups: each right, and what stands between two neighbours
pub record GroupsHold (s : Store) : Type 0 where
  pub right : GroupsRight s
  pub between : GroupsBetween s

-- ---- a run goes on where it stopped

-- what two runs answer together: the second's stop, and the counts added
abbrev pub together : Ran → Ran → Ran
together a b = record { stop = b.stop; commands = a.commands + b.commands; read = a.read + b.read; written = a.written + b.written }

-- a run that answers c, in the bytes q', and leaves the words v, in place of runs that answer r together, with the bytes, and leave the words w': the same
-- result, the same answers, words that are alike
pub record Continues (v w' q' bytes : List ℕ) (c r : Ran) : Type 0 where
  pub result : c ≡ r
  pub answers : take c.written q' ≡ bytes
  pub alike : Alike v w'

-- words that mean s, left by a run to the tape's end
pub record LeftInWords (s : Store) (w : List ℕ) (r : Ran) : Type 0 where
  pub stop : r.stop ≡ 0
  pub sound : Sound w
  pub means : meaning w ≡ s

-- 02, No. 8: "told by a bool and fixed for its life"; No. 13: "A store is started with part width 8 or 16, and a sound one has one of the two": the words w
-- mean a store of these settings, the rule's word says its rule, and the width's word the bytes of a value
pub record Ruled (c : Settings) (w : List ℕ) : Type 0 where
  pub settings : (meaning w).settings ≡ c
  pub word : rule_of w ≡ cond c.newer NEWER 0
  pub width : value_bytes_of w ≡ c.value_bytes
  pub widths : EightOrSixteen c.value_bytes
