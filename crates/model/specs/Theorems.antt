-- What the theorems on commands, runs and entries say. Assumes nothing.
use Rattle.std.specs.Prelude.{◌≡◌, ◌≢◌, ◌⊎◌, Bool, true, List, [], ◌∷◌, ℕ, zero, suc, ◌≤◌, ◌<◌, ◌+◌, ◌-◌, ◌*◌, length, take}
use Rattle.model.specs.Numbers.{CALLER, KIND, LAST_CALLER, LAST_KIND, MANY, MAX_REFUSALS, NOROOM, UNKNOWN}
use Rattle.model.specs.Model.{Family, Component, Entities, set_of}
use Rattle.model.specs.Adding.{Added, nothing, added, refused}
use Rattle.model.specs.Store.{Counts, Control, Settings, Store, bytes_of, empty_with, words_needed, is_kind, with_control, with_staged, with_draft, with_counts, with_caller, empty_staged, refusals_by, own_refusals, counted}
use Rattle.model.specs.Commands.{Command, REG, HOLD, NEW, PUT, TAKE, DROP, KILL, WIPE, GROUP, APPLY, BAR, RANGE, EMPTY, TALLY, TRAY, SETCALLER, answer_length, command_on, operands_len}
use Rattle.model.specs.Refusals.{Unchanged}
use Rattle.model.specs.Run.{Outcome, refuses, accepts, store_after, does, Step, stops, goes, Ran}
use Rattle.model.specs.History.{more_by}
use Rattle.model.specs.Entries.{item_words, part_words, column}
use Rattle.model.specs.Sound.{ValueFits, Limits, Buildable, AllUncounted, StagedSound, ExcludedSound, CountsSound, StoreSound}

-- ---- parts of a sound store

-- a draft that commands can build
pub record DraftSound (kinds : List ℕ) (fs : List Family) : Type 0 where
  pub buildable : Buildable kinds fs
  pub uncounted : AllUncounted fs

-- staged and excluded list, draft, caller and refusal counts; values are of v bytes
pub record ControlSound (v : ℕ) (kinds : List ℕ) (d : Control) : Type 0 where
  pub staged : StagedSound v kinds d.staged
  pub excluded : ExcludedSound kinds d.excluded
  pub draft : DraftSound kinds d.draft
  pub counts : CountsSound d.counts

-- each group's count is at most n
abbrev pub CountsTo : ℕ → Family → Type 0
CountsTo n [] = Unit {0}
CountsTo n (r ∷ rs) = (r.count ≤ n) × CountsTo n rs

abbrev pub AllCountsTo : ℕ → List Family → Type 0
AllCountsTo n [] = Unit {0}
AllCountsTo n (f ∷ fs) = CountsTo n f × AllCountsTo n fs

-- what a start was told is the same
abbrev pub SameSettings : Store → Store → Type 0
SameSettings s t = t.settings ≡ s.settings

-- ---- one command

-- its operands are of their widths: a value is of v bytes
abbrev pub Fits : ℕ → Command → Type 0
Fits v (REG k) = Unit {0}
Fits v (HOLD k x) = ValueFits v x
Fits v NEW = Unit {0}
Fits v (PUT e) = Unit {0}
Fits v (TAKE e) = Unit {0}
Fits v (DROP e) = Unit {0}
Fits v (KILL e) = Unit {0}
Fits v WIPE = Unit {0}
Fits v GROUP = Unit {0}
Fits v APPLY = Unit {0}
Fits v (BAR k) = Unit {0}
Fits v RANGE = Unit {0}
Fits v EMPTY = Unit {0}
Fits v TALLY = Unit {0}
Fits v (TRAY n) = Unit {0}
Fits v (SETCALLER c) = Unit {0}

-- what an accepted one leaves is sound
abbrev pub OutSound : Outcome → Type 0
OutSound (refuses n) = Unit {0}
OutSound (accepts s a) = StoreSound s

-- what adding a group leaves is a draft that commands can build
abbrev pub AddedSound : List ℕ → Added → Type 0
AddedSound kinds nothing = Unit {0}
AddedSound kinds (added fs) = DraftSound kinds fs
AddedSound kinds (refused n) = Unit {0}

-- GROUP by the layout's own add_group: the staged kinds added to the draft, nothing added, or a refusal
abbrev pub grouped : Store → Added → Outcome
grouped s nothing = accepts (with_control s (empty_staged s.control)) (0 ∷ [])
grouped s (added fs) = accepts (with_control s (with_draft (empty_staged s.control) fs)) (1 ∷ [])
grouped s (refused n) = refuses n

-- 02, No. 4: "that many NEWs, each with the same hand": the hand is h
abbrev pub restaged : List Component → Store → Store
restaged h s = with_control s (with_staged s.control h)

-- NEW n times, each with the hand h; a refused one would be counted
unfoldable pub news : ℕ → List Component → Store → Store
news zero h s = s
news (suc n) h s = news n h (store_after (restaged h s) (does NEW (restaged h s)))

-- 02, No. 7: command 10 with caller c in the store s leaves t, and answers at the front of a
pub record CallTold (c : ℕ) (s t : Store) (a : List ℕ) : Type 0 where
  -- "19 CALLER for 16 or above, answered in a run as 7 to 15 are and counted against the caller then set"
  pub above : LAST_CALLER < c → (take 1 a ≡ CALLER ∷ []) × (t ≡ with_control s (counted s.control))
  -- "sets the caller for what follows", and changes nothing else
  pub sets : c ≤ LAST_CALLER → (take 1 a ≡ 0 ∷ []) × (t ≡ with_control s (with_caller s.control c))

-- "TALLY answers the current one", and changes nothing
pub record TallyTold (s t : Store) (a : List ℕ) : Type 0 where
  pub answer : take 5 a ≡ 0 ∷ bytes_of 4 (own_refusals s.control)
  pub same : t ≡ s

-- the numbers by which a command is refused: "7 to 15 in a run"; 02, No. 7: 19 CALLER is "answered in a run as 7 to 15 are"
abbrev pub InRun : ℕ → Type 0
InRun n = ((KIND ≤ n) × (n ≤ MANY)) ⊎ (n ≡ CALLER)

-- ---- one step

-- "7 to 15 in a run write their number as one byte, add to the tally, change no other word, and the run goes on", and so 19: the refusal count of the caller
-- alone is changed, "that stays at 4,294,967,295"
pub record RefusedStep (n w : ℕ) (s : Store) (p : Step) : Type 0 where
  pub after : Store
  pub step : p ≡ goes w (n ∷ []) after
  pub same : Unchanged s after
  pub more : own_refusals s.control < MAX_REFUSALS → own_refusals after.control ≡ suc (own_refusals s.control)
  pub full : MAX_REFUSALS ≤ own_refusals s.control → own_refusals after.control ≡ own_refusals s.control

-- Q of a step that does not stop the run
abbrev pub IfGoes : (ℕ → List ℕ → Store → Type 0) → Step → Type 0
IfGoes Q (stops n) = Unit {0}
IfGoes Q (goes w a s) = Q w a s

-- a step reads the command's bytes, all of which the tape has, and writes the accepted answer or one byte, for which there is room
pub record StepFits (b : ℕ) (t : List ℕ) (room : ℕ) (s : Store) (w : ℕ) (a : List ℕ) : Type 0 where
  pub read : w ≡ suc (operands_len b s)
  pub whole : w ≤ suc (length t)
  pub fits : length a ≤ room
  pub refused : (n : ℕ) → does (command_on b t s) s ≡ refuses n → length a ≡ 1
  pub accepted : (s' : Store) (x : List ℕ) → does (command_on b t s) s ≡ accepts s' x → length a ≡ answer_length (command_on b t s) s

-- ---- a run

-- 02, No. 7: from s to t the caller is kept, n refusals more are counted against it, and none against another
pub record OneCaller (n : ℕ) (s t : Store) : Type 0 where
  pub caller : t.control.counts.caller ≡ s.control.counts.caller
  pub own : own_refusals t.control ≡ more_by n (own_refusals s.control)
  pub others : (c : ℕ) → c ≢ s.control.counts.caller → refusals_by c t.control ≡ refusals_by c s.control

-- the stores differ in their callers and counts alone
abbrev pub recounted : Counts → Store → Store
recounted n s = with_control s (with_counts s.control n)

-- and the refusals of the two callers that are set are as many
pub record ButCallers (s t : Store) : Type 0 where
  pub same : t ≡ recounted t.control.counts s
  pub own : own_refusals t.control ≡ own_refusals s.control

-- two runs of one tape: the same stop, commands, bytes read and answers, and stores that differ so again
pub record SameButCallers (r q : Ran) : Type 0 where
  pub stop : q.stop ≡ r.stop
  pub commands : q.commands ≡ r.commands
  pub read : q.read ≡ r.read
  pub bytes : q.bytes ≡ r.bytes
  pub store : ButCallers r.store q.store

-- the stores after each command: one for each, the last one the run's
abbrev pub last_of : Store → List Store → Store
last_of s [] = s
last_of s (t ∷ ts) = last_of t ts

pub record Passes (s : Store) (r : Ran) (ts : List Store) : Type 0 where
  pub commands : length ts ≡ r.commands
  pub last : last_of s ts ≡ r.store

-- it writes no more than its room, reads no more than the tape, and stops with 0 only where it has read all of it
pub record RunFits (t : List ℕ) (room : ℕ) (r : Ran) : Type 0 where
  pub bytes : length r.bytes ≤ room
  pub tape : r.read ≤ length t
  pub commands : r.commands ≤ r.read
  pub stop : (r.stop ≡ 0) ⊎ ((UNKNOWN ≤ r.stop) × (r.stop ≤ NOROOM))
  pub end : r.stop ≡ 0 → r.read ≡ length t

-- the numbers issued are live, waiting, or among the r retired
abbrev pub Balanced : Entities → ℕ → Type 0
Balanced c r = c.issued ≡ length c.live + length c.recycled + r

-- ---- entries

-- the same of both: number, count and what was written; bytes that were equal stay equal
pub record SameEmitted (o p o' p' : List ℕ) (n k m j : ℕ) : Type 0 where
  pub number : n ≡ m
  pub written : k ≡ j
  pub answers : take k o' ≡ take j p'
  pub bytes : o ≡ p → o' ≡ p'

-- what an accepted start makes: the empty store, which is sound and for which the words are enough
pub record Makes (c : Settings) (words : ℕ) (s : Store) : Type 0 where
  pub store : s ≡ empty_with c
  pub limits : Limits c.capacity c.kind_capacity c.value_bytes
  pub words_enough : words_needed c.capacity c.kind_capacity c.value_bytes ≤ words
  pub sound : StoreSound s

-- an accepted one is the rows from start to end: two words for each entity, a value's words for each value
pub record Columned (which : Bool) (k a e : ℕ) (s : Store) : Type 0 where
  pub known : is_kind k s ≡ true
  pub small : k ≤ LAST_KIND
  pub order : a ≤ e
  pub inside : e ≤ length (set_of s.storage.sets k)
  pub words : column which k a e s ≡ part_words s.settings.value_bytes which a e (set_of s.storage.sets k)
  pub size : length (column which k a e s) ≡ item_words s.settings.value_bytes which * (e - a)
