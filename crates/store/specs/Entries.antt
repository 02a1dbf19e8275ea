-- What each public entry promises, for all words, operands and bytes: one record an entry. `sound` is 01's "store not sound" decided. Assumes nothing.
use Rattle.std.specs.Prelude.{◌≡◌, Bool, true, false, List, [], ◌++◌, ℕ, length, drop}
use Rattle.std.proofs.Math.Option.{Option, some, none}
use Rattle.std.specs.Borrow.{Bor}
use Rattle.model.specs.Store.{Settings, Store, older, Bytes, words_needed}
use Rattle.model.specs.Refusals.{number_of, first_line, other_lines}
use Rattle.model.specs.Run.{halt, run}
use Rattle.model.specs.Entries.{Started, refuses_start, makes, start_with, column_refusal, column, roll, Emitted, refuses_emit, Emits}
use Rattle.model.specs.Sound.{Limits}
use Rattle.words.specs.Decides.{Decides}
use Rattle.memory.specs.Meaning.{meaning}
use Rattle.memory.specs.Arranged.{Sound}
use Rattle.columns.specs.Parts.{row_place, PartOf}
use Rattle.run.specs.Run.{Traced}
use Rattle.run.specs.declared.Ran.{Ran}
use Rattle.store.specs.declared.Rolled.{Rolled}
use Rattle.model.specs.Run as model
use Rattle.model.specs.Numbers.{UNSOUND}

-- ---- how many words to lend

-- a store "needs 1,024 + 16 × N + K × (8 + 6 × N) words", "K × (8 + 8 × N) at width 16"; 0 where start would refuse N, K or the bytes v of a value
pub record Needs (n k v r : ℕ) : Type 0 where
  pub within : Limits n k v → r ≡ words_needed n k v
  pub outside : (Limits n k v → ⊥) → r ≡ 0

-- ---- start

-- its number: "An accepted entry gives number 0"
abbrev pub start_number : Started → ℕ
start_number (refuses_start m) = m
start_number (makes s) = 0

-- "1 to 3 .. change no lent memory"; else "whatever the words held, makes an empty store", which is sound
abbrev pub StartLeaves : List ℕ → List ℕ → Started → Type 0
StartLeaves w w' (refuses_start m) = w' ≡ w
StartLeaves w w' (makes s) = Sound w' × (meaning w' ≡ s)

-- told the settings c over the words w, which it leaves as w', with number r. 02, No. 8: "A store may be started under the newer rule, told by a bool"; No. 13:
-- "with part width 8 or 16"
pub record StartsWith (c : Settings) (w w' : List ℕ) (r : ℕ) : Type 0 where
  pub number : r ≡ start_number (start_with c (length w))
  pub leaves : StartLeaves w w' (start_with c (length w))
  pub size : length w' ≡ length w
  -- "Words past the needed ones never change."
  pub past : drop (words_needed c.capacity c.kind_capacity c.value_bytes) w' ≡ drop (words_needed c.capacity c.kind_capacity c.value_bytes) w

-- 01's *start*, told N and K
abbrev pub Starts : ℕ → ℕ → List ℕ → List ℕ → ℕ → Type 0
Starts n k w w' r = StartsWith (older n k) w w' r

-- ---- column

-- the first refusal, if there is one, else the second
abbrev pub first_refusal : Option ℕ → Option ℕ → Option ℕ
first_refusal (some n) r = some n
first_refusal none r = r

-- "other entries, first | 3 UNSOUND", then the lines of column
abbrev pub column_refused : Bool → ℕ → ℕ → ℕ → Store → Option ℕ
column_refused sound k a e s = first_refusal (first_line other_lines sound) (column_refusal k a e s)

-- kind k from a to e, with number r
pub record ColumnNumbered (w : List ℕ) (k a e r : ℕ) : Type 0 where
  pub sound : Bool
  pub decides : Decides sound (Sound w)
  pub number : r ≡ number_of (column_refused sound k a e (meaning w))

-- the words handed back: the model's, none of unsound words
abbrev pub column_words : Bool → Bool → ℕ → ℕ → ℕ → Store → List ℕ
column_words true values k a e s = column values k a e s
column_words false values k a e s = []

-- "A refused column is the empty part at the front"
abbrev pub part_place : Option ℕ → Bool → List ℕ → ℕ → ℕ → ℕ
part_place (some n) values w k a = 0
part_place none values w k a = row_place values w k a

-- "hands back the part of the lent store holding a kind's cards .. or values .. from start to end"
pub record ColumnPart (v r : Bor (List ℕ)) (values : Bool) (k a e : ℕ) : Type 0 where
  pub sound : Bool
  pub decides : Decides sound (Sound v.now)
  pub words : r.now ≡ column_words sound values k a e (meaning v.now)
  pub part : PartOf v r (part_place (column_refused sound k a e (meaning v.now)) values v.now k a) (length r.now)

-- ---- run

-- the model's run over sound words; over others "3 UNSOUND", "with zeros beside the number"
abbrev pub ran_of : Bool → List ℕ → ℕ → Store → model.Ran
ran_of true t room s = run t room s
ran_of false t room s = halt UNSOUND s

-- "stop number (0 at the tape's end), commands done (refused ones counted), tape bytes read, answer bytes written", and the bytes o', of which "the bytes
-- past those written, in a run too, stay"
pub record Answered (o o' : List ℕ) (r : Ran) (x : model.Ran) : Type 0 where
  pub stop : r.stop ≡ x.stop
  pub commands : r.commands ≡ x.commands
  pub read : r.read ≡ x.read
  pub written : r.written ≡ length x.bytes
  pub bytes : o' ≡ x.bytes ++ drop (length x.bytes) o

-- "1 to 3 .. change no lent memory"; a run leaves sound words, and `Traced` says of each command in turn that an accepted one leaves words that mean the
-- model's store after it, and that a refused one changes the word of the caller's refusal count and "no other word"
abbrev pub RunLeaves : Bool → List ℕ → ℕ → List ℕ → List ℕ → Type 0
RunLeaves false t room w w' = w' ≡ w
RunLeaves true t room w w' = Sound w' × Traced (length t) t room w w'

-- the tape t over the words w, which it leaves as w', with answers in the bytes o, which it leaves as o'
pub record Runs (w w' t o o' : List ℕ) (r : Ran) : Type 0 where
  pub sound : Bool
  pub decides : Decides sound (Sound w)
  pub answered : Answered o o' r (ran_of sound t (length o) (meaning w))
  pub means : meaning w' ≡ (ran_of sound t (length o) (meaning w)).store
  pub leaves : RunLeaves sound t (length o) w w'
  pub size : length w' ≡ length w
  -- "Words past the needed ones never change."
  pub past : drop (words_needed (meaning w).settings.capacity (meaning w).settings.kind_capacity (meaning w).settings.value_bytes) w' ≡ drop (words_needed (meaning w).settings.capacity (meaning w).settings.kind_capacity (meaning w).settings.value_bytes) w
  -- a tape is of bytes, as its type says
  pub tape : Bytes t

-- ---- an entry that writes bytes, over words lent to be read

-- the model's over sound words; over others "3 UNSOUND"
abbrev pub emitted_over : Bool → Emitted → Emitted
emitted_over true x = x
emitted_over false x = refuses_emit UNSOUND

-- over the words w, into the bytes o, which it leaves as o', with number n and count k
pub record EmitsOver (w o o' : List ℕ) (n k : ℕ) (x : Emitted) : Type 0 where
  pub sound : Bool
  pub decides : Decides sound (Sound w)
  pub emits : Emits o o' n k (emitted_over sound x)

-- ---- roll

-- the snapshot of the words w in the bytes o, which it leaves as o'
abbrev pub Rolls : List ℕ → List ℕ → List ℕ → Rolled → Type 0
Rolls w o o' r = EmitsOver w o o' r.number r.written (roll (length o) (meaning w))
