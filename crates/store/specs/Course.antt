-- A run as 01 tells it, command by command, over the words themselves, and the words that runs reach from a start. Said beside the contracts, for the
-- theorems of proofs/Demands.antt: every run has such a course. Assumes nothing.
use Rattle.std.specs.Prelude.{◌≡◌, List, [], ◌∷◌, ◌++◌, ℕ, suc, ◌+◌, ◌-◌, length, drop}
use Rattle.model.specs.Numbers.{UNSOUND}
use Rattle.model.specs.Store.{Settings, counted, with_control}
use Rattle.model.specs.Commands.{Command, operands_len, command_on, accepted}
use Rattle.model.specs.Refusals.{NoneHolds, First, BeforeCommand, before_lines, lines_of}
use Rattle.model.specs.Run as model_run
use Rattle.model.specs.History.{retired, refused_by, refused_all, calls}
use Rattle.memory.specs.Meaning.{meaning, with_refusal}
use Rattle.memory.specs.Arranged.{Sound, Becomes}
use Rattle.run.specs.declared.Ran.{Ran}
use Rattle.store.specs.Entries.{StartsWith, Runs}

-- what the lines before a command are told: its byte, the tape after it, the free answer bytes, and the store that the words mean
abbrev pub before : List ℕ → ℕ → List ℕ → ℕ → BeforeCommand
before w b t room = record { byte = b; rest = t; room = room; store = meaning w }

-- from the words w, the tape and so many free bytes to the words w', with stop number, commands done, tape bytes read, and answer bytes
pub data Course : List ℕ → List ℕ → ℕ → List ℕ → ℕ → ℕ → ℕ → List ℕ → Type 0 where
  -- "0 at the tape's end"
  ended : {w : List ℕ} {room : ℕ} → Course w [] room w 0 0 0 []
  -- "4 to 6 stop a run before the command and aren't tallied": a line before the command holds, and no line above it does
  stopped : {w t : List ℕ} {b room n : ℕ} → First before_lines (before w b t room) n → Course w (b ∷ t) room w n 0 0 []
  -- "7 to 15 in a run write their number as one byte, add to the tally, change no other word, and the run goes on", and so 19: a line of the command
  -- holds, and no line above it does
  refused : (w : List ℕ) {w' t bytes : List ℕ} {b room n stop commands read : ℕ} → NoneHolds before_lines (before w b t room) → First (lines_of (command_on b t (meaning w))) (meaning w) n
      → Becomes w (with_refusal w) (with_control (meaning w) (counted (meaning w).control)) → Sound (with_refusal w)
      → Course (with_refusal w) (drop (operands_len b (meaning w)) t) (room - 1) w' stop commands read bytes → Course w (b ∷ t) room w' stop (suc commands) (suc (operands_len b (meaning w)) + read) (n ∷ bytes)
  -- no line holds: "effect; answer after a 0 byte"
  done : (w w₁ : List ℕ) {w' t bytes : List ℕ} {b room stop commands read : ℕ} → NoneHolds before_lines (before w b t room) → NoneHolds (lines_of (command_on b t (meaning w))) (meaning w)
      → Becomes w w₁ (accepted (command_on b t (meaning w)) (meaning w)).store → Sound w₁
      → Course w₁ (drop (operands_len b (meaning w)) t) (room - suc (length (accepted (command_on b t (meaning w)) (meaning w)).answer)) w' stop commands read bytes
      → Course w (b ∷ t) room w' stop (suc commands) (suc (operands_len b (meaning w)) + read) (0 ∷ (accepted (command_on b t (meaning w)) (meaning w)).answer ++ bytes)

-- the same, with the model's answer for stop number, commands, bytes read and bytes
abbrev pub CourseOf : List ℕ → List ℕ → ℕ → List ℕ → model_run.Ran → Type 0
CourseOf w t room w' x = Course w t room w' x.stop x.commands x.read x.bytes

-- P of the words after each command
abbrev pub AfterEach : (P : List ℕ → Type 0) {w t w' bytes : List ℕ} {room stop commands read : ℕ} → Course w t room w' stop commands read bytes → Type 0
AfterEach P ended = Unit {0}
AfterEach P (stopped f) = Unit {0}
AfterEach P (refused w h f b s c) = P (with_refusal w) × AfterEach P c
AfterEach P (done w w₁ h n b s c) = P w₁ × AfterEach P c

-- P of each command that the run comes to, done or stopped before: the words there, its byte, the tape after it, the free answer bytes, and the number
-- by which the run stops before it, 0 where it goes on
abbrev pub BeforeEach : (P : List ℕ → ℕ → List ℕ → ℕ → ℕ → Type 0) {w t w' bytes : List ℕ} {room stop commands read : ℕ} → Course w t room w' stop commands read bytes → Type 0
BeforeEach P ended = Unit {0}
BeforeEach P (stopped {w} {t} {b} {room} {n} f) = P w b t room n
BeforeEach P (refused w {w'} {t} {bytes} {b} {room} h f m s c) = P w b t room 0 × BeforeEach P c
BeforeEach P (done w w₁ {w'} {t} {bytes} {b} {room} h n m s c) = P w b t room 0 × BeforeEach P c

-- P of each command done, refused or not: the words before it, the command, the words after it, and the run's answer bytes from its own on
abbrev pub EachDone : (P : List ℕ → Command → List ℕ → List ℕ → Type 0) {w t w' bytes : List ℕ} {room stop commands read : ℕ} → Course w t room w' stop commands read bytes → Type 0
EachDone P ended = Unit {0}
EachDone P (stopped f) = Unit {0}
EachDone P (refused w {w'} {t} {bytes} {b} {room} {n} h f m s c) = P w (command_on b t (meaning w)) (with_refusal w) (n ∷ bytes) × EachDone P c
EachDone P (done w w₁ {w'} {t} {bytes} {b} h n m s c) = P w (command_on b t (meaning w)) w₁ (0 ∷ (accepted (command_on b t (meaning w)) (meaning w)).answer ++ bytes) × EachDone P c

-- the same without the words after it
abbrev pub EachAnswer : (P : List ℕ → Command → List ℕ → Type 0) {w t w' bytes : List ℕ} {room stop commands read : ℕ} → Course w t room w' stop commands read bytes → Type 0
EachAnswer P c = EachDone (λ v k v' l. P v k l) c

-- P of each refused command: the words before it, and after it
abbrev pub EachRefusal : (P : List ℕ → List ℕ → Type 0) {w t w' bytes : List ℕ} {room stop commands read : ℕ} → Course w t room w' stop commands read bytes → Type 0
EachRefusal P ended = Unit {0}
EachRefusal P (stopped f) = Unit {0}
EachRefusal P (refused w h f m s c) = P w (with_refusal w) × EachRefusal P c
EachRefusal P (done w w₁ h n m s c) = EachRefusal P c

-- the words that an accepted start, under either rule, and then any runs leave
pub data Reached : List ℕ → Type 0 where
  started : {c : Settings} {w w' : List ℕ} → StartsWith c w w' 0 → Reached w'
  ran : {w w' t o o' : List ℕ} {r : Ran} → Reached w → Runs w w' t o o' r → Reached w'

-- what that start was told
abbrev pub settings_in : {w : List ℕ} → Reached w → Settings
settings_in (started {c} S) = c
settings_in (ran d R) = settings_in d

-- the numbers retired on the way: "retired counts past destructions at the last version"
abbrev pub retired_in : {w : List ℕ} → Reached w → ℕ
retired_in (started S) = 0
retired_in (ran {w} {w'} {t} {o} c R) = retired_in c + retired t (length o) (meaning w)

-- 02, No. 7: the commands refused on the way while c was the caller, all that were refused, and how often command 10 was met
abbrev pub refused_in : ℕ → {w : List ℕ} → Reached w → ℕ
refused_in c (started S) = 0
refused_in c (ran {w} {w'} {t} {o} d R) = refused_in c d + refused_by c t (length o) (meaning w)

abbrev pub all_refused_in : {w : List ℕ} → Reached w → ℕ
all_refused_in (started S) = 0
all_refused_in (ran {w} {w'} {t} {o} d R) = all_refused_in d + refused_all t (length o) (meaning w)

abbrev pub calls_in : {w : List ℕ} → Reached w → ℕ
calls_in (started S) = 0
calls_in (ran {w} {w'} {t} {o} d R) = calls_in d + calls t (length o) (meaning w)

-- the words that a caller may take for a sound store, with what src/held.rt asks of him: an accepted start left them, or a run that did not answer 3; and
-- then any runs
pub data Held : List ℕ → Type 0 where
  begun : {c : Settings} {w w' : List ℕ} → StartsWith c w w' 0 → Held w'
  opened : {w w' t o o' : List ℕ} {r : Ran} → Runs w w' t o o' r → (r.stop ≡ UNSOUND → ⊥) → Held w'
  went_on : {w w' t o o' : List ℕ} {r : Ran} → Held w → Runs w w' t o o' r → Held w'
