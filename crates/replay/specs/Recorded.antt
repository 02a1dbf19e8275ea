-- What is recorded, and when the model gives the same. The file's format is in the crate's README.md; f is its bytes, and every part is named by where it
-- begins. Assumes nothing.
use Rattle.std.specs.Prelude.{◌≡◌, List, ℕ, ◌+◌, ◌*◌, ◌<◌, Bool, true, false, length, get_or, take, drop}
use Rattle.model.specs.Store.{Settings, Store, number, told, empty_with}
use Rattle.model.specs.Refusals.{number_of}
use Rattle.model.specs.Run.{Ran, run}
use Rattle.model.specs.Snapshot.{snapshot}
use Rattle.model.specs.Entries.{makes, start_with, column_refusal, column}
use Rattle.model.specs.Numbers.{BEYOND}

-- a number of two bytes, lowest first
abbrev pub short : List ℕ → ℕ → ℕ
short f at = get_or f at 0 + 256 * get_or f (at + 1) 0

-- ---- runs

-- length of the tape 2, length of the answer buffer 2, the tape; then, at numbers_at: stop 1, commands 2, read 2, written 2, the answers
abbrev pub tape_at : List ℕ → ℕ → List ℕ
tape_at f at = take (short f at) (drop (at + 4) f)

abbrev pub numbers_at : List ℕ → ℕ → ℕ
numbers_at f at = at + 4 + short f at

-- what a run gives is what is recorded
pub record RunRecorded (f : List ℕ) (at : ℕ) (x : Ran) : Type 0 where
  pub stop : x.stop ≡ get_or f at 0
  pub commands : x.commands ≡ short f (at + 1)
  pub read : x.read ≡ short f (at + 3)
  pub written : length x.bytes ≡ short f (at + 5)
  pub bytes : x.bytes ≡ take (short f (at + 5)) (drop (at + 7) f)

-- the model's run of the tape at `at` over the store s
unfoldable pub run_at : List ℕ → ℕ → Store → Ran
run_at f at s = run (tape_at f at) (short f (at + 2)) s

-- that run agrees, leaves the store s', and its record ends at e
pub record RunAgrees (f : List ℕ) (at : ℕ) (s : Store) (e : ℕ) (s' : Store) : Type 0 where
  pub same : RunRecorded f (numbers_at f at) (run_at f at s)
  pub store : s' ≡ (run_at f at s).store
  pub end : e ≡ numbers_at f at + 7 + short f (numbers_at f at + 5)

-- so do n runs, one after another
pub data RunsAgree (f : List ℕ) (at : ℕ) (s : Store) : ℕ → ℕ → Store → Type 0 where
  no_runs : RunsAgree f at s 0 at s
  more_runs : {n m e : ℕ} {s₁ s' : Store} → RunsAgree f at s n m s₁ → RunAgrees f m s₁ e s' → RunsAgree f at s (n + 1) e s'

-- ---- the roll

-- length 2, the roll
pub record RollAgrees (f : List ℕ) (at : ℕ) (s : Store) (e : ℕ) : Type 0 where
  pub bytes : snapshot s ≡ take (short f at) (drop (at + 2) f)
  pub end : e ≡ at + 2 + short f at

-- ---- the columns

-- the word at i is the number in its four bytes, lowest first
abbrev pub SameWord : List ℕ → List ℕ → ℕ → Type 0
SameWord w b i = get_or w i 0 ≡ number (take 4 (drop (4 * i) b))

-- words and their bytes, four each
pub record SameWords (w b : List ℕ) : Type 0 where
  pub size : length b ≡ 4 * length w
  pub each : (i : ℕ) → i < length w → SameWord w b i

-- n rows of kind k: *column* hands back its entities or its values, which are the bytes b, and has no row more
pub record SameColumn (s : Store) (k : ℕ) (values : Bool) (n : ℕ) (b : List ℕ) : Type 0 where
  pub known : number_of (column_refusal k 0 n s) ≡ 0
  pub last : number_of (column_refusal k 0 (n + 1) s) ≡ BEYOND
  pub words : SameWords (column values k 0 n s) b

-- kind 1, number of rows 2, their entities, their values, which have v bytes each
pub record ColumnAgrees (f : List ℕ) (at v : ℕ) (s : Store) (e : ℕ) : Type 0 where
  pub entities : SameColumn s (get_or f at 0) false (short f (at + 1)) (take (8 * short f (at + 1)) (drop (at + 3) f))
  pub values : SameColumn s (get_or f at 0) true (short f (at + 1)) (take (v * short f (at + 1)) (drop (at + 3 + 8 * short f (at + 1)) f))
  pub end : e ≡ at + 3 + 8 * short f (at + 1) + v * short f (at + 1)

pub data ColumnsAgree (f : List ℕ) (at v : ℕ) (s : Store) : ℕ → ℕ → Type 0 where
  no_columns : ColumnsAgree f at v s 0 at
  more_columns : {n m e : ℕ} → ColumnsAgree f at v s n m → ColumnAgrees f m v s e → ColumnsAgree f at v s (n + 1) e

-- ---- cases

-- what a start is told: N 2, K 1, bytes of a value 1; the older rule
abbrev pub told_at : List ℕ → ℕ → Settings
told_at f at = told (short f at) (get_or f (at + 2) 0) (get_or f (at + 3) 0) false

-- these, number of runs 1, the runs; the roll; number of registered kinds 1, their columns. A case starts on 8,192 words.
pub record CaseAgrees (f : List ℕ) (at e : ℕ) : Type 0 where
  -- the store after the runs, and where they and the roll end
  pub store : Store
  pub runs_end : ℕ
  pub roll_end : ℕ
  pub starts : start_with (told_at f at) 8192 ≡ makes (empty_with (told_at f at))
  pub runs : RunsAgree f (at + 5) (empty_with (told_at f at)) (get_or f (at + 4) 0) runs_end store
  pub roll : RollAgrees f runs_end store roll_end
  pub columns : ColumnsAgree f (roll_end + 1) (get_or f (at + 3) 0) store (get_or f roll_end 0) e

pub data CasesAgree (f : List ℕ) (at : ℕ) : ℕ → ℕ → Type 0 where
  no_cases : CasesAgree f at 0 at
  more_cases : {n m e : ℕ} → CasesAgree f at n m → CaseAgrees f m e → CasesAgree f at (n + 1) e
