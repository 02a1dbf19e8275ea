-- What the functions of the replay promise: where they say that a part agrees, the model agrees with what is recorded. Assumes nothing.
use Rattle.std.specs.Prelude.{◌≡◌, Bool, true, cond, List, ℕ, ◌+◌, ◌≤◌, length, get_or, take, drop, Some}
use mir.Val.{bool_byte}
use Rattle.std.specs.Option.{option_or}
use Rattle.memory.specs.Arranged.{Sound}
use Rattle.run.specs.declared.Ran.{Ran}
use Rattle.store.specs.declared.Rolled.{Rolled}
use Rattle.replay.specs.declared.recorded.Step.{Step}
use Rattle.replay.specs.declared.Tally.{Tally}
use Rattle.replay.specs.Recorded.{short, CaseAgrees, CasesAgree}

-- what a run gave, with its answers at the front of the bytes o, is what is recorded at `at`
pub record GaveSame (f : List ℕ) (at : ℕ) (r : Ran) (o : List ℕ) : Type 0 where
  pub stop : r.stop ≡ get_or f at 0
  pub commands : r.commands ≡ short f (at + 1)
  pub read : r.read ≡ short f (at + 3)
  pub written : r.written ≡ short f (at + 5)
  pub bytes : take r.written (drop (at + 7) f) ≡ take r.written o

-- a comparison of it: it stays within the file, and where it agrees, it ends after the answers
pub record Compared (f : List ℕ) (at : ℕ) (q : Ran) (o : List ℕ) (r : Step) : Type 0 where
  pub within : r.at ≤ length f
  pub same : r.agrees ≡ true → GaveSame f at q o
  pub end : r.agrees ≡ true → r.at ≡ at + 7 + short f (at + 5)

-- what a roll gave is the bytes b
pub record RolledSame (b : List ℕ) (r : Rolled) (o : List ℕ) : Type 0 where
  pub number : r.number ≡ 0
  pub bytes : b ≡ take r.written o

-- a step from the words w to w': it stays within the file, and where it agrees, sound words stay sound, and P holds of the place after it
pub record StepAgrees (f w w' : List ℕ) (r : Step) (P : ℕ → Type 0) : Type 0 where
  pub within : r.at ≤ length f
  pub agreed : r.agrees ≡ true → Sound w → Sound w' × P r.at

-- the case at `at`, whatever the words held
pub record CaseStepped (f : List ℕ) (at : ℕ) (r : Step) : Type 0 where
  pub within : r.at ≤ length f
  pub agreed : r.agrees ≡ true → CaseAgrees f at r.at

-- one case more, which agrees or does not; `first` is the first that does not, if there is one
pub record CountedCase (t : Tally) (agrees : Bool) (r : Tally) : Type 0 where
  pub cases : r.cases ≡ t.cases + 1
  pub agree : r.agree ≡ t.agree + bool_byte agrees
  pub first : r.first ≡ cond agrees t.first (option_or t.first (Some (t.cases + 1)))

-- all cases of the file, n of them
pub record Replayed (f : List ℕ) (n : ℕ) (r : Tally) : Type 0 where
  pub cases : r.cases ≡ n
  pub few : r.agree ≤ r.cases
  -- where it says that all agree, they do
  pub end : ℕ
  pub all : r.agree ≡ r.cases → CasesAgree f 12 n end
