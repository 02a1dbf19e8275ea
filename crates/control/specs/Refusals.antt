-- The caller, and what counting a refusal does. Assumes nothing.
use Rattle.std.specs.Prelude.{◌≡◌, List, ℕ, ◌≤◌}
use Rattle.model.specs.Store.{with_control, counted}
use Rattle.model.specs.Numbers.{LAST_CALLER}
use Rattle.memory.specs.Header.{caller_of}
use Rattle.memory.specs.Meaning.{meaning, with_refusal}
use Rattle.memory.specs.Arranged.{Becomes}

-- 02, No. 7: "a sound one a caller of 0 to 15"
pub record Caller (w : List ℕ) (r : ℕ) : Type 0 where
  pub is : r ≡ (meaning w).control.counts.caller
  pub word : r ≡ caller_of w
  pub low : r ≤ LAST_CALLER

-- "7 to 15 in a run .. add to the tally, change no other word", and so 19: of the model's store, and of the words
pub record CountsRefusal (w w' : List ℕ) : Type 0 where
  pub becomes : Becomes w w' (with_control (meaning w) (counted (meaning w).control))
  pub word : w' ≡ with_refusal w
