-- 02, No. 4: what TRAY answers and leaves; "that many NEWs, each with the same hand", as commands. Assumes nothing.
use Rattle.std.specs.Prelude.{◌≡◌, List, [], ◌∷◌, ◌++◌, ℕ, zero, suc, ◌+◌, ◌≤◌, ◌<◌, length, take}
use Rattle.model.specs.Numbers.{FULL}
use Rattle.model.specs.Model.{Component, free_numbers}
use Rattle.model.specs.Store.{Store, bytes_of, with_control, empty_staged, counted}
use Rattle.model.specs.Commands.{Command, NEW}
use Rattle.tapes.specs.Tapes.{after_all}
use Rattle.tapes.specs.Built.{hold_commands}

-- n more: before each the hand h is held again
abbrev pub more_news : ℕ → List Component → List Command
more_news zero h = []
more_news (suc n) h = hold_commands h ++ (NEW ∷ more_news n h)

-- n of them: the first with the hand as it stands, which is h
abbrev pub news_with : ℕ → List Component → List Command
news_with zero h = []
news_with (suc n) h = NEW ∷ more_news n h

-- "the numbers waiting and those not yet issued"
abbrev pub free_in : Store → ℕ
free_in s = free_numbers s.settings.capacity s.entities

-- a TRAY of n in the store s leaves t and answers at the front of a
pub record TrayTold (n : ℕ) (s t : Store) (a : List ℕ) : Type 0 where
  -- "12 if the numbers waiting and those not yet issued are together fewer than the count, and then no card is made": the caller's refusal count alone differs
  pub full : free_in s < n → (take 1 a ≡ FULL ∷ []) × (t ≡ with_control s (counted s.control))
  -- "Answer: 0 and the count, 2 bytes."
  pub answer : n ≤ free_in s → take 3 a ≡ 0 ∷ bytes_of 2 n
  -- "From a count of 1 up, the store afterwards equals that many NEWs, each with the same hand, row order included."
  pub news : 1 ≤ n → n ≤ free_in s → t ≡ after_all (news_with n s.control.staged) s
  -- as many live ones more, and no refusal counted
  pub made : n ≤ free_in s → (length t.entities.live ≡ length s.entities.live + n) × (t.control.counts ≡ s.control.counts)
  -- "Count 0 empties the hand and does nothing else."
  pub none : n ≡ 0 → t ≡ with_control s (empty_staged s.control)
