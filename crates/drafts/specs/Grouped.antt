-- What GROUP does, said of groups as sets of kinds. Assumes nothing.
use Rattle.std.specs.Prelude.{◌≡◌, ◌↔◌, ◌⊎◌, true, false, List, [], ◌∷◌, ℕ, ◌≤◌, ◌<◌, length, take}
use Rattle.model.specs.Numbers.{CLASH, MANY, MAX_GROUP_COUNT, WIDE}
use Rattle.model.specs.Model.{groups_of}
use Rattle.model.specs.Store.{Store, staged_kinds}
use Rattle.model.specs.Commands.{GROUP}
use Rattle.model.specs.Run.{does, accepts}
use Rattle.model.specs.Forms.{all_groups, has_group, SameGroups, Forms}
use Rattle.model.specs.Theorems.{DraftSound}

-- the draft's groups
abbrev pub of_draft : Store → List (List ℕ)
of_draft s = all_groups s.control.draft

-- the draft's groups, and the hand with them
abbrev pub of_draft_and_staged : Store → List (List ℕ)
of_draft_and_staged s = staged_kinds s ∷ of_draft s

-- GROUP is accepted and answers a: "1 added or 0 nothing added"
pub record Answers (s : Store) (a : ℕ) : Type 0 where
  pub store : Store
  pub outcome : does GROUP s ≡ accepts store (a ∷ [])

-- "added": the draft's groups are those of before and the hand; the hand is emptied
pub record Adds (s s' : Store) : Type 0 where
  pub groups : SameGroups (of_draft s') (of_draft_and_staged s)
  pub sound : DraftSound s'.kinds s'.control.draft
  pub emptied : s'.control.staged ≡ []

-- a hand of two kinds or more that with the draft's groups forms no layout
pub record Clashing (s : Store) : Type 0 where
  pub two : 2 ≤ length (staged_kinds s)
  pub none : Forms (of_draft_and_staged s) → ⊥

-- one that forms a layout with them and is none of them
pub record Joining (s : Store) : Type 0 where
  pub two : 2 ≤ length (staged_kinds s)
  pub new : has_group (staged_kinds s) (of_draft s) ≡ false
  pub forms : Forms (of_draft_and_staged s)

-- what GROUP tells and does in the store s: l are the run's answer bytes from its own on, s' is the store after it. "1 added or 0 nothing added" after a 0
-- byte, or the number of the refusal, of which 13 is none (02, No. 3: "WIDE then never occurs"); "03 to 06, 09 and 0C, when accepted, empty the hand"
pub record GroupTold (s s' : Store) (l : List ℕ) : Type 0 where
  pub wide : take 1 l ≡ WIDE ∷ [] → ⊥
  pub clashes : (take 1 l ≡ CLASH ∷ []) ↔ Clashing s
  pub many : (take 1 l ≡ MANY ∷ []) ↔ (Joining s × (MAX_GROUP_COUNT ≤ groups_of s.control.draft))
  pub added : (take 2 l ≡ 0 ∷ 1 ∷ []) ↔ (Joining s × (groups_of s.control.draft < MAX_GROUP_COUNT))
  pub nothing : (take 2 l ≡ 0 ∷ 0 ∷ []) ↔ ((length (staged_kinds s) < 2) ⊎ (has_group (staged_kinds s) (of_draft s) ≡ true))
  pub adds : take 2 l ≡ 0 ∷ 1 ∷ [] → Adds s s'
  pub keeps : (take 2 l ≡ 0 ∷ 1 ∷ [] → ⊥) → s'.control.draft ≡ s.control.draft
  pub empties : take 1 l ≡ 0 ∷ [] → s'.control.staged ≡ []
