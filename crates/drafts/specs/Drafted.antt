-- Drafts made by GROUPs of hands, one after another; what "in another order" says. Assumes nothing.
use Rattle.std.specs.Prelude.{◌≡◌, cond, List, [], ◌∷◌, ◌++◌, ℕ, ◌<◌, ltb, length}
use Rattle.std.proofs.Math.Option.{Option, some, none}
use Rattle.model.specs.Numbers.{MAX_KINDS}
use Rattle.model.specs.Model.{Family}
use Rattle.model.specs.Adding.{Added, nothing, added, refused, add_group}
use Rattle.model.specs.Forms.{all_groups, SameGroups}
use Rattle.model.specs.Listed.{listed}
use Rattle.model.specs.Sound.{In, Distinct}
use Rattle.model.specs.Theorems.{DraftSound}

-- ---- GROUPs

-- what a GROUP leaves, and what follows from it; none where it is refused
abbrev pub and_then : Added → List Family → (List Family → Option (List Family)) → Option (List Family)
and_then nothing fs go = go fs
and_then (added gs) fs go = go gs
and_then (refused n) fs go = none

-- the draft fs after a GROUP of each hand in turn; none where one is refused
abbrev pub drafted : List (List ℕ) → List Family → Option (List Family)
drafted [] fs = some fs
drafted (h ∷ hs) fs = and_then (add_group h fs) fs (drafted hs)

-- ---- hands

-- "A kind is a number 0 to 127."
abbrev pub Small : List ℕ → Type 0
Small ks = (k : ℕ) → In ks k → k < MAX_KINDS

-- "hand, bar .. of registered kinds, such as commands can build": distinct kinds. The theorems need no bound on how many: fewer than two, or more than a
-- hand can have, are let in
pub record StagedKindsSound (kinds h : List ℕ) : Type 0 where
  pub once : Distinct h
  pub known : (k : ℕ) → In h k → In kinds k

-- each hand of the list is such
abbrev pub AllStagedKindsSound : List ℕ → List (List ℕ) → Type 0
AllStagedKindsSound kinds [] = Unit {0}
AllStagedKindsSound kinds (h ∷ hs) = StagedKindsSound kinds h × AllStagedKindsSound kinds hs

-- "A new group of fewer than two kinds .. adds nothing": the other hands
abbrev pub two_or_more : List (List ℕ) → List (List ℕ)
two_or_more [] = []
two_or_more (h ∷ hs) = let r = two_or_more hs in cond (ltb (length h) 2) r (h ∷ r)

-- ---- what the theorems say

-- the draft gs is one that commands can build, and its groups are those of fs and the hands of two or more kinds
pub record DraftOf (kinds : List ℕ) (hs : List (List ℕ)) (fs gs : List Family) : Type 0 where
  pub sound : DraftSound kinds gs
  pub groups : SameGroups (all_groups gs) (two_or_more hs ++ all_groups fs)

-- 02, No. 1: "A draft built from the same groups in another order accepts all of them too and gives the same families" (the same groups: the hands of two
-- kinds or more, as sets): none of the hands js is refused, and the draft's groups have the same list as those of fs
pub record SameDraft (js : List (List ℕ)) (start fs : List Family) : Type 0 where
  pub draft : List Family
  pub accepted : drafted js start ≡ some draft
  pub same : listed draft ≡ listed fs
