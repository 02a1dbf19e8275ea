-- "Job sheets list the wide group first as often as the narrow one": the groups of a sheet as commands, and when none of them is refused. Assumes nothing.
use Rattle.std.specs.Prelude.{◌≡◌, List, [], ◌∷◌, ◌++◌, map, ℕ}
use Rattle.model.specs.Model.{Component, kind_of}
use Rattle.model.specs.Listed.{listed}
use Rattle.model.specs.Store.{Store, with_control, with_draft}
use Rattle.model.specs.Commands.{Command, GROUP}
use Rattle.model.specs.Run.{does, refuses}
use Rattle.model.specs.Sound.{StagedSound}
use Rattle.tapes.specs.Tapes.{after_one}
use Rattle.tapes.specs.Built.{hold_commands}

-- for each group a HOLD of each of its kinds, with any values, then GROUP
abbrev pub sheet_commands : List (List Component) → List Command
sheet_commands [] = []
sheet_commands (h ∷ hs) = hold_commands h ++ (GROUP ∷ sheet_commands hs)

-- the sheet's groups
abbrev pub sheet_groups : List (List Component) → List (List ℕ)
sheet_groups hs = map (map kind_of) hs

-- each is a hand that commands can build, its values of v bytes
abbrev pub SheetSound : ℕ → List ℕ → List (List Component) → Type 0
SheetSound v kinds [] = Unit {0}
SheetSound v kinds (h ∷ hs) = StagedSound v kinds h × SheetSound v kinds hs

-- no command is refused, each in the store that those before it leave
abbrev pub NoneRefused : List Command → Store → Type 0
NoneRefused [] s = Unit {0}
NoneRefused (c ∷ cs) s = ((n : ℕ) → does c s ≡ refuses n → ⊥) × NoneRefused cs (after_one c s)

-- 02, No. 1: "A draft built from the same groups in another order accepts all of them too and gives the same families" (the same groups: the hands of two
-- kinds or more, as sets). Of the sheet js, which in the store s leaves u, beside a sheet that leaves t there: no command is refused, the drafts have the same
-- list, and nothing else differs
pub record SameSheet (js : List (List Component)) (s t u : Store) : Type 0 where
  pub accepted : NoneRefused (sheet_commands js) s
  pub same : listed u.control.draft ≡ listed t.control.draft
  pub rest : u ≡ with_control t (with_draft t.control u.control.draft)
