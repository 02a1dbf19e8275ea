-- When a list takes no kind more. Assumes nothing.
use Rattle.std.specs.Prelude.{List, [], ◌∷◌, ℕ, leb, Option, Some, None}
use Rattle.std.proofs.Math.Option.{Option as Number, some, none}
use Rattle.model.specs.Numbers.{KIND, AGAIN, HANDFUL, LIST_CAPACITY}
use Rattle.model.specs.Model.{mem}
use Rattle.model.specs.Store.{Store}
use Rattle.model.specs.Refusals.{Line, line, unknown_kind}
use Rattle.model.specs.Codes.{refusal_code}
use Rattle.model.specs.declared.refusals.Refusal.{Refusal}

-- the number of the refusal, if there is one
abbrev pub number_of : Option Refusal → Number ℕ
number_of None = none
number_of (Some r) = some (refusal_code r)

-- the lines of HOLD and of BAR, of the list that each puts a kind into
abbrev pub list_lines : (Store → List ℕ) → (Store → ℕ) → ℕ → List (Line Store)
list_lines kinds count k =
    line KIND (unknown_kind k)
    ∷ line AGAIN (λ s. mem k (kinds s))
    ∷ line HANDFUL (λ s. leb LIST_CAPACITY (count s))
    ∷ []
