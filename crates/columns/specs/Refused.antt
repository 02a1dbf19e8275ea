-- The number of a refusal where there may be none. Assumes nothing.
use Rattle.std.specs.Prelude.{ℕ, Option, Some, None}
use Rattle.model.specs.Codes.{refusal_code}
use Rattle.model.specs.declared.refusals.Refusal.{Refusal}

-- "An accepted entry gives number 0"
abbrev pub refusal_number : Option Refusal → ℕ
refusal_number None = 0
refusal_number (Some r) = refusal_code r
