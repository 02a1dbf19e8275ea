use mathlib.Core.Path.{sym, ◌∙◌, ◌≡◌, refl}
use mathlib.Core.Bool.{false≢true, true}
use Rattle.std.specs.Prelude as std
use Rattle.std.specs.Option.{option_eq}
use Rattle.model.specs.Numbers.{BEYOND}
use Rattle.model.specs.declared.refusals.Refusal.{Refusal}
use Rattle.model.specs.declared.refusals.Refusal.TheVariants as refusals
use Rattle.model.specs.contracts.refusals.RefusalPartialEq.TheImpl.{eq-value}
use Rattle.words.proofs.Decides.{yes_of}
use Rattle.columns.specs.Refused.{refusal_number}
use Rattle.columns.proofs.Refused.{none_accepted}
use Rattle.replay.proofs.Agreeing.{same_column}
use Rattle.replay.proofs.compare.is_same_column.Goals.{then-is_none, else-is_none}
use Rattle.replay.proofs.compare.is_same_column.Goals as goal

-- what is equal to the refusal of what lies beyond has its number
beyond_number : (r : std.Option Refusal) → option_eq eq-value.it r (std.Some refusals.Beyond) ≡ true → refusal_number r ≡ BEYOND
beyond_number std.None q = absurd (false≢true q)
beyond_number (std.Some refusals.Size) q = absurd (false≢true q)
beyond_number (std.Some refusals.Short) q = absurd (false≢true q)
beyond_number (std.Some refusals.Unsound) q = absurd (false≢true q)
beyond_number (std.Some refusals.Unknown) q = absurd (false≢true q)
beyond_number (std.Some refusals.Cut) q = absurd (false≢true q)
beyond_number (std.Some refusals.NoRoom) q = absurd (false≢true q)
beyond_number (std.Some refusals.Kind) q = absurd (false≢true q)
beyond_number (std.Some refusals.Kinds) q = absurd (false≢true q)
beyond_number (std.Some refusals.Again) q = absurd (false≢true q)
beyond_number (std.Some refusals.Handful) q = absurd (false≢true q)
beyond_number (std.Some refusals.Dead) q = absurd (false≢true q)
beyond_number (std.Some refusals.Full) q = absurd (false≢true q)
beyond_number (std.Some refusals.Clash) q = absurd (false≢true q)
beyond_number (std.Some refusals.Many) q = absurd (false≢true q)
beyond_number (std.Some refusals.Beyond) q = refl
beyond_number (std.Some refusals.Caller) q = absurd (false≢true q)

pub returns-then-eq : goal.returns-then-eq
returns-then-eq c =
    let a = c.args in
    elim c.if-is_none.branch [
      | then-is_none w ↦ λ e S.
          same_column a.words c.column.result a.kind a.length (refusal_number c.column_number.result) (refusal_number w.column_number-then-is_none.result) a.values a.bytes.now S
          c.column_number.ensures (none_accepted c.column_number.result (rw w.if-is_none.true at c.is_none.ensures)) w.column_number-then-is_none.ensures
          (beyond_number w.column_number-then-is_none.result (sym w.eq.ensures ∙ sym w.value-is ∙ c.if-eq.true)) c.column.ensures
          (yes_of c.are_same_words.result c.are_same_words.ensures e)
      | else-is_none w ↦ absurd (false≢true (sym w.if-is_none.false ∙ sym w.value-is ∙ c.if-eq.true))
    ]
