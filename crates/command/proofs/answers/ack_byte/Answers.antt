use native.Mathlib.Numerals.{towards_suc}
use mathlib.Core.Path.{refl}
use Rattle.command.proofs.answers.ack_byte.Goals as goal

pub returns : goal.returns
returns c = record { bytes = simp towards_suc; count = refl }
