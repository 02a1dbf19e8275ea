use mathlib.Core.Path.{◌≡◌, ap, ap₂, ◌∙◌}
use mathlib.Core.List.{List}
use Prim.Native.Nat.{ℕ, ◌+◌, ◌*◌}
use lib.ListN.{get_or}
use Rattle.std.proofs.Common.{rules}
use Rattle.model.specs.Numbers.{TAKE_BYTE}
use Rattle.model.specs.Codes.{command_byte}
use Rattle.words.specs.Offsets.{VALUE_WIDTH}
use Rattle.memory.specs.Meaning.{meaning}
use Rattle.run.specs.Stepping.{answers}
use Rattle.run.proofs.Answers.{take_answer}
use Rattle.run.proofs.answer_bytes.Goals as goal

width_of : (w : List ℕ) (v : ℕ) → v ≡ get_or w VALUE_WIDTH 0 → v ≡ (meaning w).settings.value_bytes
unfolding meaning
width_of w v e = e

pub returns-then-eq : goal.returns-then-eq
returns-then-eq c =
    let b = command_byte c.args.command in
    let n = c.len.result in
    let is_take : b ≡ TAKE_BYTE = search rules in
    let entry : get_or c.args.rooms.now c.from.result 0 ≡ get_or answers b 0 = ap₂ (λ (l : List ℕ) (i : ℕ). get_or l i 0) c.requires.rooms_value c.from.ensures in
    λ ops. ap (λ (m : ℕ). m + (1 + c.word-each.result) * n) entry ∙ ap (λ (v : ℕ). get_or answers b 0 + (1 + v) * n) (width_of c.args.words.now c.word-each.result c.word-each.ensures.is)
    ∙ take_answer (meaning c.args.words.now) ops b n is_take c.len.ensures.is
