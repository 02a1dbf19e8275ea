use Rattle.std.proofs.Common.{sym, ap, ◌∙◌, not, ne_eqb, eq-eqb, ◌+◌}
use native.Mathlib.Omega.{arith}
use Rattle.model.proofs.BoolLaws.{by-eq}
use Rattle.words.specs.Offsets.{TABLE, UNREGISTERED}
use Rattle.kinds.proofs.Slot.{slot_known, unknown, header_long}
use Rattle.kinds.proofs.is_registered.Goals as goal

pub word-requires : goal.word-requires
word-requires c = header_long c.args.words.now c.requires.arranged (TABLE + c.args.kind) (omega arith)

pub returns : goal.returns
returns c =
    let w = c.args.words.now in
    let A = c.requires.arranged in
    by-eq c.word.result UNREGISTERED
    (λ e. ap not (eq-eqb c.word.result UNREGISTERED e) ∙ sym (unknown w A c.args.kind c.requires.kind_bound (sym c.word.ensures.is ∙ e)))
    (λ ne. ap not (ne_eqb c.word.result UNREGISTERED ne) ∙ sym (slot_known w A c.args.kind c.requires.kind_bound (λ e. ne (c.word.ensures.is ∙ e))))
