use mathlib.Core.Path.{refl, sym, ◌∙◌}
use borrow.Author.Tests.{ne_eqb}
use Rattle.entity.proofs.Lookups.{length_recycled, issued_is}
use Rattle.entity.proofs.ModelSteps.{full_waiting}
use Rattle.entity.specs.Meaning.{entities_of}
use Rattle.entity.proofs.entity_part.EntityPart.is_full.Goals as goal

pub returns-then-self-eq0 : goal.returns-then-self-eq0
returns-then-self-eq0 c =
    let p = c.args.self.now in
    let none = length_recycled p.capacity p.part.now ∙ c.if-self-eq0.true in
    rw (none, issued_is p.capacity p.part.now) refl

pub returns-else-self-eq0 : goal.returns-else-self-eq0
returns-else-self-eq0 c =
    let p = c.args.self.now in
    ne_eqb _ 0 c.if-self-eq0.false ∙ full_waiting (entities_of p.capacity p.part.now) p.capacity (λ e. c.if-self-eq0.false (sym (length_recycled p.capacity p.part.now) ∙ e))
