use mathlib.Core.Logic.{inl, inr}
use native.Mathlib.Omega.{arith}
use Rattle.entity.proofs.Lookups.{found_at, found_nothing}
use Rattle.entity.proofs.entity_part.EntityPart.get.Goals as goal

pub returns-then-self-index : goal.returns-then-self-index
returns-then-self-index c =
    let p = c.args.self.now in
    found_nothing p.capacity p.part.now p.sound c.args.e.index c.args.e.version (λ hx hv e. elim c.then-self-index.either [ inl l ↦ omega arith | inr r ↦ omega arith ])

pub returns-then-self-slot : goal.returns-then-self-slot
returns-then-self-slot c =
    let p = c.args.self.now in
    found_nothing p.capacity p.part.now p.sound c.args.e.index c.args.e.version (λ hx hv e. c.if-self-slot.true e)

pub returns : goal.returns
returns c =
    let p = c.args.self.now in
    found_at p.capacity p.part.now p.sound c.args.e.index c.args.e.version (omega arith) (omega arith) c.if-self-slot.false
