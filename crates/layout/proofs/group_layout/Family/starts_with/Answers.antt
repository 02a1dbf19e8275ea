use mathlib.Core.Path.{◌∙◌, sym}
use borrow.Author.Tests.{eq-eqb, ne_eqb}
use lib.ListN.{length, take}
use lib.Seq.{length-take-le}
use Rattle.layout.proofs.KindSets.{same_set_law, set_take}
use Rattle.layout.proofs.group_layout.Family.starts_with.Goals as goal

pub returns-then-a-staged : goal.returns-then-a-staged
returns-then-a-staged c =
    let p = c.requires in
    let a = c.args in
    let e = length-take-le a.a a.self.now.kinds.now p.inside in
    c.all_among.ensures ∙ sym (same_set_law a.staged.now (take a.a a.self.now.kinds.now) p.staged_once (set_take a.a a.self.now.kinds.now a.self.now.once) ∙ rw (e, eq-eqb a.a (length a.staged.now) c.if-a-staged.true))

pub returns-else-a-staged : goal.returns-else-a-staged
returns-else-a-staged c =
    let p = c.requires in
    let a = c.args in
    let e = length-take-le a.a a.self.now.kinds.now p.inside in
    sym (same_set_law a.staged.now (take a.a a.self.now.kinds.now) p.staged_once (set_take a.a a.self.now.kinds.now a.self.now.once) ∙ rw (e, ne_eqb a.a (length a.staged.now) c.if-a-staged.false))
