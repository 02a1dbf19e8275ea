use mathlib.Core.Path.{sym, subst}
use lib.ListN.{length}
use Rattle.layout.specs.ByValue.{arrays_of, ArraysSized}
use Rattle.layout.specs.Grow.{FillAsk, FillDone}
use Rattle.layout.specs.declared.group_layout.Layout.{Layout}
use Rattle.layout.proofs.Adding.{few, fresh_places, fresh_done}
use native.Mathlib.Omega.{arith}
use borrow.Author.Rules.{rules}
use Rattle.layout.proofs.group_layout.fresh.Goals as goal

pub opened-requires : goal.opened-requires
opened-requires c =
    let z : ArraysSized (arrays_of c.args.l) = search rules in
    let g = c.requires.group.formed in
    (few c.args.l c.args.staged.now c.requires z, omega (arith, g.width, g.good.wide), omega (arith, c.requires.group.room))

pub filled-requires : goal.filled-requires
filled-requires c =
    let z : ArraysSized (arrays_of c.args.l) = search rules in
    subst (λ (r : Layout). FillAsk r c.args.l.families c.args.staged.now 0 (length c.args.staged.now)) (sym c.opened.ensures) (fresh_places c.args.l c.args.staged.now c.requires z)

pub returns : goal.returns
returns c =
    let z : ArraysSized (arrays_of c.args.l) = search rules in
    fresh_done c.args.l c.args.staged.now c.requires z c.filled.result
    (subst (λ (r : Layout). FillDone r c.args.l.families c.args.staged.now 0 (length c.args.staged.now) c.filled.result) c.opened.ensures c.filled.ensures)
