use mathlib.Core.Path.{refl, ◌∙◌, sym, ap}
use native.Mathlib.Omega.{arith}
use borrow.Author.Rules.{rules}
use Rattle.model.specs.Adding.{added}
use Rattle.layout.specs.ByValue.{arrays_of, ArraysSized, layout_meaning}
use Rattle.layout.proofs.Fits.{fit_says, fresh_many, fresh_added}
use Rattle.layout.proofs.Adding.{told_full, told_room, group_kinds, counted_groups, fresh_ask}
use Rattle.layout.proofs.group_layout.add_fresh.Goals as goal

pub returns-then-has_most_groups : goal.returns-then-has_most_groups
returns-then-has_most_groups c =
    let z : ArraysSized (arrays_of c.args.l) = search rules in
    let p = c.requires in
    record {
      formed = p.formed;
      says = sym (fresh_many c.args.staged.now (layout_meaning c.args.l) p.least p.most (fit_says _ _ _ p.fits) (omega (arith, counted_groups c.args.l p.formed z, told_full _ c.args.l.groups _ c.has_most_groups.ensures c.if-has_most_groups.true)));
      kept = λ n. refl;
    }

pub fresh-requires : goal.fresh-requires
fresh-requires c =
    let z : ArraysSized (arrays_of c.args.l) = search rules in
    fresh_ask c.args.l c.args.staged.now (group_kinds _ _ _ c.requires (told_room _ c.args.l.groups _ c.has_most_groups.ensures c.if-has_most_groups.false)) z (fit_says _ _ _ c.requires.fits)

pub returns : goal.returns
returns c =
    let z : ArraysSized (arrays_of c.args.l) = search rules in
    let p = c.requires in
    let r = c.fresh.ensures in
    record {
      formed = r.formed;
      says = ap added r.means ∙ sym (fresh_added c.args.staged.now (layout_meaning c.args.l) p.least p.most (fit_says _ _ _ p.fits) (omega (arith, counted_groups c.args.l p.formed z, told_room _ c.args.l.groups _ c.has_most_groups.ensures c.if-has_most_groups.false)));
      kept = λ n. absurd (n refl);
    }
