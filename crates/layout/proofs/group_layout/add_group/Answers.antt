use mathlib.Core.Path.{refl, ◌∙◌, sym}
use Rattle.model.proofs.Lines.{staged_narrow}
use Rattle.layout.specs.ByValue.{layout_meaning}
use Rattle.layout.proofs.Fits.{fit_says, add_small, add_present, add_clash}
use Rattle.layout.proofs.group_layout.add_group.Goals as goal

pub returns-then-staged-lt2 : goal.returns-then-staged-lt2
returns-then-staged-lt2 c = record { formed = c.requires.0; says = sym (add_small c.args.staged.now (layout_meaning c.args.l) c.if-staged-lt2.true); kept = λ n. refl }

pub returns-in-Present : goal.returns-in-Present
returns-in-Present c =
    let hs = c.args.staged.now in
    let m = layout_meaning c.args.l in
    record {
      formed = c.requires.0;
      says = sym (add_present hs m c.if-staged-lt2.false (staged_narrow _ c.requires.2) (fit_says hs m _ (sym c.fit_of.ensures ∙ c.in-Present.is)));
      kept = λ n. refl;
    }

pub returns-in-Clash : goal.returns-in-Clash
returns-in-Clash c =
    let hs = c.args.staged.now in
    let m = layout_meaning c.args.l in
    record {
      formed = c.requires.0;
      says = sym (add_clash hs m c.if-staged-lt2.false (staged_narrow _ c.requires.2) (fit_says hs m _ (sym c.fit_of.ensures ∙ c.in-Clash.is)));
      kept = λ n. refl;
    }
