use mathlib.Core.Path.{refl}
use Rattle.model.specs.Sound.{Limits}
use Rattle.model.proofs.Widths.{width_most}
use Rattle.words.proofs.Decides.{granted, denied}
use Rattle.std.proofs.lemmas.Bool.{not_from_false, not_from_true}
use Rattle.store.proofs.words_needed_with.Goals as goal

pub returns-then-not-within_limits : goal.returns-then-not-within_limits
returns-then-not-within_limits c =
    let a = c.args in
    record {
      within = λ l. absurd (denied {P = Limits a.n a.k a.v} c.within_limits.result c.within_limits.ensures (not_from_false _ c.if-not-within_limits.true) l);
      outside = λ f. refl;
    }

pub words_needed-requires : goal.words_needed-requires
words_needed-requires c =
    let a = c.args in
    let l : Limits a.n a.k a.v = granted {P = Limits a.n a.k a.v} c.within_limits.result c.within_limits.ensures (not_from_true _ c.if-not-within_limits.false) in
    (l.most, l.most_kinds, width_most a.v l.width)

pub returns : goal.returns
returns c =
    let a = c.args in
    record {
      within = λ l. c.words_needed.ensures;
      outside = λ f. absurd (f (granted {P = Limits a.n a.k a.v} c.within_limits.result c.within_limits.ensures (not_from_true _ c.if-not-within_limits.false)));
    }
