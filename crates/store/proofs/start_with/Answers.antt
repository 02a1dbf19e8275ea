use native.Mathlib.Omega.{arith}
use lib.ListN.{length}
use Rattle.model.specs.Store.{told}
use Rattle.model.specs.Sound.{Limits}
use Rattle.model.proofs.Widths.{width_most}
use Rattle.words.proofs.Decides.{granted, denied}
use Rattle.words.proofs.Offsets.{column_start_needed}
use Rattle.store.proofs.Starting.{start_size, start_short, refused_start, made_start}
use Rattle.std.proofs.lemmas.Bool.{not_from_false, not_from_true}
use Rattle.store.proofs.start_with.Goals as goal

pub returns-then-not-within_limits : goal.returns-then-not-within_limits
returns-then-not-within_limits c =
    let a = c.args in
    rw c.from.ensures (refused_start (told a.n a.k a.v a.newer) 1 a.words.now (start_size (told a.n a.k a.v a.newer) (length a.words.now) (denied {P = Limits a.n a.k a.v} c.within_limits.result c.within_limits.ensures (not_from_false _ c.if-not-within_limits.true))))

pub words_needed-requires : goal.words_needed-requires
words_needed-requires c =
    let a = c.args in
    let l : Limits a.n a.k a.v = granted {P = Limits a.n a.k a.v} c.within_limits.result c.within_limits.ensures (not_from_true _ c.if-not-within_limits.false) in
    (l.most, l.most_kinds, width_most a.v l.width)

pub returns-then-words-words_needed : goal.returns-then-words-words_needed
returns-then-words-words_needed c =
    let a = c.args in
    let l : Limits a.n a.k a.v = granted {P = Limits a.n a.k a.v} c.within_limits.result c.within_limits.ensures (not_from_true _ c.if-not-within_limits.false) in
    rw c.from-then-words-words_needed.ensures (refused_start (told a.n a.k a.v a.newer) 2 a.words.now (start_short (told a.n a.k a.v a.newer) (length a.words.now) l (omega (arith, c.words_needed.ensures, c.if-words-words_needed.true))))

pub make-requires : goal.make-requires
make-requires c =
    let a = c.args in
    let l : Limits a.n a.k a.v = granted {P = Limits a.n a.k a.v} c.within_limits.result c.within_limits.ensures (not_from_true _ c.if-not-within_limits.false) in
    record { limits = l; k_in_bounds = omega (arith, c.words_needed.ensures, c.if-words-words_needed.false, column_start_needed a.n a.k a.v) }

pub shape_of-words : goal.shape_of-words
shape_of-words c = c.make.auto.words

pub returns : goal.returns
returns c =
    let a = c.args in
    let l : Limits a.n a.k a.v = granted {P = Limits a.n a.k a.v} c.within_limits.result c.within_limits.ensures (not_from_true _ c.if-not-within_limits.false) in
    made_start (told a.n a.k a.v a.newer) a.words.now c.make.new.words l (omega (arith, c.words_needed.ensures, c.if-words-words_needed.false)) c.make.ensures
