use mathlib.Core.Path.{sym, subst}
use Rattle.model.specs.Sound.{In}
use Rattle.memory.specs.Meaning.{meaning}
use Rattle.group.proofs.Order.{order_known}
use Rattle.group.proofs.in_words.InWordsLookups.find.Goals as goal

pub find-requires-clause-kind_known : goal.find-requires-clause-kind_known
find-requires-clause-kind_known c =
    let w = c.args.words.now in
    subst (In (meaning w).kinds) (sym c.kind_at-kind.ensures) (order_known w c.requires.arranged c.args.place c.requires.place_in_bounds)
