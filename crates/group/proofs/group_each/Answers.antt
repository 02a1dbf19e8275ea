use mathlib.Core.Path.{◌≡◌, ap, ◌∙◌}
use borrow.Author.Rules.{rules}
use lib.ListN.{drop}
use Rattle.masks.specs.Masks.{bits_of}
use Rattle.memory.specs.Meaning.{meaning}
use Rattle.group.proofs.Each.{none_grouped}
use Rattle.group.proofs.group_each.Goals as goal

pub returns-then-eq : goal.returns-then-eq
returns-then-eq c =
    let a = c.args in
    let q : a.mask.0 ≡ c.empty.result.0 = search rules in
    none_grouped a.words.now (bits_of 64 a.mask.0) (drop a.start (meaning a.words.now).entities.live) c.requires.arranged (ap (bits_of 64) q ∙ c.empty.ensures)
