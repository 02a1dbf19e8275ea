use mathlib.Core.Path.{◌∙◌, sym}
use mathlib.Core.List.{[]}
use Rattle.layout.proofs.Family.{kinds_from_law}
use Rattle.layout.proofs.Propositions.{rising_of}
use Rattle.layout.proofs.group_layout.Family.part_of.Goals as goal

pub returns-then-not-some_among : goal.returns-then-not-some_among
returns-then-not-some_among c =
    rw (sym c.has_group.ensures ∙ c.if-has_group.false, kinds_from_law [] 0 c.args.self.now.kinds.now 0 c.args.self.now.arities.now (rising_of _ _ c.args.self.now.rising), sym c.some_among.ensures ∙ c.if-not-some_among.true)

pub returns : goal.returns
returns c =
    rw (sym c.has_group.ensures ∙ c.if-has_group.false, kinds_from_law [] 0 c.args.self.now.kinds.now 0 c.args.self.now.arities.now (rising_of _ _ c.args.self.now.rising), sym c.some_among.ensures ∙ c.if-not-some_among.false) c.place_of.ensures
