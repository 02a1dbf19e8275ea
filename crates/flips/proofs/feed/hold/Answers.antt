use Rattle.std.proofs.Common.{refl, ◌∙◌}
use Rattle.flips.proofs.feed.hold.Goals as goal

pub loop-kind-init : goal.loop-kind-init
loop-kind-init c = ((λ S. S), refl)

pub loop-kind-preserved : goal.loop-kind-preserved
loop-kind-preserved c = ((λ S. c.feed.ensures (c.loop-kind.invariant.0 S)), c.feed.auto.words ∙ c.loop-kind.invariant.1)

pub shape_of-words : goal.shape_of-words
shape_of-words c = c.loop-kind.invariant.1

pub returns : goal.returns
returns c = c.loop-kind.invariant.0
