use Rattle.soundness.proofs.Whole.{forced}
use Rattle.soundness.proofs.has_counts.Goals as goal

pub are_counts-requires-clause-force : goal.are_counts-requires-clause-force
are_counts-requires-clause-force c = rw c.shape_of-z.ensures.is (forced c.args.words.now c.requires.grounded.size c.requires.grounded.parts c.requires.layout_ok.block)

pub returns : goal.returns
returns c = rw c.shape_of-z.ensures.is at c.are_counts.ensures
