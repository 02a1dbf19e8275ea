use Rattle.memory.specs.Meaning.{meaning}
use Rattle.world.proofs.Removing.{staged_in_law}
use Rattle.world.proofs.mask.mask_at.Goals as goal

pub kind_mask-requires-clause-kind_known : goal.kind_mask-requires-clause-kind_known
kind_mask-requires-clause-kind_known c =
    staged_in_law (meaning c.args.words.now) c.requires.staged.known c.args.i c.staged_kind-kind.result c.requires.i_in_bounds c.staged_kind-kind.ensures
