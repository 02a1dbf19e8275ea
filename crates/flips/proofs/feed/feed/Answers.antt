use Rattle.flips.proofs.Keeping.{kept}
use Rattle.flips.proofs.feed.feed.Goals as goal

pub returns : goal.returns
returns c = kept c.run-ran.ensures
