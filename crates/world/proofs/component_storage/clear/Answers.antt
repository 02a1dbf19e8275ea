use Rattle.world.proofs.Zeroing.{cleared_all}
use Rattle.world.proofs.component_storage.clear.Goals as goal

pub returns : goal.returns
returns c = cleared_all c.args.words.now c.clear_sets.new.words c.clear_counts.new.words c.clear_sets.ensures c.clear_counts.ensures
