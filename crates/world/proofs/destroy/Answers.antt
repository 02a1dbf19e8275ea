use Rattle.world.proofs.Lifetimes.{destroyed_whole}
use Rattle.model.specs.Model.{entity}
use Rattle.world.proofs.destroy.Goals as goal

pub returns : goal.returns
returns c =
    destroyed_whole c.args.words.now (entity c.args.e.index c.args.e.version) c.strip.new.words c.strip.ensures c.destroy.new.words c.destroy.ensures
