use Rattle.command.proofs.Acts.{accepted_by}
use Rattle.memory.specs.Meaning.{meaning}
use Rattle.command_entity.proofs.Made.{wiped}
use Rattle.command_entity.proofs.components.wipe.Goals as goal

pub returns : goal.returns
returns c = accepted_by (wiped (meaning c.args.words.now)) c.clear.ensures c.ack.ensures
