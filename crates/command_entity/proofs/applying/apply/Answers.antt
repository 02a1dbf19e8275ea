use Rattle.command.proofs.Acts.{accepted_by}
use Rattle.command_entity.proofs.Made.{applies}
use Rattle.memory.specs.Meaning.{meaning}
use Rattle.command_entity.proofs.applying.apply.Goals as goal

pub returns : goal.returns
returns c = accepted_by (applies (meaning c.args.words.now)) c.set_layout.ensures c.ack.ensures
