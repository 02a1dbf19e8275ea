use Rattle.command.proofs.Acts.{accepted_by}
use Rattle.memory.specs.Meaning.{meaning}
use Rattle.model.proofs.Outcomes.{empty_does}
use Rattle.command_list.proofs.lists.empty.Goals as goal

pub returns : goal.returns
returns c = accepted_by (empty_does (meaning c.args.words.now)) c.clear_lists.ensures c.ack.ensures
