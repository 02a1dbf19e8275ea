use Rattle.command.proofs.Acts.{accepted_by}
use Rattle.memory.specs.Meaning.{meaning}
use Rattle.model.proofs.Outcomes.{tally_does}
use Rattle.memory.proofs.Becomes.{stays}
use Rattle.command_list.proofs.callers.tally.Goals as goal

pub returns : goal.returns
returns c = accepted_by (tally_does (meaning c.args.words.now)) (stays c.requires.sound.arranged) (rw c.refusals-count.ensures at c.ack_number.ensures)
