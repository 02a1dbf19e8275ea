use Rattle.run_command.proofs.Reading.{entity_read}
use Rattle.run_command.proofs.operands.entity.Goals as goal

pub returns : goal.returns
returns c = entity_read c.args.tape.now c.args.at c.requires c.get.ensures c.get-2.ensures
