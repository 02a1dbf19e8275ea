use Rattle.command_list.proofs.Known.{slots_told}
use Rattle.command_list.proofs.registering.no_slot.Goals as goal

pub returns : goal.returns
returns c = slots_told c.args.words.now c.word.result c.word-2.result c.word.ensures.is c.word-2.ensures.is
