use Rattle.control.proofs.Control.{count_inside, count_read}
use Rattle.control.proofs.refusals.refusals.Goals as goal

pub bounds-words-c : goal.bounds-words-c
bounds-words-c c = count_inside c.args.words.now c.requires c.caller-c.result c.caller-c.ensures

pub returns : goal.returns
returns c = count_read c.args.words.now c.requires c.caller-c.result c.caller-c.ensures
