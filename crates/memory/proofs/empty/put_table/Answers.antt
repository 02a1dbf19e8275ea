use borrow.Author.Rules.{rules}
use Rattle.memory.proofs.Steps.{tabled}
use Rattle.memory.proofs.empty.put_table.Goals as goal

pub returns : goal.returns
returns c = tabled c.args.words.now c.copy_from_slice.new.self c.requires (search rules) (cc)
