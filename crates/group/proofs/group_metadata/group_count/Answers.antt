use mathlib.Core.Path.{sym, ◌∙◌}
use Rattle.group.proofs.InWords.{groups_are}
use Rattle.group.proofs.group_metadata.group_count.Goals as goal

pub returns : goal.returns
returns c = c.word.ensures.is ∙ sym (groups_are c.args.words.now c.requires)
