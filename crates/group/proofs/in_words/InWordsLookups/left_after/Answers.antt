use Rattle.memory.specs.Meaning.{meaning}
use Rattle.group.proofs.Stepping.{skip_ordered}
use Rattle.group.proofs.in_words.InWordsLookups.left_after.Goals as goal

pub skip_from_to-requires : goal.skip_from_to-requires
skip_from_to-requires c = skip_ordered (meaning c.args.words.now) c.args.g c.args.metadata c.requires.g_bound c.requires.describes
