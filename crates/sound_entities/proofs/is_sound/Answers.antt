use borrow.Author.Rules.{rules}
use borrow.Author.Tests.{tests}
use Rattle.words.proofs.Decides.{decides_on}
use Rattle.sound_entities.proofs.Checking.{last_of}
use Rattle.sound_entities.proofs.is_sound.Goals as goal

pub returns-then-queue_ok : goal.returns-then-queue_ok
returns-then-queue_ok c = decides_on _ (last_of c.args.n c.args.part.now (search rules) (search (rules, tests)) (search (rules, tests)) (search (rules, tests))) c.indexes_ok.ensures
