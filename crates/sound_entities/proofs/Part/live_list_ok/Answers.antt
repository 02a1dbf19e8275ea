use borrow.Author.Rules.{rules}
use borrow.Author.Tests.{tests}
use Rattle.words.proofs.Asked.{each_from_all}
use Rattle.sound_entities.specs.Checks.{LiveOk}
use Rattle.sound_entities.proofs.Part.live_list_ok.Goals as goal

pub returns : goal.returns
returns c = each_from_all (LiveOk c.args.self.now.capacity c.args.self.now.words.now) _ _ _ c.all.result c.all.ensures.ran (cc) (λ x q k. search (rules, tests)) (λ x q k. search (rules, tests))
