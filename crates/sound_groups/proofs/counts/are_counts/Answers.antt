use borrow.Author.Rules.{rules}
use borrow.Author.Tests.{tests}
use Rattle.words.proofs.Asked.{each_from_all}
use Rattle.sound_groups.specs.Counts.{CountedOk}
use Rattle.sound_groups.proofs.counts.are_counts.Goals as goal

pub returns : goal.returns
returns c = let a = c.args in each_from_all (CountedOk a.z a.words.now) _ _ _ c.all.result c.all.ensures.ran (cc) (λ x q k. search (rules, tests)) (λ x q k. search (rules, tests))
