use borrow.Author.Rules.{rules}
use borrow.Author.Tests.{tests}
use Rattle.words.proofs.Asked.{each_from_all}
use Rattle.sound_columns.specs.Table.{KindOk}
use Rattle.sound_columns.proofs.table.Columns.kinds_ok.Goals as goal

pub returns : goal.returns
returns c = let a = c.args.self.now in each_from_all (KindOk a.shape a.registered a.words.now) _ _ _ c.all.result c.all.ensures.ran (cc) (λ x q k. search (rules, tests)) (λ x q k. search (rules, tests))
