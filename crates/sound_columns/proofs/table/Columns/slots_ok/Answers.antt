use borrow.Author.Rules.{rules}
use borrow.Author.Tests.{tests}
use Rattle.words.proofs.Asked.{each_from_all}
use Rattle.sound_columns.specs.Table.{SlotOk}
use Rattle.sound_columns.proofs.table.Columns.slots_ok.Goals as goal

pub returns : goal.returns
returns c = let a = c.args.self.now in each_from_all (SlotOk a.shape a.words.now) _ _ _ c.all.result c.all.ensures.ran (cc) (λ x q k. search (rules, tests)) (λ x q k. search (rules, tests))
