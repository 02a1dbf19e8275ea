use borrow.Author.Rules.{rules}
use borrow.Author.Tests.{tests}
use Rattle.std.proofs.lemmas.Iterator.{serves_from_Range}
use Rattle.words.proofs.Asked.{each_from_all}
use Rattle.sound_columns.proofs.SlotLaws.{slot_of_law}
use Rattle.sound_columns.specs.Slots.{Slot}
use Rattle.sound_groups.specs.Spans.{SeenOk}
use Rattle.sound_groups.proofs.heads.own_all_ok.Goals as goal

pub all-requires-clause-callable : goal.all-requires-clause-callable
all-requires-clause-callable c =
    let a = c.args in
    serves_from_Range (λ x q k. search rules) (λ x from below. let slot : Slot a.z x a.words.now = slot_of_law a.z a.registered a.words.now c.requires.room x below in search rules)

pub returns : goal.returns
returns c = let a = c.args in each_from_all (SeenOk a.z a.words.now a.seen.now) _ _ _ c.all.result c.all.ensures.ran (cc) (λ x q k. search (rules, tests)) (λ x q k. search (rules, tests))
