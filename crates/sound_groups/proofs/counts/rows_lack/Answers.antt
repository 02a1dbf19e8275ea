use Prim.Native.Nat.{ℕ}
use borrow.Author.Rules.{rules}
use borrow.Author.Tests.{tests}
use Rattle.words.proofs.Asked.{span_from_all}
use Rattle.sound_columns.specs.Rows.{key_at}
use Rattle.sound_groups.specs.Counts.{HoldsAll}
use Rattle.sound_groups.proofs.counts.rows_lack.Goals as goal

pub returns : goal.returns
returns c = let a = c.args in span_from_all (λ (i : ℕ). HoldsAll a.z a.words.now a.from a.to (key_at a.z a.words.now a.h i) → ⊥) _ _ _ _ c.all.result c.all.ensures.ran (cc) (λ x q k. search (rules, tests)) (λ x q k. search (rules, tests))
