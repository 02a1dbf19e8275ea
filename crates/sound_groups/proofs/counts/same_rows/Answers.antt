use Prim.Native.Nat.{◌*◌}
use borrow.Author.Rules.{rules}
use borrow.Author.Tests.{tests}
use Rattle.words.proofs.Decides.{decides_on}
use Rattle.words.proofs.Counted.{counts_none, counts_on, counts_all}
use Rattle.sound_groups.proofs.CountLaws.{rows_same}
use Rattle.sound_groups.proofs.counts.same_rows.Goals as goal

pub loop-i-init : goal.loop-i-init
loop-i-init c = counts_none

pub loop-i-preserved : goal.loop-i-preserved
loop-i-preserved c = counts_on c.loop-i.invariant c.loop-i-test.true

pub returns : goal.returns
returns c =
    let a = c.args in
    let e = counts_all c.loop-i.invariant c.loop-i-test.false in
    decides_on _ (rows_same a.words.now a.a a.b (2 * a.c) c.loop-i.differ e) (search (rules, tests))
