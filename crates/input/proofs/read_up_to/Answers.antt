use Rattle.std.proofs.Common.{arith, rules}
use Rattle.input.proofs.Taking.{taken, more_taken, last_taken}
use Rattle.input.proofs.read_up_to.Goals as goal

pub loop-n-preserved : goal.loop-n-preserved
loop-n-preserved g c =
    let read = c.in_ok-more.ensures in
    record {
      within = omega (arith, read.came, c.loop-n.invariant.within);
      size = search rules;
      taken = more_taken _ _ _ c.loop-n.buffer _ _ _ read.front c.loop-n.invariant.taken read.ok;
    }

pub returns-then-more-eq0-clause-taken : goal.returns-then-more-eq0-clause-taken
returns-then-more-eq0-clause-taken g c =
    let read = c.in_ok-more.ensures in
    last_taken _ _ _ c.loop-n.buffer _ _ _ c.if-more-eq0.true (search rules) read.front c.loop-n.invariant.taken read.ok (λ h. read.end c.if-more-eq0.true c.loop-n-test.true)

pub returns-clause-taken : goal.returns-clause-taken
returns-clause-taken g c = taken _ _ _ _ c.loop-n.invariant.within c.loop-n.invariant.taken (λ h. absurd (omega arith))
