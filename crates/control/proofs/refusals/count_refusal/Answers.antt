use native.Mathlib.Omega.{arith}
use Rattle.control.proofs.Control.{count_inside, counts_more, counts_most}
use Rattle.control.proofs.refusals.count_refusal.Goals as goal

pub bounds-words-at : goal.bounds-words-at
bounds-words-at c = omega (arith, count_inside c.args.words.now c.requires c.caller-c.result c.caller-c.ensures)

pub bounds-words-at-then-count-lt-MAX_REFUSALS : goal.bounds-words-at-then-count-lt-MAX_REFUSALS
bounds-words-at-then-count-lt-MAX_REFUSALS c = omega (arith, count_inside c.args.words.now c.requires c.caller-c.result c.caller-c.ensures)

pub returns-then-count-lt-MAX_REFUSALS : goal.returns-then-count-lt-MAX_REFUSALS
returns-then-count-lt-MAX_REFUSALS c = counts_more c.args.words.now c.requires c.caller-c.result c.caller-c.ensures c.if-count-lt-MAX_REFUSALS.true

pub returns-else-count-lt-MAX_REFUSALS : goal.returns-else-count-lt-MAX_REFUSALS
returns-else-count-lt-MAX_REFUSALS c = counts_most c.args.words.now c.requires c.caller-c.result c.caller-c.ensures c.if-count-lt-MAX_REFUSALS.false
