use Rattle.flips.specs.Trial.{Most}
use Rattle.flips.proofs.trial.flip_word.Given as goal

abbrev pub invariant-loop-value : goal.invariant-loop-value
invariant-loop-value l = Most l.counts l.value-index
