use Prim.Native.Nat.{◌+◌}
use Rattle.memory.specs.Meaning.{meaning}
use Rattle.replay.specs.Recorded.{ColumnsAgree}
use Rattle.replay.specs.Agreement.{StepAgrees}
use Rattle.replay.proofs.cases.replay_columns.Given as goal

abbrev pub invariant-loop-done : goal.invariant-loop-done
invariant-loop-done l = StepAgrees l.file l.words l.words (record { at = l.next; agrees = l.agrees }) (λ e. ColumnsAgree l.file (l.at + 1) l.width (meaning l.words) l.done e)
