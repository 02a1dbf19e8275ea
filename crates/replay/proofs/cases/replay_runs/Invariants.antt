use mathlib.Core.Path.{◌≡◌}
use lib.ListN.{length}
use Rattle.memory.specs.Meaning.{meaning}
use Rattle.replay.specs.Recorded.{RunsAgree}
use Rattle.replay.specs.Agreement.{StepAgrees}
use Rattle.replay.proofs.cases.replay_runs.Given as goal

abbrev pub invariant-loop-done : goal.invariant-loop-done
invariant-loop-done l = record {
  words_len : length l.words ≡ length l.initial.words;
  out_len : length l.out ≡ length l.initial.out;
  agree : StepAgrees l.file l.initial.words l.words (record { at = l.next; agrees = l.agrees }) (λ e. RunsAgree l.file l.at (meaning l.initial.words) l.done e (meaning l.words));
}
