use mathlib.Core.Path.{◌≡◌}
use lib.ListN.{length}
use Rattle.replay.proofs.Agreeing.{Going}
use Rattle.replay.proofs.replay_cases.Given as goal

abbrev pub invariant-loop-done : goal.invariant-loop-done
invariant-loop-done l = record {
  words_len : length l.words ≡ length l.initial.words;
  out_len : length l.out ≡ length l.initial.out;
  going : Going l.file l.tally l.at l.done;
}
