use mathlib.Core.Path.{refl, ◌∙◌}
use native.Mathlib.Omega.{arith}
use Rattle.replay.proofs.Agreeing.{no_runs_law, more_runs_law, all_runs}
use Rattle.replay.proofs.cases.replay_runs.Goals as goal

pub loop-done-init : goal.loop-done-init
loop-done-init c = record { words_len = refl; out_len = refl; agree = no_runs_law _ _ _ c.requires }

pub replay_run-step-requires : goal.replay_run-step-requires
replay_run-step-requires c = c.loop-done.invariant.agree.within

pub loop-done-preserved : goal.loop-done-preserved
loop-done-preserved c =
    let l = c.loop-done in
    record {
      words_len = c.replay_run-step.auto.words ∙ l.invariant.words_len;
      out_len = c.replay_run-step.auto.out ∙ l.invariant.out_len;
      agree = more_runs_law _ _ _ _ _ _ _ l.agrees c.replay_run-step.result l.invariant.agree c.replay_run-step.ensures;
    }

pub returns : goal.returns
returns c = all_runs _ _ _ _ _ _ _ (omega (arith, c.loop-done-test.false)) c.loop-done.invariant.agree
