use Rattle.std.proofs.Common.{◌≡◌, rules, None}
use mathlib.Core.Path.{refl, ◌∙◌}
use native.Mathlib.Omega.{arith}
use Rattle.replay.proofs.Agreeing.{no_cases_law, more_cases_law, all_cases}
use Rattle.replay.proofs.replay_cases.Goals as goal

pub loop-done-init : goal.loop-done-init
loop-done-init c =
    let zeros : c.default-tally.result ≡ record { cases = 0; agree = 0; first = None } = search rules in
    record { words_len = refl; out_len = refl; going = rw zeros (no_cases_law c.args.file.now c.requires.in_bounds) }

pub replay_case-step-requires : goal.replay_case-step-requires
replay_case-step-requires c = let l = c.loop-done.invariant in record { words_len = l.words_len ∙ c.requires.words_len; at_in_bounds = l.going.1.1.0 }

pub counted-tally-requires : goal.counted-tally-requires
counted-tally-requires c = let l = c.loop-done.invariant in record { cases_bound = omega (arith, c.loop-done-test.true, l.going.0); agree_le_cases = l.going.1.0 }

pub loop-done-preserved : goal.loop-done-preserved
loop-done-preserved c =
    let l = c.loop-done.invariant in
    record {
      words_len = c.replay_case-step.auto.words ∙ l.words_len;
      out_len = c.replay_case-step.auto.out ∙ l.out_len;
      going = more_cases_law _ _ _ _ _ c.replay_case-step.result l.going c.replay_case-step.ensures c.counted-tally.ensures;
    }

pub returns : goal.returns
returns c = all_cases _ _ _ _ _ c.loop-done.invariant.going (omega (arith, c.loop-done-test.false))
