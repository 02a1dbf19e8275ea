use mir.Facts.{Fits-le}
use mir.Val.{Fits}
use mir.Syntax.{w64}
use Rattle.run.proofs.Runs.{Going, start, ended, stops_here, goes_on, moves}
use lib.ListN.{length}
use native.Mathlib.Omega.{arith}
use mathlib.Core.Path.{◌≡◌, refl, ap, sym, ◌∙◌}
use mathlib.Core.List.{List}
use Rattle.model.specs.Store.{Settings}
use Rattle.model.specs.Commands.{widths}
use Rattle.memory.specs.Meaning.{meaning}
use Prim.Native.Nat.{◌-◌, ℕ, ◌+◌, ◌<◌, ◌≤◌}
use Rattle.run.proofs.run_sound.Goals as goal

one_more : (k a l : ℕ) → k ≤ a → a < l → k + 1 ≤ l
one_more k a l h m = omega arith

less : (a b l : ℕ) → a < b → a < l → l - b < l - a
less a b l h m = omega arith

-- the table stays that of the store's width: no command changes it
still : {w₀ t o₀ w o : List ℕ} {at p k : ℕ} {l : List ℕ} → Going w₀ t o₀ w o at p k → l ≡ widths (meaning w₀).settings.value_bytes → l ≡ widths (meaning w).settings.value_bytes
still G e = e ∙ ap (λ (c : Settings). widths c.value_bytes) (sym G.same)

pub widths_of-lengths-requires : goal.widths_of-lengths-requires
widths_of-lengths-requires c = c.requires.arranged

pub loop-at-init : goal.loop-at-init
loop-at-init c = (start c.requires, c.widths_of-lengths.ensures)

pub step-requires : goal.step-requires
step-requires c = record { step_ready = record { sound = c.loop-at.invariant.0.sound; more = c.loop-at-test.true; within = c.loop-at.invariant.0.within }; tables = (still c.loop-at.invariant.0 c.loop-at.invariant.1, refl) }

pub overflow_add-done : goal.overflow_add-done
overflow_add-done c =
    let tape-fits : Fits w64 (length c.args.tape.now) = omega arith in
    Fits-le (one_more _ _ _ c.loop-at.invariant.0.few c.loop-at-test.true) tape-fits

pub loop-at-smaller : goal.loop-at-smaller
loop-at-smaller c = less _ _ _ (moves c.loop-at.invariant.0 c.loop-at-test.true c.in-Ok.next (rw c.in-Ok.is at c.step.ensures)) c.loop-at-test.true

pub loop-at-preserved : goal.loop-at-preserved
loop-at-preserved c = (goes_on c.loop-at.invariant.0 c.loop-at-test.true c.in-Ok.next (rw c.in-Ok.is at c.step.ensures), c.loop-at.invariant.1)

pub shape_of-words-in-Err : goal.shape_of-words-in-Err
shape_of-words-in-Err c = c.step.auto.words ∙ c.loop-at.invariant.0.becomes.size

pub shape_of-out-in-Err : goal.shape_of-out-in-Err
shape_of-out-in-Err c = c.step.auto.out ∙ c.loop-at.invariant.0.same_out

pub returns-in-Err : goal.returns-in-Err
returns-in-Err c = rw c.from.ensures (stops_here c.loop-at.invariant.0 c.loop-at-test.true c.in-Err.refusal (rw c.in-Err.is at c.step.ensures))

pub shape_of-words : goal.shape_of-words
shape_of-words c = c.loop-at.invariant.0.becomes.size

pub shape_of-out : goal.shape_of-out
shape_of-out c = c.loop-at.invariant.0.same_out

pub returns : goal.returns
returns c = ended c.loop-at.invariant.0 c.loop-at-test.false
