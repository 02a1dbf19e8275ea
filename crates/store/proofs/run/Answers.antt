use native.Mathlib.Omega.{arith}
use Rattle.memory.specs.Arranged.{Sound}
use Rattle.words.proofs.Decides.{granted, denied}
use Rattle.run.proofs.Steps.{bytes_all}
use Rattle.store.proofs.Running.{refused_run, completed_run}
use Rattle.std.proofs.lemmas.Bool.{not_from_false, not_from_true}
use Rattle.store.proofs.run.Goals as goal

pub returns-then-not-is_sound : goal.returns-then-not-is_sound
returns-then-not-is_sound c =
    let a = c.args in
    rw c.from.ensures (refused_run a.words.now a.tape.now a.out.now (denied {P = Sound a.words.now} c.is_sound.result c.is_sound.ensures (not_from_false _ c.if-not-is_sound.true)) (bytes_all a.tape.now (λ j. omega (arith, c.type_inv.tape j))))

pub run_sound-requires : goal.run_sound-requires
run_sound-requires c =
    granted {P = Sound c.args.words.now} c.is_sound.result c.is_sound.ensures (not_from_true _ c.if-not-is_sound.false)

pub shape_of-words : goal.shape_of-words
shape_of-words c = c.run_sound.auto.words

pub shape_of-out : goal.shape_of-out
shape_of-out c = c.run_sound.auto.out

pub returns : goal.returns
returns c =
    let r = c.run_sound in
    let a = c.args in
    completed_run a.words.now r.new.words a.tape.now a.out.now r.new.out r.result (granted {P = Sound a.words.now} c.is_sound.result c.is_sound.ensures (not_from_true _ c.if-not-is_sound.false)) (bytes_all a.tape.now (λ j. omega (arith, c.type_inv.tape j))) r.ensures
