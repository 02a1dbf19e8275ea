use native.Mathlib.Omega.{arith}
use Rattle.run.proofs.Steps.{bytes_all}
use Rattle.store.proofs.Running.{completed_run}
use Rattle.store.proofs.held.run.Goals as goal

pub run_sound-requires : goal.run_sound-requires
run_sound-requires c = c.requires

pub shape_of-words : goal.shape_of-words
shape_of-words c = c.run_sound.auto.words

pub shape_of-out : goal.shape_of-out
shape_of-out c = c.run_sound.auto.out

pub returns : goal.returns
returns c =
    let a = c.args in
    let r = c.run_sound in
    completed_run a.words.now r.new.words a.tape.now a.out.now r.new.out r.result c.requires (bytes_all a.tape.now (λ j. omega (arith, c.type_inv.tape j))) r.ensures
