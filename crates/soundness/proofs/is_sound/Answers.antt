use native.Mathlib.Omega.{arith}
use Rattle.words.proofs.Decides.{decides_on}
use Rattle.soundness.proofs.Whole.{clauses_sound, sound_long}
use Rattle.soundness.proofs.is_sound.Goals as goal

pub returns-then-words-lt-ENTITIES : goal.returns-then-words-lt-ENTITIES
returns-then-words-lt-ENTITIES c = λ X. omega (arith, sound_long c.args.words.now X, c.if-words-lt-ENTITIES.true)

pub returns : goal.returns
returns c = decides_on _ (clauses_sound c.args.words.now (λ i. omega (arith, c.type_inv.words i))) c.has_clauses.ensures
