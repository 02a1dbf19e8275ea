use native.Mathlib.Omega.{arith}
use Rattle.model.specs.Numbers.{UNSOUND}
use Rattle.memory.specs.Arranged.{Sound}
use Rattle.words.proofs.Decides.{granted, denied}
use Rattle.store.proofs.Handing.{unsound_number}
use Rattle.store.proofs.Linking.{refused_place}
use Rattle.std.proofs.lemmas.Bool.{not_from_false, not_from_true}
use Rattle.store.proofs.column_at.Goals as goal

pub returns-then-not-is_sound : goal.returns-then-not-is_sound
returns-then-not-is_sound c =
    let a = c.args in
    let C = unsound_number a.words.now a.kind a.start a.end (denied {P = Sound a.words.now} c.is_sound.result c.is_sound.ensures (not_from_false _ c.if-not-is_sound.true)) in
    refused_place a.words.now a.values a.kind a.start a.end UNSOUND C (λ z. omega (arith, z))

pub column_at-requires : goal.column_at-requires
column_at-requires c = granted {P = Sound c.args.words.now} c.is_sound.result c.is_sound.ensures (not_from_true _ c.if-not-is_sound.false)

pub returns : goal.returns
returns c = c.column_at.ensures
