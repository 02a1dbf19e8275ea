use Rattle.columns.specs.Refused.{refusal_number}
use Rattle.memory.specs.Arranged.{Sound}
use Rattle.words.proofs.Decides.{granted, denied}
use Rattle.store.proofs.Handing.{unsound_number, sound_number}
use Rattle.std.proofs.lemmas.Bool.{not_from_false, not_from_true}
use Rattle.store.proofs.column_number.Goals as goal

pub returns-then-not-is_sound : goal.returns-then-not-is_sound
returns-then-not-is_sound c =
    let a = c.args in
    unsound_number a.words.now a.kind a.start a.end (denied {P = Sound a.words.now} c.is_sound.result c.is_sound.ensures (not_from_false _ c.if-not-is_sound.true))

pub refusal-requires : goal.refusal-requires
refusal-requires c =
    let a = c.args in
    let S : Sound a.words.now = granted {P = Sound a.words.now} c.is_sound.result c.is_sound.ensures (not_from_true _ c.if-not-is_sound.false) in
    S.arranged

pub returns : goal.returns
returns c =
    let a = c.args in
    let S : Sound a.words.now = granted {P = Sound a.words.now} c.is_sound.result c.is_sound.ensures (not_from_true _ c.if-not-is_sound.false) in
    sound_number a.words.now a.kind a.start a.end (refusal_number c.refusal.result) S c.refusal.ensures
