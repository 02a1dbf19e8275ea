use Rattle.memory.specs.Arranged.{Sound}
use Rattle.words.proofs.Decides.{granted, denied}
use Rattle.store.proofs.Emitting.{unsound_emits}
use Rattle.std.proofs.lemmas.Bool.{not_from_false, not_from_true}
use Rattle.store.proofs.copy_column.Goals as goal

pub returns-then-not-is_sound : goal.returns-then-not-is_sound
returns-then-not-is_sound c =
    let a = c.args in
    rw c.from.ensures (unsound_emits a.words.now a.out.now _ (denied {P = Sound a.words.now} c.is_sound.result c.is_sound.ensures (not_from_false _ c.if-not-is_sound.true)))

pub copy_column-requires : goal.copy_column-requires
copy_column-requires c = granted {P = Sound c.args.words.now} c.is_sound.result c.is_sound.ensures (not_from_true _ c.if-not-is_sound.false)

pub returns : goal.returns
returns c = c.copy_column.ensures
