use Rattle.sound_columns.proofs.SlotLaws.{head_read}
use Rattle.sound_columns.proofs.table.head.Goals as goal

pub returns : goal.returns
returns c = let a = c.args in head_read a.z a.s a.i c.column_start-base.result a.words.now c.requires.i_bound c.column_start-base.ensures.is
