use native.Mathlib.Omega.{arith}
use Rattle.sound_columns.proofs.SlotLaws.{room_long, room_less}
use Rattle.memory.specs.Header.{registered_of}
use Rattle.sound_columns.proofs.table.is_table.Goals as goal

pub bounds-words-2 : goal.bounds-words-2
bounds-words-2 c = let a = c.args in omega (arith, room_long a.z a.k a.words.now c.requires)

pub invariant_of-columns : goal.invariant_of-columns
invariant_of-columns c = let a = c.args in record { room = room_less a.z a.k a.words.now c.requires (registered_of a.words.now) (omega arith) }
