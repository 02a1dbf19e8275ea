use native.Mathlib.Omega.{arith}
use Rattle.sound_columns.proofs.SlotLaws.{slot_of_law, room_long}
use Rattle.memory.specs.Header.{slot_of}
use Rattle.sound_columns.proofs.table.Columns.kind_ok.Goals as goal

pub bounds-self-kind : goal.bounds-self-kind
bounds-self-kind c = let a = c.args.self.now in omega (arith, c.requires, room_long a.shape a.registered a.words.now a.room)

pub head-requires-clause-slot : goal.head-requires-clause-slot
head-requires-clause-slot c = let a = c.args.self.now in slot_of_law a.shape a.registered a.words.now a.room (slot_of a.words.now c.args.kind) (omega arith)
