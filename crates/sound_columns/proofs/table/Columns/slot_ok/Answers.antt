use native.Mathlib.Omega.{arith}
use Rattle.sound_columns.proofs.SlotLaws.{slot_of_law, room_long}
use Rattle.sound_columns.proofs.table.Columns.slot_ok.Goals as goal

pub head-kind-requires-clause-slot : goal.head-kind-requires-clause-slot
head-kind-requires-clause-slot c = let a = c.args.self.now in slot_of_law a.shape a.registered a.words.now a.room c.args.s c.requires

pub bounds-self-kind : goal.bounds-self-kind
bounds-self-kind c = let a = c.args.self.now in omega (arith, room_long a.shape a.registered a.words.now a.room)
