use Prim.Native.Nat.{◌+◌}
use native.Mathlib.Omega.{arith}
use lib.ListN.{length-set}
use Rattle.words.specs.Offsets.{REGISTERED, TABLE, VALUE_WIDTH}
use Rattle.kinds.proofs.Slot.{header_long}
use Rattle.kinds.proofs.Registering.{vacancy, vacant_lent, registered}
use Rattle.kinds.proofs.register.Goals as goal

pub shape_of-z-requires : goal.shape_of-z-requires
shape_of-z-requires c = header_long c.args.words.now c.requires.arranged VALUE_WIDTH (omega arith)

pub word-slot-requires : goal.word-slot-requires
word-slot-requires c = header_long c.args.words.now c.requires.arranged REGISTERED (omega arith)

pub put_head-requires : goal.put_head-requires
put_head-requires c =
    let w = c.args.words.now in
    record { lent = vacant_lent w c.shape_of-z.result c.word-slot.result c.requires.arranged c.shape_of-z.ensures.is c.word-slot.ensures.is (vacancy w c.requires.room); kind_bound = c.requires.kind_bound }

pub bounds-words-kind : goal.bounds-words-kind
bounds-words-kind c =
    omega (arith, header_long c.args.words.now c.requires.arranged (TABLE + c.args.kind) (omega arith), c.put_head.auto.words)

pub bounds-words-2 : goal.bounds-words-2
bounds-words-2 c =
    simp length-set (omega (arith, header_long c.args.words.now c.requires.arranged REGISTERED (omega arith), c.put_head.auto.words))

pub returns : goal.returns
returns c =
    let a = c.args in
    let w = a.words.now in
    registered w c.shape_of-z.result c.word-slot.result a.kind c.requires.arranged c.requires.kind_bound c.requires.unregistered (vacancy w c.requires.room) c.shape_of-z.ensures.is
    c.word-slot.ensures.is c.put_head.new.words c.put_head.ensures
