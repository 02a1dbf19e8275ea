use mathlib.Core.Path.{ap, ◌∙◌}
use Prim.Native.Nat.{ℕ, ◌+◌}
use native.Mathlib.Omega.{arith}
use lib.ListN.{get_or}
use Rattle.kinds.proofs.Slot.{lent_at, head_at_law}
use Rattle.kinds.proofs.head.Goals as goal

pub column_start-base-requires : goal.column_start-base-requires
column_start-base-requires c =
    let l = lent_at c.args.words.now c.args.z c.args.kind c.slot_of-slot.result c.requires.shape_is c.slot_of-slot.ensures in
    (l.shaped, omega (arith, l.few))

pub overflow_add-base : goal.overflow_add-base
overflow_add-base c =
    let l = lent_at c.args.words.now c.args.z c.args.kind c.slot_of-slot.result c.requires.shape_is c.slot_of-slot.ensures in
    omega (arith, l.size, c.column_start-base.ensures.small, c.requires.i_bound)

pub word-requires : goal.word-requires
word-requires c =
    let l = lent_at c.args.words.now c.args.z c.args.kind c.slot_of-slot.result c.requires.shape_is c.slot_of-slot.ensures in
    omega (arith, l.size, c.column_start-base.ensures.is)

pub returns : goal.returns
returns c =
    let a = c.args in
    let w = a.words.now in
    c.word.ensures.is ∙ ap (λ (b : ℕ). get_or w (b + a.i) 0) c.column_start-base.ensures.is
    ∙ head_at_law w a.z a.kind c.slot_of-slot.result c.requires.shape_is c.slot_of-slot.ensures a.i c.requires.i_bound
