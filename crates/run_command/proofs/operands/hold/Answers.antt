use mathlib.Core.Path.{ap, sym, ◌∙◌, subst}
use Prim.Native.Nat.{◌*◌}
use native.Mathlib.Omega.{arith}
use Rattle.words.specs.declared.Shape.{Shape}
use Rattle.words.specs.Shape.{TwoOrFour}
use Rattle.memory.proofs.Becomes.{stride_bytes}
use Rattle.memory.proofs.Frames.{long}
use Rattle.run_command.proofs.Reading.{hold_operands, acts_by}
use Rattle.run_command.proofs.operands.hold.Goals as goal

pub shape_of-z-requires : goal.shape_of-z-requires
shape_of-z-requires c = omega (arith, long c.args.words.now c.requires.ready.sound.arranged)

pub width-requires : goal.width-requires
width-requires c = subst (λ (y : Shape). TwoOrFour y.stride) (sym c.shape_of-z.ensures.is) c.requires.ready.sound.arranged.columns.shaped.words

-- the value's words, and the bytes that they are read from
pub get_bytes-x-requires : goal.get_bytes-x-requires
get_bytes-x-requires c =
    let A = c.requires.ready.sound.arranged in
    let e = c.shape_of-z.ensures.is in
    let b = ap (λ (y : Shape). 4 * y.stride) e ∙ stride_bytes c.args.words.now A in
    omega (arith, b, c.requires.whole)

pub returns : goal.returns
returns c =
    let a = c.args in
    let w = a.words.now in
    let h = c.hold in
    let o = hold_operands w a.tape.now a.at c.shape_of-z.result c.get_bytes-x.result c.requires.ready.sound.arranged c.requires.whole c.shape_of-z.ensures.is (rw c.width.ensures at c.get_bytes-x.ensures) in
    acts_by _ _ o h.ensures
