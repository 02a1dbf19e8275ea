use mathlib.Core.Path.{◌≡◌, ap, sym, ◌∙◌, subst}
use Prim.Native.Nat.{◌+◌, ◌*◌, ◌≤◌, ◌<◌}
use native.Mathlib.Omega.{arith}
use lib.ListN.{length, take, drop}
use Rattle.model.specs.Numbers.{LIST_CAPACITY}
use Rattle.words.specs.Offsets.{ENTITIES, STAGED_VALUES, STAGED_VALUE_LEN}
use Rattle.words.specs.declared.Shape.{Shape}
use Rattle.words.specs.Shape.{TwoOrFour, shape_of}
use Rattle.values.specs.Values.{digits, words_of, value_of}
use Rattle.memory.specs.Header.{staged_value_at}
use Rattle.memory.proofs.Frames.{long}
use Rattle.control.proofs.Control.{staged_read, staged_few}
use Rattle.control.proofs.staged.staged_at.Goals as goal

pub overflow_add-i : goal.overflow_add-i
overflow_add-i c =
    let inside : (c.args.i < LIST_CAPACITY) × (ENTITIES ≤ length c.args.words.now) = (omega (arith, c.requires.i_in_bounds, staged_few c.args.words.now c.requires.arranged), long c.args.words.now c.requires.arranged) in
    omega (arith, inside)

pub word-kind-requires : goal.word-kind-requires
word-kind-requires c =
    let inside : (c.args.i < LIST_CAPACITY) × (ENTITIES ≤ length c.args.words.now) = (omega (arith, c.requires.i_in_bounds, staged_few c.args.words.now c.requires.arranged), long c.args.words.now c.requires.arranged) in
    omega (arith, inside)

pub overflow_mul-i : goal.overflow_mul-i
overflow_mul-i c =
    let inside : (c.args.i < LIST_CAPACITY) × (ENTITIES ≤ length c.args.words.now) = (omega (arith, c.requires.i_in_bounds, staged_few c.args.words.now c.requires.arranged), long c.args.words.now c.requires.arranged) in
    omega (arith, inside)

pub overflow_add-i-2 : goal.overflow_add-i-2
overflow_add-i-2 c =
    let inside : (c.args.i < LIST_CAPACITY) × (ENTITIES ≤ length c.args.words.now) = (omega (arith, c.requires.i_in_bounds, staged_few c.args.words.now c.requires.arranged), long c.args.words.now c.requires.arranged) in
    omega (arith, inside)

pub width-requires : goal.width-requires
width-requires c = subst (λ (y : Shape). TwoOrFour y.stride) (sym c.requires.shape_is) c.requires.arranged.columns.shaped.words

pub get-value-requires : goal.get-value-requires
get-value-requires c =
    let inside : (c.args.i < LIST_CAPACITY) × (ENTITIES ≤ length c.args.words.now) = (omega (arith, c.requires.i_in_bounds, staged_few c.args.words.now c.requires.arranged), long c.args.words.now c.requires.arranged) in
    let t : TwoOrFour c.args.z.stride = subst (λ (y : Shape). TwoOrFour y.stride) (sym c.requires.shape_is) c.requires.arranged.columns.shaped.words in
    omega (arith, t.most, inside)

pub returns : goal.returns
returns c =
    let a = c.args in
    let w = a.words.now in
    let p = STAGED_VALUES + STAGED_VALUE_LEN * a.i in
    let e : value_of (shape_of w).stride c.get-value.result ≡ staged_value_at w a.i =
    subst (λ (y : Shape). digits (words_of y.stride c.get-value.result) ≡ digits (take y.stride (drop p w))) c.requires.shape_is (ap digits (rw c.width.ensures at c.get-value.ensures)) in
    (λ j. record { kind = c.word-kind.ensures.is j; value = e j }) ∙ sym (staged_read w a.i c.requires.i_in_bounds)
