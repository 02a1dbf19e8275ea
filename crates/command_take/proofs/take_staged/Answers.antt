use mathlib.Core.Path.{◌≡◌, ap, ◌∙◌}
use mathlib.Core.List.{List}
use Prim.Native.Nat.{ℕ, ◌+◌, ◌*◌, ◌≤◌}
use native.Mathlib.Omega.{arith}
use lib.ListN.{length}
use Rattle.model.specs.Model.{entity}
use Rattle.model.specs.Store.{staged_kinds}
use Rattle.words.specs.declared.Shape.{Shape}
use Rattle.words.specs.Shape.{shape_of}
use Rattle.memory.specs.Meaning.{meaning}
use Rattle.memory.specs.Arranged.{Arranged}
use Rattle.memory.proofs.Becomes.{stride_bytes}
use Rattle.world.proofs.Removing.{gone_shape}
use Rattle.command_take.proofs.Taking.{taken_staged, taken_count, taken_length, taken_turn, taken_all, turn_room}
use Rattle.command_take.proofs.take_staged.Goals as goal

-- a component's bytes: 1 and the value's
wide : (w : List ℕ) (z : Shape) (len : ℕ) → Arranged w → z ≡ shape_of w → len ≡ 1 + 4 * z.stride → len ≡ 1 + (meaning w).settings.value_bytes
wide w z len A e l = l ∙ ap (λ (n : ℕ). 1 + n) (ap (λ (y : Shape). 4 * y.stride) e ∙ stride_bytes w A)

-- and the room for all of them
room : (w : List ℕ) (z : Shape) (len n at total : ℕ) → Arranged w → z ≡ shape_of w → len ≡ 1 + 4 * z.stride → n ≡ length (meaning w).control.staged
    → at + (1 + (meaning w).settings.value_bytes) * length (meaning w).control.staged ≤ total → at + len * n ≤ total
room w z len n at total A e l en h = rw (wide w z len A e l, en) h

pub take_one-requires : goal.take_one-requires
take_one-requires c =
    let a = c.args in
    let e = entity a.e.index a.e.version in
    let l = c.loop-i in
    let v = l.invariant in
    let n : length (meaning l.words).control.staged ≡ length (meaning a.words.now).control.staged = taken_count a.words.now a.out.now e a.at l.words l.out l.i v.3 in
    let o : length l.out ≡ length a.out.now = taken_length a.words.now a.out.now e a.at l.words l.out l.i v.3 in
    let z = v.4 ∙ gone_shape a.words.now e (staged_kinds (meaning a.words.now)) l.words l.i v.3.gone in
    let r = room a.words.now c.args.z _ _ a.at (length a.out.now) c.requires.staged.arranged v.4 v.5 v.2 c.requires.room in record { staged = taken_staged a.words.now a.out.now e a.at l.words l.out l.i c.requires.staged v.3; shape_is = z; i_in_bounds = omega (arith, n, v.2, c.loop-i-test); room = omega (arith, o, v.5, turn_room a.at _ l.i c.len-n.result (length a.out.now) (omega (arith, c.loop-i-test)) r) }

pub loop-i-preserved : goal.loop-i-preserved
loop-i-preserved c =
    let a = c.args in
    let l = c.loop-i in
    let v = l.invariant in
    let t = c.take_one in (
      omega (arith, c.loop-i-test),
      v.1,
      v.2,
      taken_turn a.words.now a.out.now (entity a.e.index a.e.version) a.at l.words l.out l.i c.requires.staged (omega (arith, v.2, c.loop-i-test)) v.3 _ (wide a.words.now c.args.z _ c.requires.staged.arranged v.4 v.5) t.new.words _ t.ensures,
      v.4,
      v.5,
    )

pub returns : goal.returns
returns c =
    let a = c.args in
    let l = c.loop-i in
    let v = l.invariant in
    taken_all a.words.now a.out.now (entity a.e.index a.e.version) a.at l.words l.out l.i c.requires.staged (omega (arith, v.2, c.loop-i-test)) v.3 _ _ (wide a.words.now c.args.z _ c.requires.staged.arranged v.4 v.5) v.2
