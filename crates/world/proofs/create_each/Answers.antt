use mathlib.Core.Path.{◌≡◌, subst}
use Prim.Native.Nat.{◌+◌, ◌-◌}
use native.Mathlib.Omega.{arith}
use Rattle.world.proofs.Extending.{Creating, number_left, creating_turn, creating_end}
use Rattle.world.proofs.create_each.Goals as goal

pub create-requires : goal.create-requires
create-requires c =
    let a = c.args in
    let l = c.loop-done in
    record { arranged = l.invariant.so_far.arranged; number_left = number_left a.words.now a.count l.words (a.count - l.done) l.invariant (omega (arith, c.loop-done-test.true)) }

pub loop-done-preserved : goal.loop-done-preserved
loop-done-preserved c =
    let a = c.args in
    let l = c.loop-done in
    let next : (a.count - l.done) - 1 ≡ a.count - (l.done + 1) = omega arith in
    subst (Creating a.words.now a.count c.create.new.words) next
    (creating_turn a.words.now a.count l.words (a.count - l.done) l.invariant (omega (arith, c.loop-done-test.true)) c.create.new.words c.create.ensures.becomes)

pub returns : goal.returns
returns c =
    let a = c.args in
    let l = c.loop-done in
    creating_end a.words.now a.count l.words (a.count - l.done) l.invariant (omega (arith, c.loop-done-test.false))
