use mathlib.Core.Path.{subst}
use Prim.Native.Nat.{◌≤◌, ℕ, ◌<◌, zero-le}
use native.Mathlib.Omega.{arith}
use native.Mathlib.Numerals.{add-one-le}
use Rattle.group.proofs.InWords.{groups_few}
use Rattle.world.proofs.Zeroing.{zeroed_none, zeroed_below, zeroed_turn, zeroed_all}
use Rattle.world.proofs.component_storage.clear_counts.Goals as goal

pub loop-g-init : goal.loop-g-init
loop-g-init c =
    let a = c.args in
    (zero-le, rw c.group_count-n.ensures (groups_few a.words.now c.requires), c.group_count-n.ensures, zeroed_none a.words.now c.requires)

pub set_count-requires : goal.set_count-requires
set_count-requires c =
    let v = c.loop-g.invariant in
    record { arranged = v.3.arranged; g_bound = zeroed_below c.args.words.now c.loop-g.words c.loop-g.g v.3 (subst (λ (m : ℕ). c.loop-g.g < m) v.2 c.loop-g-test.true); count_bound = omega arith }

pub loop-g-preserved : goal.loop-g-preserved
loop-g-preserved c =
    let v = c.loop-g.invariant in
    (add-one-le c.loop-g-test.true, v.1, v.2, zeroed_turn c.args.words.now c.loop-g.words c.set_count.new.words c.loop-g.g (subst (λ (m : ℕ). c.loop-g.g < m) v.2 c.loop-g-test.true) v.3 c.set_count.ensures)

pub returns : goal.returns
returns c =
    let v = c.loop-g.invariant in
    zeroed_all c.args.words.now c.loop-g.words c.loop-g.g (subst (λ (m : ℕ). m ≤ c.loop-g.g) v.2 c.loop-g-test.false) v.3
