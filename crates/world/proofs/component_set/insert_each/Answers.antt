use mathlib.Core.Path.{subst}
use Prim.Native.Nat.{ℕ, ◌<◌}
use Rattle.world.proofs.Columns.{all_turn}
use Rattle.world.proofs.component_set.insert_each.Goals as goal

pub loop-i-preserved : goal.loop-i-preserved
loop-i-preserved c =
    let a = c.args in
    let l = c.loop-i in
    all_turn a.words.now a.start l.words l.i l.invariant (subst (λ (m : ℕ). l.i < m) c.len-n.ensures.is c.loop-i-test.true) c.insert_column.new.words c.insert_column.ensures
