use Prim.Native.Nat.{◌<◌}
use native.Mathlib.Omega.{arith}
use Rattle.component.proofs.Parts.{lent}
use Rattle.layout_apply.proofs.HeadSteps.{clear_more}
use Rattle.layout_apply.proofs.clear_heads.Goals as goal

pub put_own-requires-clause-lent : goal.put_own-requires-clause-lent
put_own-requires-clause-lent c =
    let a = c.args in
    let l = c.loop-slot in
    lent a.z a.m l.slot l.words (l.invariant.1 a.m (omega arith) c.requires).heads.columns (omega arith)

pub loop-slot-preserved : goal.loop-slot-preserved
loop-slot-preserved c =
    let a = c.args in
    let l = c.loop-slot in
    let b : l.slot < a.m = omega arith in
    (omega arith, λ k le h. rw c.put_own.ensures (clear_more a.z k l.slot a.words.now l.words (omega arith) (l.invariant.1 k le h)))
