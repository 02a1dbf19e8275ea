use mathlib.Core.Path.{refl, sym, ◌∙◌}
use native.Mathlib.Omega.{arith}
use lib.ListN.{length-append}
use Rattle.model.specs.Listed.{rising_kinds}
use Rattle.memory.specs.Meaning.{meaning}
use Rattle.snapshot.proofs.Listed.{lists_none, lists_one}
use Rattle.snapshot.proofs.rising_kinds.Goals as goal
use Rattle.snapshot.proofs.rising_kinds.Goals.{then-is_registered, else-is_registered}

pub loop-kind-init : goal.loop-kind-init
unfolding rising_kinds
loop-kind-init c = rw c.new-list.ensures (refl, omega arith, omega arith)

pub loop-kind-preserved : goal.loop-kind-preserved
loop-kind-preserved c =
    let ks = (meaning c.args.words.now).kinds in
    let l = c.loop-kind in
    let r = c.is_registered.ensures in
    elim c.if-is_registered.branch [
      | then-is_registered w ↦ rw w.list-is (rw w.push.ensures (l.invariant.0 ∙ lists_one ks _ l.kind (omega arith) (sym r ∙ w.if-is_registered.true), simp length-append (omega (arith, l.invariant)), omega arith))
      | else-is_registered w ↦ rw w.list-is (l.invariant.0 ∙ lists_none ks _ l.kind (omega arith) (sym r ∙ w.if-is_registered.false), omega (arith, l.invariant), omega arith)
    ]
