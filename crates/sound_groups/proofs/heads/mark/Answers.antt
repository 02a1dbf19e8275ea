use mathlib.Core.Path.{refl}
use lib.ListN.{length-set}
use Rattle.sound_groups.proofs.Marking.{marks_more, marks_none}
use Rattle.sound_groups.proofs.heads.mark.Goals as goal

pub loop-kind-init : goal.loop-kind-init
loop-kind-init c = (refl, marks_none c.args.kinds.now)

pub loop-kind-preserved : goal.loop-kind-preserved
loop-kind-preserved c =
    let l = c.loop-kind in
    (simp length-set l.invariant.0, marks_more l.seen c.args.kinds.now l.kind-index l.invariant.0 c.loop-kind-test.true (c.requires l.kind-index c.loop-kind-test.true) l.invariant.1)
