use Rattle.std.proofs.Common.{◌≡◌, ◌++◌, ◌≤◌, cond, length, drop}
use Rattle.model.specs.Model.{common, without}
use Rattle.layout.proofs.group_layout.picked.Given as goal

abbrev pub invariant-loop-kind : goal.invariant-loop-kind
invariant-loop-kind l =
    (length l.picked ≤ l.kind-index)
    × (cond l.wanted (common l.ks l.others) (without l.ks l.others) ≡ l.picked ++ cond l.wanted (common (drop l.kind-index l.ks) l.others) (without (drop l.kind-index l.ks) l.others))
