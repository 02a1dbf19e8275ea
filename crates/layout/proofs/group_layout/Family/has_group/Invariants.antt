use mathlib.Core.Path.{◌≡◌}
use Prim.Native.Nat.{◌≤◌}
use mathlib.Core.List.{[]}
use lib.ListN.{length, take, drop}
use Rattle.model.specs.Model.{is_group}
use Rattle.layout.specs.Layout.{start_of, groups_from, AritiesRising}
use Rattle.layout.proofs.group_layout.Family.has_group.Given as goal

abbrev pub invariant-loop-arity : goal.invariant-loop-arity
invariant-loop-arity l =
    (l.arity-index ≤ length l.self.arities.now) × AritiesRising (start_of l.self.arities.now l.arity-index) (length l.self.kinds.now) (drop l.arity-index l.self.arities.now)
    × (is_group l.staged [] (groups_from [] 0 l.self.kinds.now 0 l.self.arities.now) ≡ is_group l.staged (take (start_of l.self.arities.now l.arity-index) l.self.kinds.now) (groups_from [] 0 l.self.kinds.now (start_of l.self.arities.now l.arity-index) (drop l.arity-index l.self.arities.now)))
