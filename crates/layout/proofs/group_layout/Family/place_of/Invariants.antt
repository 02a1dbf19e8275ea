use mathlib.Core.Path.{◌≡◌}
use Prim.Native.Nat.{◌≤◌}
use lib.ListN.{length, drop}
use Rattle.layout.specs.Layout.{start_of, groups_from, AritiesRising}
use mathlib.Core.List.{[]}
use Rattle.layout.specs.Fit.{chain_place}
use Rattle.layout.proofs.Inserting.{place_at_law}
use Rattle.layout.proofs.group_layout.Family.place_of.Given as goal

abbrev pub invariant-loop-j : goal.invariant-loop-j
invariant-loop-j l =
    (l.j ≤ length l.self.arities.now) × AritiesRising (start_of l.self.arities.now l.j) (length l.self.kinds.now) (drop l.j l.self.arities.now) × (chain_place l.staged (groups_from [] 0 l.self.kinds.now 0 l.self.arities.now) ≡ place_at_law l.staged l.self.kinds.now l.self.arities.now l.j)
