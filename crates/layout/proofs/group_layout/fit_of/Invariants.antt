use mathlib.Core.Path.{◌≡◌}
use Prim.Native.Nat.{◌≤◌}
use lib.ListN.{drop}
use Rattle.layout.specs.Layout.{start_of}
use Rattle.layout.specs.ByValue.{layout_meaning}
use Rattle.layout.specs.Fit.{fit_from}
use Rattle.layout.proofs.group_layout.fit_of.Given as goal

abbrev pub invariant-loop-f : goal.invariant-loop-f
invariant-loop-f l =
    (l.f ≤ l.l.families) × (l.kind_start ≡ start_of l.l.kind_ends l.f) × (l.group_start ≡ start_of l.l.ends l.f)
    × (fit_from l.staged 0 l.initial.fit (layout_meaning l.l) ≡ fit_from l.staged l.f l.fit (drop l.f (layout_meaning l.l)))
