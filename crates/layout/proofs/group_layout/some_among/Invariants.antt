use mathlib.Core.Path.{◌≡◌}
use Prim.Native.Nat.{◌≤◌}
use lib.ListN.{length, drop}
use Rattle.model.specs.Model.{mem, any_of, meets}
use Rattle.layout.proofs.group_layout.some_among.Given as goal

abbrev pub invariant-loop-k : goal.invariant-loop-k
invariant-loop-k l = (l.k-index ≤ length l.ks) × (meets l.ks l.js ≡ any_of (λ k. mem k l.js) (drop l.k-index l.ks))
