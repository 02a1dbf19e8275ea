use mathlib.Core.Path.{ap}
use Prim.Native.Nat.{ℕ, ◌+◌}
use native.Mathlib.Omega.{arith}
use Rattle.group.specs.Flat.{group_at}
use Rattle.group.proofs.Stepping.{swaps, place_small, still_below, moves}
use Rattle.group.proofs.group_components.Goals as goal

pub swap_kinds-requires-clause-swappable : goal.swap_kinds-requires-clause-swappable
swap_kinds-requires-clause-swappable g c = swaps c.requires.arranged c.requires.stands c.requires.swappable c.requires.stands.counted

pub overflow_add-group_len : goal.overflow_add-group_len
overflow_add-group_len g c = omega (arith, place_small c.requires.arranged c.requires.stands c.requires.swappable, c.requires.stands.counted)

pub set_count-requires-clause-g_bound : goal.set_count-requires-clause-g_bound
set_count-requires-clause-g_bound g c = still_below c.requires.arranged c.requires.stands c.requires.swappable c.requires.stands.counted c.swap_kinds.ensures

pub set_count-requires-clause-count_bound : goal.set_count-requires-clause-count_bound
set_count-requires-clause-count_bound g c = omega (arith, place_small c.requires.arranged c.requires.stands c.requires.swappable, c.requires.stands.counted)

pub returns : goal.returns
unfolding group_at
returns g c =
    let n = c.requires.stands.counted in
    moves c.requires.arranged c.requires.stands c.requires.swappable n c.swap_kinds.ensures (ap (λ (x : ℕ). x + 1) n) c.set_count.ensures
