use Prim.Native.Nat.{◌+◌, ◌<◌}
use native.Mathlib.Omega.{arith}
use Rattle.words.specs.Offsets.{LAYOUT}
use Rattle.sound_groups.proofs.CountLaws.{seen_own}
use Rattle.words.specs.Part.{between}
use Rattle.words.proofs.Part.{get_d_between, length_between}
use Rattle.sound_groups.proofs.heads.are_own.Goals as goal

pub mark-seen-requires : goal.mark-seen-requires
mark-seen-requires c = let a = c.args in let w = a.words.now in λ i h. let e = length_between LAYOUT (LAYOUT + a.width) w (omega (arith, c.requires.width_bound)) in let q : i < a.width = omega arith in rw (get_d_between LAYOUT (LAYOUT + a.width) i w 0 (omega arith)) (c.requires.by_index_2 i q)

pub own_all_ok-requires : goal.own_all_ok-requires
own_all_ok-requires c = record { room = c.requires.room; by_index = c.requires.by_index }

pub returns : goal.returns
returns c = let a = c.args in let w = a.words.now in seen_own a.z w c.mark-seen.result (between LAYOUT (LAYOUT + a.width) w) a.registered c.mark-seen.ensures c.requires.by_index c.own_all_ok.result c.own_all_ok.ensures
