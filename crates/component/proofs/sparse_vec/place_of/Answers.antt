use native.Mathlib.Omega.{arith}
use Rattle.component.proofs.Held.{held_index, held_place}
use Rattle.component.proofs.sparse_vec.place_of.Goals as goal

pub lookup_place-s-requires : goal.lookup_place-s-requires
lookup_place-s-requires c =
    let a = c.args in
    let h = held_index a.z a.part.now c.requires.column_sound a.e.index a.e.version c.requires.holds in
    (c.requires.column_sound.shaped, omega (arith, h))

pub bounds-part-s : goal.bounds-part-s
bounds-part-s c =
    let a = c.args in
    let h = held_index a.z a.part.now c.requires.column_sound a.e.index a.e.version c.requires.holds in
    omega (arith, h, c.requires.column_sound.size, c.lookup_place-s.ensures.is)

pub returns : goal.returns
returns c =
    let a = c.args in
    rw c.lookup_place-s.ensures.is (held_place a.z a.part.now c.requires.column_sound a.e.index a.e.version c.requires.holds)
