use mathlib.Core.Path.{◌≡◌, ap}
use Prim.Native.Nat.{ℕ, ◌+◌}
use native.Mathlib.Omega.{arith}
use lib.ListN.{get_or}
use Rattle.component.specs.SparseSet.{held_of}
use Rattle.component.proofs.Places.{finds_at, finds_nothing}
use Rattle.component.proofs.sparse_vec.find_issued.Goals as goal

pub returns-then-v-e : goal.returns-then-v-e
returns-then-v-e c =
    let a = c.args in
    let e : get_or a.part.now (c.lookup_place-s.result + 1) 0 ≡ held_of a.z a.part.now a.e.index = ap (λ (i : ℕ). get_or a.part.now (i + 1) 0) c.lookup_place-s.ensures.is in
    finds_nothing a.z a.part.now c.requires.column_sound a.e.index a.e.version (omega (arith, e))

pub returns : goal.returns
returns c =
    let a = c.args in
    let e : get_or a.part.now (c.lookup_place-s.result + 1) 0 ≡ held_of a.z a.part.now a.e.index = ap (λ (i : ℕ). get_or a.part.now (i + 1) 0) c.lookup_place-s.ensures.is in
    rw c.lookup_place-s.ensures.is (finds_at a.z a.part.now c.requires.column_sound a.e.index a.e.version c.requires.issued.0 c.requires.issued.1 (omega (arith, e)))
