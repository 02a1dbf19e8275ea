use mathlib.Core.Path.{sym, ap, ◌∙◌}
use Prim.Native.Nat.{◌<◌}
use native.Mathlib.Omega.{arith}
use Rattle.model.specs.Model.{Row}
use Rattle.component.specs.SparseSet.{length_of}
use Rattle.component.proofs.Meaning.{length_rows, get_d_rows, sized}
use Rattle.component.proofs.component_sparse_set.value_at.Goals as goal

pub value_of-requires : goal.value_of-requires
value_of-requires c =
    let a = c.args in
    (sized a.z a.part.now c.requires.0, omega (arith, c.requires.1, c.requires.0.linked.room, length_rows a.z a.part.now))

pub returns : goal.returns
returns c =
    let a = c.args in
    let h : a.place < length_of a.part.now = omega (arith, c.requires.1, length_rows a.z a.part.now) in
    c.value_of.ensures ∙ sym (ap (λ (r : Row). r.value) (get_d_rows a.z a.part.now a.place h))
