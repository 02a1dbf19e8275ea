use mathlib.Core.Path.{sym, subst, ◌∙◌}
use Prim.Native.Nat.{ℕ}
use native.Mathlib.Omega.{arith}
use Rattle.words.proofs.Offsets.{column_start_mono, column_start_first, column_start_needed}
use Rattle.words.specs.Shape.{shape}
use Rattle.memory.specs.Fresh.{Cleared}
use Rattle.memory.proofs.EmptyStore.{made}
use Rattle.memory.proofs.empty.make.Goals as goal

pub clear-requires : goal.clear-requires
clear-requires c = omega (arith, c.words_needed-end.ensures, column_start_needed c.args.n c.args.k c.args.v, c.requires.k_in_bounds)

pub put_table-requires : goal.put_table-requires
put_table-requires c =
    let a = c.args in
    omega (arith, c.clear.ensures.size, c.requires.k_in_bounds, column_start_first (shape a.n a.v), column_start_mono (shape a.n a.v) 0 a.k (omega arith))

pub returns : goal.returns
returns c =
    let a = c.args in
    made a.n a.k a.v a.newer a.words.now c.clear.new.words c.put_table.new.words c.requires.limits c.requires.k_in_bounds
    (subst (λ (e : ℕ). Cleared c.args.words.now e c.clear.new.words) (c.words_needed-end.ensures ∙ sym (column_start_needed a.n a.k a.v)) c.clear.ensures)
    c.put_table.ensures
