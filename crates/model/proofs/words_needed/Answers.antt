use mathlib.Core.Path.{refl}
use native.Mathlib.Omega.{arith}
use Rattle.model.specs.Store.{words_needed}
use Rattle.model.proofs.Widths.{rows_fit, columns_fit}
use Rattle.model.proofs.words_needed.Goals as goal

pub overflow_mul-result-2 : goal.overflow_mul-result-2
overflow_mul-result-2 c = let h = c.requires in omega (arith, rows_fit c.args.n c.args.v h.0 h.2)

pub overflow_add-result-3 : goal.overflow_add-result-3
overflow_add-result-3 c = let h = c.requires in omega (arith, rows_fit c.args.n c.args.v h.0 h.2)

pub overflow_mul-result-3 : goal.overflow_mul-result-3
overflow_mul-result-3 c = let h = c.requires in omega (arith, columns_fit c.args.n c.args.k c.args.v h.0 h.1 h.2)

pub overflow_add-result-4 : goal.overflow_add-result-4
overflow_add-result-4 c = let h = c.requires in omega (arith, columns_fit c.args.n c.args.k c.args.v h.0 h.1 h.2)

pub returns : goal.returns
unfolding words_needed
returns c = refl
