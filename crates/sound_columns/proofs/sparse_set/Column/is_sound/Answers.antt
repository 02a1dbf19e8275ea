use mathlib.Core.Path.{◌≡◌, ap, ◌∙◌}
use Prim.Native.Nat.{ℕ, ◌+◌, ◌*◌}
use native.Mathlib.Omega.{arith}
use borrow.Author.Rules.{rules}
use borrow.Author.Tests.{tests}
use lib.ListN.{get_or}
use Rattle.words.specs.Offsets.{ROWS}
use Rattle.words.specs.Counted.{filled}
use Rattle.words.proofs.Decides.{decides_on}
use Rattle.component.specs.SparseSet.{held_of}
use Rattle.sound_columns.proofs.Checking.{live_counted}
use Rattle.sound_columns.proofs.sparse_set.Column.is_sound.Goals as goal

pub returns-then-rows_ok : goal.returns-then-rows_ok
returns-then-rows_ok c =
    let a = c.args.self.now in
    let q : c.lookup_place-lookups.result ≡ ROWS + 2 * a.shape.capacity = omega (arith, c.lookup_place-lookups.ensures.is) in
    let h : c.count_held.result ≡ filled a.shape.capacity (held_of a.shape a.part.now) =
    c.count_held.ensures ∙ ap (λ (k : ℕ). filled a.shape.capacity (λ x. get_or a.part.now (k + 2 * x + 1) 0)) q in
    decides_on _ (live_counted a.shape a.entities.part.now a.part.now c.count_held.result h a.sized (search (rules, tests)) (search (rules, tests))) (search (rules, tests))
