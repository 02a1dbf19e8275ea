use Prim.Native.Nat.{ℕ, ◌≤◌}
use mathlib.Core.Path.{sym, subst}
use native.Mathlib.Omega.{arith}
use lib.ListN.{length}
use Rattle.sound_columns.proofs.SlotLaws.{rows_most}
use Rattle.component.specs.Changes.{Lent}
use Rattle.component.specs.Columns.{rows_of}
use Rattle.sound_groups.proofs.CountLaws.{even_decided}
use Rattle.sound_groups.proofs.counts.even_ok.Goals as goal

pub same_rows-requires : goal.same_rows-requires
same_rows-requires c =
    let a = c.args in
    let w = a.words.now in
    let s = c.slot_at-s.result in
    let lent : Lent a.z s w = subst (λ (k : ℕ). Lent a.z k w) (sym c.slot_at-s.ensures) c.requires.kind_at.lent in
    let most = rows_most a.z s w lent in
    let few : a.c ≤ length (rows_of a.z s w) = omega (arith, c.len_in.ensures, c.if-c-len_in.true) in
    (omega (arith, most, few, c.column_start-a.ensures.is, lent.size), omega (arith, most, few, c.column_start-b.ensures.is, c.requires.in_bounds.2.size), omega (arith, lent.shaped.small, most, few))

pub returns-then-c-len_in : goal.returns-then-c-len_in
returns-then-c-len_in c =
    let a = c.args in
    let w = a.words.now in
    let s = c.slot_at-s.result in
    let lent : Lent a.z s w = subst (λ (k : ℕ). Lent a.z k w) (sym c.slot_at-s.ensures) c.requires.kind_at.lent in
    let few : a.c ≤ length (rows_of a.z s w) = omega (arith, c.len_in.ensures, c.if-c-len_in.true) in
    even_decided a.z w a.h a.c a.j s c.column_start-a.result c.column_start-b.result c.slot_at-s.ensures c.column_start-a.ensures.is c.column_start-b.ensures.is lent c.requires.in_bounds.2 few c.requires.in_bounds.3 c.same_rows.result c.same_rows.ensures
