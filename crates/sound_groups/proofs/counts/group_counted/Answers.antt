use Prim.Native.Nat.{ℕ, ◌+◌}
use mathlib.Core.Path.{sym, ap, subst, ◌∙◌}
use native.Mathlib.Omega.{arith}
use lib.ListN.{length, get_or}
use Rattle.words.specs.Offsets.{LAYOUT}
use Rattle.words.specs.Decides.{Decides}
use Rattle.component.specs.Changes.{Lent}
use Rattle.component.specs.Columns.{rows_of}
use Rattle.memory.specs.Header.{slot_of, group_family_at, count_at}
use Rattle.sound_columns.proofs.SlotLaws.{rows_most}
use Rattle.sound_groups.specs.Counts.{CountOk}
use Rattle.sound_groups.proofs.CountLaws.{located, count_moved}
use Rattle.sound_groups.proofs.counts.group_counted.Goals as goal

pub slot_at-h-requires-clause-in_bounds : goal.slot_at-h-requires-clause-in_bounds
slot_at-h-requires-clause-in_bounds c =
    let a = c.args in
    let l = located a.z a.words.now a.families (group_family_at a.words.now a.g) a.g _ c.requires.force c.requires.g_bound.0 c.requires.g_bound.1 c.read-metadata.ensures in
    (omega (arith, c.requires.force.long), l.low)

pub slot_at-h-requires-clause-small : goal.slot_at-h-requires-clause-small
slot_at-h-requires-clause-small c =
    let a = c.args in
    let l = located a.z a.words.now a.families (group_family_at a.words.now a.g) a.g _ c.requires.force c.requires.g_bound.0 c.requires.g_bound.1 c.read-metadata.ensures in
    l.first.small

pub len_in-whole-requires : goal.len_in-whole-requires
len_in-whole-requires c =
    let a = c.args in
    let l = located a.z a.words.now a.families (group_family_at a.words.now a.g) a.g _ c.requires.force c.requires.g_bound.0 c.requires.g_bound.1 c.read-metadata.ensures in
    subst (λ (s : ℕ). Lent a.z s a.words.now) (sym c.slot_at-h.ensures) l.first.lent

pub prior_of-b-requires : goal.prior_of-b-requires
prior_of-b-requires c =
    let a = c.args in
    let l = located a.z a.words.now a.families (group_family_at a.words.now a.g) a.g _ c.requires.force c.requires.g_bound.0 c.requires.g_bound.1 c.read-metadata.ensures in
    let lent : Lent a.z c.slot_at-h.result a.words.now = subst (λ (s : ℕ). Lent a.z s a.words.now) (sym c.slot_at-h.ensures) l.first.lent in
    (omega (arith, c.requires.force.long, c.requires.g_bound.0), omega (arith, c.len_in-whole.ensures, rows_most a.z c.slot_at-h.result a.words.now lent, lent.shaped.small))

pub count_ok-requires-clause-in_bounds : goal.count_ok-requires-clause-in_bounds
count_ok-requires-clause-in_bounds c =
    let a = c.args in
    let l = located a.z a.words.now a.families (group_family_at a.words.now a.g) a.g _ c.requires.force c.requires.g_bound.0 c.requires.g_bound.1 c.read-metadata.ensures in
    (omega (arith, c.requires.force.long), subst (λ (s : ℕ). Lent a.z s a.words.now) (sym c.slot_at-h.ensures) l.first.lent)

pub count_ok-requires-clause-kinds_at : goal.count_ok-requires-clause-kinds_at
count_ok-requires-clause-kinds_at c =
    let a = c.args in
    let l = located a.z a.words.now a.families (group_family_at a.words.now a.g) a.g _ c.requires.force c.requires.g_bound.0 c.requires.g_bound.1 c.read-metadata.ensures in
    l.new

pub returns : goal.returns
returns c =
    let a = c.args in
    let l = located a.z a.words.now a.families (group_family_at a.words.now a.g) a.g _ c.requires.force c.requires.g_bound.0 c.requires.g_bound.1 c.read-metadata.ensures in
    let w = a.words.now in
    let r = c.read-metadata.result in
    let counted : Decides c.count_ok.result (CountOk a.z w (slot_of w (get_or w (LAYOUT + r.storage_start) 0)) (LAYOUT + r.new_storage_start) (LAYOUT + r.storage_end) c.prior_of-b.result (count_at w a.g)) =
    rw c.slot_at-h.ensures at c.count_ok.ensures in
    count_moved a.z w a.g (group_family_at w a.g) r c.len_in-whole.result c.prior_of-b.result c.requires.g_bound.0 l.read (ap (λ (s : ℕ). length (rows_of a.z s w)) (sym c.slot_at-h.ensures) ∙ c.len_in-whole.ensures) c.prior_of-b.ensures c.count_ok.result counted
