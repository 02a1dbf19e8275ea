use mathlib.Core.Path.{ap, subst}
use Prim.Native.Nat.{ℕ, ◌<◌, ◌≤◌}
use Rattle.words.specs.declared.Shape.{Shape}
use Rattle.words.specs.Shape.{shape_of}
use Rattle.values.specs.Values.{value_of}
use Rattle.memory.specs.Meaning.{meaning}
use Rattle.component.specs.Changes.{Only}
use Rattle.model.specs.Model.{kind_of, insert_row, entity}
use Rattle.world.proofs.Removing.{staged_in_law}
use Rattle.world.proofs.Columns.{filling_lent, filling_bounds, filling_current, filling_turn, filling_end}
use Rattle.world.proofs.component_set.insert_column.Goals as goal

pub slot_of-slot-requires-clause-kind_known : goal.slot_of-slot-requires-clause-kind_known
slot_of-slot-requires-clause-kind_known c =
    let p = c.staged_at-c in
    staged_in_law (meaning c.args.words.now) c.requires.all_insertable.known c.args.i p.result.kind c.requires.i_in_bounds (ap kind_of p.ensures)

pub insert_in-requires : goal.insert_in-requires
insert_in-requires c =
    let w = c.args.words.now in
    let p = c.staged_at-c in
    let k = p.result.kind in
    let v = value_of (shape_of c.args.words.now).stride p.result.value in
    let l = c.loop-place in
    let e = c.live_at-e.result in
    let n = c.shape_of-z in
    let t = c.slot_of-slot in
    let h = subst (λ (m : ℕ). l.place < m) c.live_len-len.ensures c.loop-place-test.true in
    let A = c.requires.all_insertable.arranged in
    let known = staged_in_law (meaning w) c.requires.all_insertable.known c.args.i p.result.kind c.requires.i_in_bounds (ap kind_of p.ensures) in record { lent = filling_lent w k v c.args.start l.words l.place l.invariant A known n.result t.result n.ensures.is t.ensures; issued = filling_bounds w k v c.args.start l.words l.place l.invariant A known n.result t.result n.ensures.is t.ensures e.index e.version h c.live_at-e.ensures; current = filling_current w k v c.args.start l.words l.place l.invariant A known n.result t.result n.ensures.is t.ensures e.index e.version h c.live_at-e.ensures }

pub loop-place-preserved : goal.loop-place-preserved
loop-place-preserved c =
    let w = c.args.words.now in
    let p = c.staged_at-c in
    let l = c.loop-place in
    let e = c.live_at-e.result in
    let n = c.shape_of-z in
    let t = c.slot_of-slot in
    let h = subst (λ (m : ℕ). l.place < m) c.live_len-len.ensures c.loop-place-test.true in
    let known = staged_in_law (meaning w) c.requires.all_insertable.known c.args.i p.result.kind c.requires.i_in_bounds (ap kind_of p.ensures) in
    filling_turn w p.result.kind (value_of (shape_of c.args.words.now).stride p.result.value) c.args.start l.words l.place l.invariant c.requires.all_insertable.arranged known n.result t.result n.ensures.is t.ensures e.index e.version h c.live_at-e.ensures c.insert_in.new.words
    (subst (λ (y : Shape). Only n.result t.result (insert_row (entity e.index e.version) (value_of y.stride p.result.value)) l.words c.insert_in.new.words) n.ensures.is c.insert_in.ensures)

pub returns : goal.returns
returns c =
    let p = c.staged_at-c in
    let l = c.loop-place in
    filling_end c.args.words.now p.result.kind (value_of (shape_of c.args.words.now).stride p.result.value) c.args.start l.words l.place l.invariant _ p.ensures (subst (λ (m : ℕ). m ≤ l.place) c.live_len-len.ensures c.loop-place-test.false)
