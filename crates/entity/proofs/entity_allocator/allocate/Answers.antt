use mathlib.Core.Path.{◌≡◌, ◌∙◌}
use Prim.Native.Nat.{◌≤◌}
use native.Mathlib.Omega.{arith}
use lib.ListN.{length}
use Rattle.entity.proofs.Lookups.{length_recycled, issued_is}
use Rattle.entity.proofs.ModelSteps.{allocated_none, entity_none, allocated_some, entity_some, not_full}
use Rattle.entity.specs.Meaning.{entities_of}
use Rattle.entity.proofs.entity_allocator.allocate.Goals as goal

pub issue-requires-clause-room : goal.issue-requires-clause-room
issue-requires-clause-room c =
    let a = c.args in
    let t = entities_of a.n a.part.now in
    let e : length t.recycled ≡ 0 = omega (arith, length_recycled a.n a.part.now, c.if-part-eq0.true) in
    omega (arith, not_full t a.n c.requires.room e, issued_is a.n a.part.now)

pub returns-then-part-eq0 : goal.returns-then-part-eq0
returns-then-part-eq0 c =
    let a = c.args in
    let t = entities_of a.n a.part.now in
    let e : length t.recycled ≡ 0 = omega (arith, length_recycled a.n a.part.now, c.if-part-eq0.true) in
    let r = c.issue.ensures in
    record {
      changed = record { sound = r.changed.sound; size = r.changed.size; becomes = r.changed.becomes ∙ allocated_none t e };
      entity = r.entity ∙ entity_none t e;
      idle = r.idle;
      positive = r.positive;
    }

pub returns-else-part-eq0 : goal.returns-else-part-eq0
returns-else-part-eq0 c =
    let a = c.args in
    let t = entities_of a.n a.part.now in
    let e : 1 ≤ length t.recycled = omega (arith, length_recycled a.n a.part.now, c.if-part-eq0.false) in
    let r = c.pop_front.ensures in
    record {
      changed = record { sound = r.changed.sound; size = r.changed.size; becomes = r.changed.becomes ∙ allocated_some t e };
      entity = r.entity ∙ entity_some t e;
      idle = r.idle;
      positive = r.positive;
    }
