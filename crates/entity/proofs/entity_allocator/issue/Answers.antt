use mathlib.Core.Path.{sym, ap}
use Prim.Native.Nat.{ℕ}
use native.Mathlib.Omega.{arith}
use Rattle.entity.proofs.QueueSteps.{numbered_changed, numbered_idle}
use Rattle.entity.proofs.Lookups.{issued_is}
use Rattle.model.specs.Model.{entity}
use Rattle.entity.proofs.entity_allocator.issue.Goals as goal

pub returns : goal.returns
returns c =
    let a = c.args in
    record {
      changed = numbered_changed a.n a.part.now c.requires.sound c.requires.room;
      entity = ap (λ (x : ℕ). entity x 1) (sym (issued_is a.n a.part.now));
      idle = numbered_idle a.n a.part.now c.requires.sound c.requires.room;
      positive = omega arith;
    }
