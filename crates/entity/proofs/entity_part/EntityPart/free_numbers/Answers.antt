use mathlib.Core.Path.{ap₂, sym}
use Prim.Native.Nat.{ℕ, ◌+◌, ◌-◌}
use Rattle.entity.proofs.Lookups.{length_recycled, issued_is}
use Rattle.entity.proofs.entity_part.EntityPart.free_numbers.Goals as goal

pub returns : goal.returns
returns c =
    let p = c.args.self.now in
    sym (ap₂ (λ (l i : ℕ). l + (p.capacity - i)) (length_recycled p.capacity p.part.now) (issued_is p.capacity p.part.now))
