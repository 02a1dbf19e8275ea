use mathlib.Core.Path.{sym, ap, ◌∙◌}
use Prim.Native.Nat.{ℕ}
use Rattle.entity.proofs.Lookups.{found_live, found_place}
use Rattle.entity.proofs.ModelSteps.{destroy_steps}
use Rattle.entity.specs.Meaning.{entities_of}
use Rattle.entity.specs.Change.{left, recycled_as}
use Rattle.model.specs.Model.{entity}
use Rattle.entity.proofs.entity_storage.destroy.Goals as goal

pub remove-requires-clause-in_range : goal.remove-requires-clause-in_range
remove-requires-clause-in_range c = let a = c.args in (found_place a.n a.part.now a.e.index a.e.version a.place c.requires.live_at).0

pub recycle-requires-clause-idle : goal.recycle-requires-clause-idle
recycle-requires-clause-idle c =
    let a = c.args in
    let q = found_place a.n a.part.now a.e.index a.e.version a.place c.requires.live_at in
    rw q.1 at c.remove.ensures.1

pub returns : goal.returns
returns c =
    let a = c.args in
    let e = entity a.e.index a.e.version in
    let t = entities_of a.n a.part.now in
    let r = c.remove.ensures.0 in
    let u = c.recycle.ensures in
    record {
      sound = u.sound;
      size = u.size ∙ r.size;
      becomes = u.becomes ∙ ap (recycled_as e) (r.becomes ∙ ap (λ (k : ℕ). left k t) (sym (found_live e t a.place c.requires.live_at).1)) ∙ destroy_steps t e;
    }
