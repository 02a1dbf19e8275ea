use mathlib.Core.Path.{ap, sym, ◌∙◌}
use Rattle.memory.specs.Meaning.{meaning}
use Rattle.group.proofs.Storing.{shape_kept}
use Rattle.world.specs.Remove.{ungrouped}
use Rattle.world.proofs.Whole.{staged_after, count_after}
use Rattle.command_take.proofs.Whole.{take_whole}
use Rattle.model.specs.Model.{entity}
use Rattle.model.specs.Store.{Store, staged_kinds}
use Rattle.command_take.proofs.take_out.Goals as goal

pub take_staged-requires : goal.take_staged-requires
take_staged-requires c =
    let w = c.args.words.now in
    let e = entity c.args.e.index c.args.e.version in
    let u = c.ungroup_staged in
    let n = count_after w c.requires.sound e u.new.words u.ensures in
    let v = ap (λ (m : Store). m.settings.value_bytes) u.ensures.means in
    record { staged = staged_after w c.requires.sound e u.new.words u.ensures; shape_is = c.shape_of-z.ensures.is ∙ sym (shape_kept w u.new.words (ungrouped e (staged_kinds (meaning w))) u.ensures); room = rw (v, n) c.requires.room }

pub returns : goal.returns
returns c =
    let a = c.args in
    let u = c.ungroup_staged in
    let t = c.take_staged in
    take_whole a.words.now c.requires.sound (entity a.e.index a.e.version) u.new.words u.ensures t.new.words a.out.now _ a.at _ t.ensures
