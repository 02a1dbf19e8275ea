use Rattle.world.proofs.Whole.{delete_inside, delete_ready, ungroup_whole}
use Rattle.model.specs.Model.{entity}
use Rattle.world.proofs.component_set.ungroup_staged.Goals as goal

pub ungroup-requires : goal.ungroup-requires
ungroup-requires c =
    let a = c.args in
    let m = c.staged_mask-mask in
    let e = entity a.e.index a.e.version in
    record { arranged = c.requires.sound.arranged; shape_is = c.requires.shape_is; below = delete_inside a.words.now c.requires.sound e m.result.0 m.ensures; ready_down = delete_ready a.words.now c.requires.sound e m.result.0 m.ensures }

pub returns : goal.returns
returns c =
    let a = c.args in
    let m = c.staged_mask-mask in
    ungroup_whole a.words.now c.requires.sound (entity a.e.index a.e.version) m.result.0 m.ensures c.ungroup.new.words c.ungroup.ensures
