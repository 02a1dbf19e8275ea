use mathlib.Core.Path.{sym, ◌∙◌}
use Rattle.model.specs.Model.{entity}
use Rattle.memory.specs.Meaning.{meaning}
use Rattle.group.proofs.Storing.{shape_kept}
use Rattle.world.specs.Insert.{inserted}
use Rattle.world.proofs.Whole.{insertable, insert_below, insert_ready, insert_whole}
use Rattle.world.proofs.component_set.insert.Goals as goal

pub insert_staged-requires-clause-insertable : goal.insert_staged-requires-clause-insertable
insert_staged-requires-clause-insertable c = insertable c.args.words.now c.requires.sound c.args.e.index c.args.e.version c.requires.live

pub group-requires : goal.group-requires
group-requires c =
    let a = c.args in
    let w = c.insert_staged.new.words in
    let B = c.insert_staged.ensures in
    let m = c.staged_mask-mask in
    let f = inserted (entity a.e.index a.e.version) (meaning a.words.now).control.staged in
    record { arranged = B.arranged; shape_is = c.shape_of-z.ensures.is ∙ sym (shape_kept a.words.now w f B); below = insert_below a.words.now c.requires.sound a.e.index a.e.version m.result.0 m.ensures w B; ready_up = insert_ready a.words.now c.requires.sound a.e.index a.e.version m.result.0 m.ensures w B }

pub returns : goal.returns
returns c =
    let a = c.args in
    let m = c.staged_mask-mask in
    insert_whole a.words.now c.requires.sound a.e.index a.e.version m.result.0 m.ensures c.insert_staged.new.words c.insert_staged.ensures c.group.new.words c.group.ensures
