use mathlib.Core.Path.{sym, ◌∙◌}
use mathlib.Core.List.{reverse}
use Rattle.masks.specs.Masks.{up_from}
use Rattle.memory.specs.Meaning.{meaning}
use Rattle.group.specs.Flat.{walk_down}
use Rattle.group.proofs.Storing.{shape_kept}
use Rattle.world.proofs.Whole.{strip_ready, strip_once, strip_whole}
use Rattle.model.specs.Model.{groups_of, entity}
use Rattle.world.proofs.component_storage.strip.Goals as goal

pub ungroup_all-requires-clause-ready_down : goal.ungroup_all-requires-clause-ready_down
ungroup_all-requires-clause-ready_down c = strip_ready c.args.words.now c.requires (entity c.args.e.index c.args.e.version)

pub strip_sets-requires : goal.strip_sets-requires
strip_sets-requires c =
    let e = entity c.args.e.index c.args.e.version in
    let u = c.ungroup_all in
    record { arranged = u.ensures.arranged; shape_is = c.shape_of-z.ensures.is ∙ sym (shape_kept c.args.words.now u.new.words (walk_down e (reverse (up_from 0 (groups_of (meaning c.args.words.now).storage.layout)))) u.ensures); distinct = strip_once c.args.words.now c.requires e u.new.words u.ensures }

pub returns : goal.returns
returns c =
    strip_whole c.args.words.now c.requires (entity c.args.e.index c.args.e.version) c.ungroup_all.new.words c.ungroup_all.ensures c.strip_sets.new.words c.strip_sets.ensures
