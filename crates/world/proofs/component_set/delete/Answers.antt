use mathlib.Core.Path.{sym, ◌∙◌}
use Rattle.model.specs.Store.{staged_kinds}
use Rattle.memory.specs.Meaning.{meaning}
use Rattle.group.proofs.Storing.{shape_kept}
use Rattle.world.specs.Remove.{ungrouped}
use Rattle.world.proofs.Whole.{staged_after, delete_whole}
use Rattle.model.specs.Model.{entity}
use Rattle.world.proofs.component_set.delete.Goals as goal

pub delete_staged-requires : goal.delete_staged-requires
delete_staged-requires c =
    let u = c.ungroup_staged in
    record { staged = staged_after c.args.words.now c.requires (entity c.args.e.index c.args.e.version) u.new.words u.ensures; shape_is = c.shape_of-z.ensures.is ∙ sym (shape_kept c.args.words.now u.new.words (ungrouped (entity c.args.e.index c.args.e.version) (staged_kinds (meaning c.args.words.now))) u.ensures) }

pub returns : goal.returns
returns c =
    delete_whole c.args.words.now c.requires (entity c.args.e.index c.args.e.version) c.ungroup_staged.new.words c.ungroup_staged.ensures c.delete_staged.new.words c.delete_staged.ensures
