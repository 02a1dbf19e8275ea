use mathlib.Core.Path.{sym, ◌∙◌}
use native.Mathlib.Omega.{arith}
use Rattle.group.proofs.Stepping.{steps_down, ready_out}
use Rattle.model.specs.Model.{entity}
use Rattle.group.proofs.ungroup_step.Goals as goal

pub count-group_len-requires : goal.count-group_len-requires
count-group_len-requires c = record { arranged = c.requires.arranged; g_bound = c.requires.g_bound }

pub ungroup_components-requires : goal.ungroup_components-requires
ungroup_components-requires c =
    let a = c.args in
    let out = ready_out a.words.now (entity a.e.index a.e.version) a.g (sym c.in-Grouped.is ∙ c.status_in-status.ensures) c.requires.ready_out in
    record { arranged = c.requires.arranged; shape_is = c.requires.shape_is; stands = record { below = c.requires.g_bound; metadata = c.metadata-metadata.ensures; counted = c.count-group_len.ensures }; le_group_len = omega (arith, out.0, c.count-group_len.ensures); swappable = out.1; stands_at = out.2 }

pub shape_of-words-in-Grouped : goal.shape_of-words-in-Grouped
shape_of-words-in-Grouped c = c.ungroup_components.auto.words

pub returns-in-Grouped : goal.returns-in-Grouped
returns-in-Grouped c =
    let a = c.args in
    steps_down (entity a.e.index a.e.version) a.g (sym c.in-Grouped.is ∙ c.status_in-status.ensures) c.ungroup_components.ensures
