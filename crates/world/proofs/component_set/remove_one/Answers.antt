use mathlib.Core.Path.{◌∙◌, subst}
use Prim.Native.Nat.{ℕ}
use Rattle.memory.specs.Meaning.{meaning}
use Rattle.kinds.specs.Kinds.{RemovesKind}
use Rattle.world.proofs.Removing.{kind_at_law, staged_in_law}
use Rattle.model.specs.Model.{entity}
use Rattle.world.proofs.component_set.remove_one.Goals as goal

pub remove-requires-clause-kind_known : goal.remove-requires-clause-kind_known
remove-requires-clause-kind_known c =
    staged_in_law (meaning c.args.words.now) c.requires.staged.known c.args.i c.staged_kind-kind.result c.requires.i_in_bounds c.staged_kind-kind.ensures

pub returns : goal.returns
returns c =
    let a = c.args in
    let r = c.remove in
    subst (λ (k : ℕ). RemovesKind a.words.now r.new.words k (entity a.e.index a.e.version) r.result)
    (c.staged_kind-kind.ensures ∙ kind_at_law (meaning a.words.now).control.staged a.i) r.ensures
