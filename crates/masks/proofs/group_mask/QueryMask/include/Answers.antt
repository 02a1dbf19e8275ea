use mathlib.Core.Path.{ap, ◌∙◌}
use native.Mathlib.Nat.{sub-zero}
use Rattle.masks.specs.Masks.{up_from}
use Rattle.masks.proofs.group_mask.QueryMask.include.Goals as goal

pub returns : goal.returns
returns c =
    record {
      include = c.from_to-include.ensures ∙ ap (up_from 0) (sub-zero c.args.arity);
      exclude = c.empty-exclude.ensures;
    }
