-- What GROUP reads of the store, and the draft by value that it makes. Assumes nothing.
use Rattle.std.specs.Prelude.{◌≡◌}
use Rattle.model.specs.Adding.{add_group}
use Rattle.model.specs.Store.{Store, staged_kinds}
use Rattle.layout.specs.declared.group_layout.Answer.{Answer}
use Rattle.layout.specs.ByValue.{Formed}
use Rattle.layout.specs.ByValue as layout
use Rattle.layout.specs.Add.{model_of}

-- 01, GROUP: "the hand's kinds into the draft": the answer is the model's of the store's hand and draft, its layout such as a block of words holds
pub record Drafts (s : Store) (r : Answer) : Type 0 where
  pub formed : Formed r.layout
  pub says : model_of r.outcome (layout.layout_meaning r.layout) ≡ add_group (staged_kinds s) s.control.draft
