-- The draft layout, by value. Assumes nothing.
use Rattle.std.specs.Prelude.{◌≡◌, List, ℕ}
use Rattle.model.specs.Store.{Store, with_control, with_draft}
use Rattle.layout.specs.declared.group_layout.Layout.{Layout}
use Rattle.layout.specs.ByValue.{Formed}
use Rattle.layout.specs.ByValue as layout
use Rattle.memory.specs.Meaning.{meaning}

-- the struct is the store's draft
pub record IsDraft (w : List ℕ) (r : Layout) : Type 0 where
  pub formed : Formed r
  pub means : layout.layout_meaning r ≡ (meaning w).control.draft

-- 01, GROUP: "the hand's kinds into the draft"; the draft has become what the struct means
abbrev pub drafting : Layout → Store → Store
drafting l s = with_control s (with_draft s.control (layout.layout_meaning l))
