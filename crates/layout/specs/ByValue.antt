-- A layout by value, and when it is well formed. Working vocabulary. Assumes nothing.
use Rattle.std.specs.Prelude.{◌≡◌, List, [], ℕ, length}
use Rattle.model.specs.Numbers.{MAX_KINDS}
use Rattle.words.specs.Offsets.{GROUP_PLACES}
use Rattle.model.specs.Model.{Family}
use Rattle.layout.specs.declared.group_layout.Layout.{Layout}
use Rattle.layout.specs.Layout.{Arrays, arrays_in, block_arrays, width_of, group_count, families_of, WellFormed}

-- its arrays
abbrev pub arrays_of : Layout → Arrays
arrays_of l = arrays_in l.kinds l.arities l.kind_ends l.ends l.families

-- arrays as long as the struct's
pub record ArraysSized (a : Arrays) : Type 0 where
  pub kinds : length a.kinds ≡ MAX_KINDS
  pub arities : length a.arities ≡ GROUP_PLACES
  pub kind_ends : length a.kind_ends ≡ GROUP_PLACES
  pub ends : length a.ends ≡ GROUP_PLACES

-- the families that it means, and those that a block does; neither counts
abbrev pub layout_meaning : Layout → List Family
layout_meaning l = families_of [] (arrays_of l)

abbrev pub block_meaning : List ℕ → ℕ → List Family
block_meaning w n = families_of [] (block_arrays w n)

-- the struct also has the two numbers beside the arrays
pub record Formed (l : Layout) : Type 0 where
  pub good : WellFormed (arrays_of l)
  pub width : l.width ≡ width_of (arrays_of l)
  pub groups : l.groups ≡ group_count (arrays_of l)
