-- What the readers of a block's words promise. Working vocabulary. Assumes nothing.
use Rattle.std.specs.Prelude.{◌≡◌, List, ℕ, ◌+◌, ◌<◌, get_or, drop}
use Rattle.words.specs.Offsets.{LAYOUT, LAYOUT_ARITIES, LAYOUT_ENDS, LAYOUT_FAMILIES, LAYOUT_KIND_ENDS}
use Rattle.words.specs.Part.{between}
use Rattle.layout.specs.Layout.{Arrays, arrays_in, start_of, kinds_at}
use Rattle.layout.specs.Group.{arity_of, prior_of, prior_arity}
use Rattle.layout.specs.declared.group_metadata.GroupMetadata.{GroupMetadata}

-- the new kinds of group g of family f (01: its ring): the family's kinds from the arity before to its own
abbrev pub new_at : Arrays → ℕ → ℕ → List ℕ
new_at a f g = between (prior_arity a f g) (arity_of a g) (kinds_at a f)

-- where number f starts, and what stands before group g, of the numbers that the words have from `at` on
pub record ReadStart (w : List ℕ) (at f r : ℕ) : Type 0 where
  pub is : r ≡ start_of (drop at w) f
  pub small : r < 4294967296

pub record ReadPrior (w : List ℕ) (at start g none r : ℕ) : Type 0 where
  pub is : r ≡ prior_of (drop at w) start g none
  pub small : r < 4294967296

-- the arrays of the layout in force, each being the words from its first on
abbrev pub word_arrays : List ℕ → Arrays
word_arrays w = arrays_in (drop LAYOUT w) (drop LAYOUT_ARITIES w) (drop LAYOUT_KIND_ENDS w) (drop LAYOUT_ENDS w) (get_or w LAYOUT_FAMILIES 0)

-- where the kinds of group g of family f and its new kinds stand among all kinds, and its family's groups; a place is a sum of two words
pub record ReadMetadata (a : Arrays) (f g : ℕ) (r : GroupMetadata) : Type 0 where
  pub start : r.storage_start ≡ start_of a.kind_ends f
  pub new : r.new_storage_start ≡ start_of a.kind_ends f + prior_arity a f g
  pub end : r.storage_end ≡ start_of a.kind_ends f + arity_of a g
  pub first : r.first ≡ start_of a.ends f
  pub top : r.top ≡ get_or a.ends f 0
  pub small : (r.new_storage_start < 8589934592) × (r.storage_end < 8589934592)
