-- A group of a layout by its number g, its place among all groups: its family f, its arity, what stands before it in its family, its new kinds.
-- Assumes nothing.
use Rattle.std.specs.Prelude.{cond, List, ℕ, ◌+◌, ◌-◌, ◌≤◌, ◌<◌, ltb, get_or}
use Rattle.layout.specs.Layout.{Arrays, start_of}

-- group g is one of family f
pub record InFamily (a : Arrays) (f g : ℕ) : Type 0 where
  pub family : f < a.families
  pub low : start_of a.ends f ≤ g
  pub high : g < get_or a.ends f 0

-- how many kinds group g has: the first so many of its family's
abbrev pub arity_of : Arrays → ℕ → ℕ
arity_of a g = get_or a.arities g 0

-- what a list of the groups' numbers (arities, counts) has for the group before g; `none` where g is its family's smallest, whose number is `start`
abbrev pub prior_of : List ℕ → ℕ → ℕ → ℕ → ℕ
prior_of l start g none = cond (ltb start g) (get_or l (g - 1) 0) none

-- the arity of the group before g in its family f, 0 where g is the family's smallest
abbrev pub prior_arity : Arrays → ℕ → ℕ → ℕ
prior_arity a f g = prior_of a.arities (start_of a.ends f) g 0

-- the kind at place j of family f
abbrev pub member_at : Arrays → ℕ → ℕ → ℕ
member_at a f j = get_or a.kinds (start_of a.kind_ends f + j) 0
