-- The groups' clause by the number of the group. Assumes nothing.
use Rattle.std.specs.Prelude.{List, ℕ, length, get_or}
use Rattle.model.specs.Model.{SparseSet}
use Rattle.model.specs.Sound.{key}
use Rattle.layout.specs.Layout.{Arrays, start_of}
use Rattle.layout.specs.Group.{prior_of, member_at}
use Rattle.layout.specs.Reading.{new_at}
use Rattle.soundness.specs.Groups.{GroupOk}

-- group g of family f; the smallest group's next smaller one is the whole column of the family's first kind
abbrev pub GroupAt : List SparseSet → List ℕ → Arrays → ℕ → ℕ → Type 0
GroupAt sets counts a f g =
    GroupOk sets (member_at a f 0) (new_at a f g) (prior_of counts (start_of a.ends f) g (length (key sets (member_at a f 0)))) (get_or counts g 0)
