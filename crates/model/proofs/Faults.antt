-- "Faults to exclude", each told apart from what is right by a computed answer: layout {1,2}, {1,2,3,4} and the entities of 01's examples. The theorems
-- in the other files exclude the faults in general; here a fault shows as a wrong list. Assumes nothing.
use mathlib.Core.Path.{◌≡◌, refl}
use mathlib.Core.Bool.{false}
use mathlib.Core.List.{[], ◌∷◌}
use Rattle.model.specs.Model.{entity, set_of, held}
use Rattle.model.specs.Examples.{counts_of, indexes, example_store, after_kill}

-- removing before leaving the groups: the groups would still count entity 1
groups_left_first : counts_of after_kill.storage.layout ≡ 2 ∷ 0 ∷ []
unfolding after_kill counts_of
groups_left_first = refl

-- leaving the smallest group first: the larger group's step would swap entity 1 back to the front
largest_left_first : indexes 1 after_kill.storage ≡ 2 ∷ 0 ∷ 3 ∷ []
unfolding after_kill indexes
largest_left_first = refl

-- swapping in the ring only: entity 1 would come to the front of columns 3 and 4 alone
swapped_in_all : indexes 1 example_store.storage ≡ 1 ∷ 0 ∷ 2 ∷ 3 ∷ []
unfolding example_store indexes
swapped_in_all = refl

-- going on upward after a missing part: entities 0, 2 and 3 would be counted in the larger group
stopped_at_missing : counts_of example_store.storage.layout ≡ 3 ∷ 1 ∷ []
unfolding example_store counts_of
stopped_at_missing = refl

-- ignoring versions: entity 1 at version 2 would be found
versions_looked_at : held (entity 1 2) (set_of example_store.storage.sets 1) ≡ false
unfolding example_store
versions_looked_at = refl
