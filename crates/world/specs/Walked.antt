-- The groups that are walked for kinds that go in or out. Assumes nothing.
use Rattle.std.specs.Prelude.{List, ℕ}
use Rattle.model.specs.Model.{Family}
use Rattle.group.specs.Flat.{insert_positions, delete_positions}
use Rattle.world.specs.declared.mask.Walk.{Walk}
use Rattle.world.specs.declared.mask.Walk.TheVariants.{Insert, Delete}

-- insertion: "the touched families' groups"; removal: "the groups from each removed kind's own .. to the family's largest"
abbrev pub walk_positions : Walk → List ℕ → List Family → List ℕ
walk_positions Insert ks fs = insert_positions ks fs
walk_positions Delete ks fs = delete_positions ks fs

-- of a kind whose own group is own, in a family whose first group is first
abbrev pub lowest_of : Walk → ℕ → ℕ → ℕ
lowest_of Insert first own = first
lowest_of Delete first own = own
