-- Removal (component_set.rs): what it asks of the staged kinds, the groups left, and the components gone. Assumes nothing.
use Rattle.std.specs.Prelude.{List, ℕ}
use Rattle.model.specs.Model.{Entity, Storage, on_kinds, remove_row, ungroup}
use Rattle.model.specs.Store.{staged_kinds}
use Rattle.model.specs.Sound.{In, Distinct}
use Rattle.memory.specs.Meaning.{meaning}
use Rattle.memory.specs.Arranged.{Arranged}

-- the staged kinds are registered, each staged once: 01's hand has "distinct kinds"
pub record Staged (w : List ℕ) : Type 0 where
  pub arranged : Arranged w
  pub once : Distinct (staged_kinds (meaning w))
  pub known : (k : ℕ) → In (staged_kinds (meaning w)) k → In (meaning w).kinds k

-- "before any part goes, the groups from each removed kind's own .. to the family's largest are walked downward"; ks are the removed kinds
abbrev pub ungrouped : Entity → List ℕ → Storage → Storage
ungrouped e ks s = ungroup e ks s.sets s.layout

-- "Removal puts the last row in the gap", in the sparse set of each kind of ks
abbrev pub removed : Entity → List ℕ → Storage → Storage
removed e ks s = record { sets = on_kinds ks (remove_row e) s.sets; layout = s.layout }
