-- Insertion (component_set.rs): what it asks, and the staged components gone in; and many entities with them. Assumes nothing.
use Rattle.std.specs.Prelude.{List, [], ◌∷◌, ℕ, ◌≤◌, ◌<◌, set}
use Rattle.model.specs.Model.{Entity, Component, SparseSet, Storage, set_of, insert_row, insert_all, create_each, extend}
use Rattle.model.specs.Store.{Store, staged_kinds, on_set, with_entities, with_all}
use Rattle.model.specs.Sound.{In, cnt, key, EntitiesSound}
use Rattle.component.specs.Stored.{Current}
use Rattle.kinds.specs.Kinds.{kind_set}
use Rattle.memory.specs.Header.{capacity_of}
use Rattle.memory.specs.Meaning.{meaning}
use Rattle.memory.specs.Arranged.{Arranged}

-- of soundness, what insertion into a live entity rests on: numbers by which an index is live once, and sparse sets that hold live entities only. The
-- groups have no part in it: they need not be right
pub record OnlyLive (s : Store) : Type 0 where
  pub entities : EntitiesSound s.settings.capacity s.entities
  pub alive : (x : Entity) (k : ℕ) → 1 ≤ cnt x (key s.storage.sets k) → 1 ≤ cnt x s.entities.live

-- the staged components can go into the entity x, v: no sparse set holds another version of x, and the staged kinds are registered
pub record Insertable (w : List ℕ) (x v : ℕ) : Type 0 where
  pub arranged : Arranged w
  pub below : x < capacity_of w
  pub version : 1 ≤ v
  pub current : (k : ℕ) → Current x v (kind_set w k)
  pub known : (k : ℕ) → In (staged_kinds (meaning w)) k → In (meaning w).kinds k

-- "Inserting a held kind replaces its value where it is, else appends."
abbrev pub insert_one : Entity → Component → Storage → Storage
insert_one e p s = on_set p.kind (insert_row e p.value) s

-- "Insertion: all parts go in", before any walk
abbrev pub inserted : Entity → List Component → Storage → Storage
inserted e ps s = record { sets = insert_all e ps s.sets; layout = s.layout }

-- ---- many new entities, kind by kind

-- a row for each of the entities, all with the value v
abbrev pub insert_rows : List Entity → ℕ → SparseSet → SparseSet
insert_rows [] v rows = rows
insert_rows (e ∷ es) v rows = insert_rows es v (insert_row e v rows)

-- a component goes into all of the entities
abbrev pub insert_column : List Entity → Component → Storage → Storage
insert_column es p s = on_set p.kind (insert_rows es p.value) s

-- each component in turn
abbrev pub insert_columns : List Entity → List Component → List SparseSet → List SparseSet
insert_columns es [] sets = sets
insert_columns es (p ∷ ps) sets = insert_columns es ps (set sets p.kind (insert_rows es p.value (set_of sets p.kind)))

abbrev pub inserted_each : List Entity → List Component → Storage → Storage
inserted_each es ps s = record { sets = insert_columns es ps s.sets; layout = s.layout }

-- components can go into every live entity
pub record AllInsertable (w : List ℕ) : Type 0 where
  pub arranged : Arranged w
  pub live : OnlyLive (meaning w)
  pub known : (k : ℕ) → In (staged_kinds (meaning w)) k → In (meaning w).kinds k

-- n new entities, which have no component yet: the storage has no part in it
abbrev pub with_created : ℕ → Store → Store
with_created n s = with_entities s (create_each n [] s.entities s.storage).entities

-- n new entities with the staged components: "all insertions first, then grouping"
abbrev pub extended : ℕ → Store → Store
extended n s = let x = extend n s.control.staged s.entities s.storage in with_all s x.entities x.storage s.control
