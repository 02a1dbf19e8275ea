-- The snapshot, which *roll* writes: "live count 4, then each live card by rising index: index 4, version 4, part count 1, then each part by rising kind:
-- kind 1, value 8". Assumes nothing.
use Rattle.std.specs.Prelude.{◌≡◌, cond, List, [], ◌∷◌, ◌++◌, ℕ, zero, suc, ◌≤◌, eqb, length, get_or}
use Rattle.std.proofs.Math.Option.{Option, some, none}
use Rattle.model.specs.Lists.{count_of}
use Rattle.model.specs.Model.{Entity, SparseSet, Component, same_entity, no_row, at, held, set_of}
use Rattle.model.specs.Store.{Store, bytes_of}

-- a live entity with its components, by rising kind
pub record Entry : Type 0 where
  pub entity : Entity
  pub components : List Component

-- the entity's value in a sparse set
abbrev pub value_at : Entity → SparseSet → Option ℕ
value_at e rows = let v = some (get_or rows (at e rows) no_row).value in cond (held e rows) v none

-- one component more, if there is a value
abbrev pub add_component : Option ℕ → ℕ → List Component → List Component
add_component none k ps = ps
add_component (some v) k ps = record { kind = k; value = v } ∷ ps

-- "each part by rising kind"; k is the kind of the first sparse set
abbrev pub components_of : Entity → ℕ → List SparseSet → List Component
components_of e k [] = []
components_of e k (c ∷ cs) = add_component (value_at e c) k (components_of e (suc k) cs)

-- the version of the live entity with index i, 0 where there is none
abbrev pub live_version : ℕ → List Entity → ℕ
live_version i [] = 0
live_version i (e ∷ es) = cond (eqb i e.index) e.version (live_version i es)

-- an entry for the entity with index i and this version, none at version 0
abbrev pub entry_of : ℕ → ℕ → List SparseSet → List Entry
entry_of zero i sets = []
entry_of (suc v) i sets = record { entity = record { index = i; version = suc v }; components = components_of (record { index = i; version = suc v }) 0 sets } ∷ []

-- "each live card by rising index": those with n indexes from i on
abbrev pub entries : ℕ → ℕ → List Entity → List SparseSet → List Entry
entries i zero live sets = []
entries i (suc n) live sets = entry_of (live_version i live) i sets ++ entries (suc i) n live sets

-- "kind 1, value 8"; here and below v is the number of bytes of a value, which rolls "follow"
abbrev pub component_bytes : ℕ → List Component → List ℕ
component_bytes v [] = []
component_bytes v (p ∷ ps) = p.kind ∷ bytes_of v p.value ++ component_bytes v ps

-- "index 4, version 4, part count 1, then each part"
abbrev pub entry_bytes : ℕ → Entry → List ℕ
entry_bytes v t = bytes_of 4 t.entity.index ++ (bytes_of 4 t.entity.version ++ (length t.components ∷ component_bytes v t.components))

-- the bytes of all entries
abbrev pub flat : ℕ → List Entry → List ℕ
flat v [] = []
flat v (t ∷ ts) = entry_bytes v t ++ flat v ts

-- all live entities: every live index is an issued one
abbrev pub listing : Store → List Entry
listing s = entries 0 s.entities.issued s.entities.live s.storage.sets

-- "live count 4, then each live card"
unfoldable pub snapshot : Store → List ℕ
snapshot s = bytes_of 4 (length s.entities.live) ++ flat s.settings.value_bytes (listing s)

-- ---- what two equal snapshots say

-- 02, No. 13: "A roll's bytes don't tell its width, so demand 3's rule of equal rolls .. is for two stores of one width"
abbrev pub SameWidth : Store → Store → Type 0
SameWidth s t = t.settings.value_bytes ≡ s.settings.value_bytes

-- the same entities are live, and each has the same value, or none, at each kind
pub record Same (s t : Store) : Type 0 where
  pub live : (x : Entity) → count_of same_entity x s.entities.live ≡ count_of same_entity x t.entities.live
  pub values : (x : Entity) → 1 ≤ count_of same_entity x s.entities.live → (k : ℕ) → value_at x (set_of s.storage.sets k) ≡ value_at x (set_of t.storage.sets k)
