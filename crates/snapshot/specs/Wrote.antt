-- What the functions that write a snapshot answer. Assumes nothing.
use Rattle.std.specs.Prelude.{◌≡◌, List, [], ◌∷◌, ℕ, ◌+◌, length}
use Rattle.std.proofs.Math.Option.{Option, some, none}
use Rattle.std.proofs.lemmas.List.Edits.{sets}
use Rattle.model.specs.Store.{bytes_of}
use Rattle.model.specs.Snapshot.{Entry, components_of, live_version, entry_of, flat}
use Rattle.model.specs.Model.{entity}
use Rattle.memory.specs.Meaning.{meaning}

-- the bytes of one component, with a value of v bytes: "kind 1, value 8"; none where it is not held
abbrev pub one_bytes : ℕ → Option ℕ → ℕ → List ℕ
one_bytes v none k = []
one_bytes v (some x) k = k ∷ bytes_of v x

-- the entity with this index and version, with its components
abbrev pub entry_for : List ℕ → ℕ → ℕ → Entry
entry_for w i v = record { entity = entity i v; components = components_of (entity i v) 0 (meaning w).storage.sets }

-- the bytes of the live entity with index i, with values of v bytes; none where there is none
abbrev pub index_bytes : ℕ → List ℕ → ℕ → List ℕ
index_bytes v w i = flat v (entry_of (live_version i (meaning w).entities.live) i (meaning w).storage.sets)

-- the bytes a were written at `at`, and no other; r is the place after them
pub record WrittenUntil (o o' : List ℕ) (at r : ℕ) (a : List ℕ) : Type 0 where
  pub bytes : o' ≡ sets o at a
  pub next : r ≡ at + length a
