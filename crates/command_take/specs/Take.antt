-- TAKE: what goes, and the bytes that tell it. Assumes nothing.
use Rattle.std.specs.Prelude.{◌≡◌, List, ℕ, length}
use Rattle.std.proofs.lemmas.List.Edits.{sets}
use Rattle.model.specs.Model.{Entity, set_of, remove_row, remove}
use Rattle.model.specs.Store.{staged_kinds, on_set, on_storage}
use Rattle.model.specs.Commands.{taken_bytes, held_bytes}
use Rattle.memory.specs.Meaning.{meaning}
use Rattle.memory.specs.Arranged.{Becomes}
use Rattle.world.specs.Remove.{removed}

-- TAKE of one kind k: "remove .. ; 1 byte held, value 8 (zeros if not held)", at `at` of the bytes. 02, No. 13: "HOLD, TAKE .. follow it": a value's bytes
-- are the store's
pub record TakesKind (w w' out out' : List ℕ) (e : Entity) (k at : ℕ) : Type 0 where
  pub becomes : Becomes w w' (on_storage (on_set k (remove_row e)) (meaning w))
  pub bytes : out' ≡ sets out at (taken_bytes (meaning w).settings.value_bytes e (set_of (meaning w).storage.sets k))

-- the same of all staged kinds, "in hand order", where no group is walked; r is how many bytes are written
pub record TakesStaged (w w' out out' : List ℕ) (e : Entity) (at r : ℕ) : Type 0 where
  pub becomes : Becomes w w' (on_storage (removed e (staged_kinds (meaning w))) (meaning w))
  pub bytes : out' ≡ sets out at (held_bytes (meaning w).settings.value_bytes e (staged_kinds (meaning w)) (meaning w).storage)
  pub count : r ≡ length (held_bytes (meaning w).settings.value_bytes e (staged_kinds (meaning w)) (meaning w).storage)

-- TAKE: "remove the hand's kinds; for each in hand order 1 byte held, value 8 (zeros if not held)", at `at` of the bytes
pub record Takes (w w' out out' : List ℕ) (e : Entity) (at r : ℕ) : Type 0 where
  pub becomes : Becomes w w' (on_storage (remove e (staged_kinds (meaning w))) (meaning w))
  pub bytes : out' ≡ sets out at (held_bytes (meaning w).settings.value_bytes e (staged_kinds (meaning w)) (meaning w).storage)
  pub count : r ≡ length (held_bytes (meaning w).settings.value_bytes e (staged_kinds (meaning w)) (meaning w).storage)
