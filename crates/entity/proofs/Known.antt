-- What callers may use of a sound part's entities: their indices are below the capacity, their versions 1 or more. Assumes nothing.
use mathlib.Core.Path.{◌≡◌}
use mathlib.Core.Bool.{true}
use mathlib.Core.List.{List}
use Prim.Native.Nat.{ℕ, ◌≤◌, ◌<◌}
use native.Mathlib.Omega.{arith}
use borrow.Author.Tests.{ltb-true}
use lib.ListN.{length, get_or}
use Rattle.model.specs.Lists.{place}
use Rattle.model.proofs.ListLaws.{get_d_place}
use Rattle.model.specs.Model.{Entity, no_entity, same_entity, is_live}
use Rattle.model.proofs.SparseSets.{entity_eq}
use Rattle.entity.specs.Meaning.{EntityPartSound, entities_of, len_of}
use Rattle.entity.proofs.Lookups.{length_live, get_d_live, issued_is}

-- an entity that a column can hold
pub record Known (n : ℕ) (e : Entity) : Type 0 where
  pub below : e.index < n
  pub positive : 1 ≤ e.version

module _ (n : ℕ) (w : List ℕ) (s : EntityPartSound n w) where
  pub live_few : length (entities_of n w).live ≤ n
  live_few = omega (arith, length_live n w, s.linked.room)

  pub issued_few : (entities_of n w).issued ≤ n
  issued_few = omega (arith, issued_is n w, s.few)

  pub known_at : (i : ℕ) → i < length (entities_of n w).live → Known n (get_or (entities_of n w).live i no_entity)
  known_at i h =
      let b : i < len_of w = omega (arith, length_live n w) in
      let t = s.linked.tied i b in
      rw (get_d_live n w i b) (record { below = t.below; positive = t.issued })

  pub known_live : (e : Entity) → is_live e (entities_of n w) ≡ true → Known n e
  known_live e h =
      let l = (entities_of n w).live in
      let b = ltb-true (place same_entity e l) (length l) h in
      rw (get_d_place same_entity entity_eq e no_entity l b) at (known_at (place same_entity e l) b)

-- a new entity is known
