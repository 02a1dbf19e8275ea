-- The model's create and destroy, made of their steps. Assumes nothing.
use mathlib.Core.Path.{◌≡◌, refl, sym, ap}
use mathlib.Core.Bool.{Bool, true, false, cond}
use mathlib.Core.List.{List, [], ◌∷◌, ◌++◌}
use Prim.Native.Nat.{ℕ, suc, ◌+◌, ◌≤◌, ◌<◌}
use native.Mathlib.Omega.{arith}
use native.Mathlib.Nat.{not-suc-le-zero}
use borrow.Author.Tests.{lt-ltb, le-ltb, eq-eqb, ne_eqb, leb-false}
use lib.Dec.{ltb}
use lib.ListN.{length, get_or, drop}
use Rattle.model.specs.Lists.{place}
use Rattle.model.specs.Model.{Entity, Entities, no_entity, same_entity, last_version, create, create_with, destroy, entity, is_full}
use Rattle.entity.specs.Change.{joined, left, queued, unqueued, numbered, allocated_from, allocated, recycled_as}

-- create: a number is taken, and joins the live list
pub create_steps : (s : Entities) → (create s).entities ≡ joined (create s).entity (allocated s)
unfolding create
create_steps s = go s.recycled refl
  where
    go : (es : List Entity) → s.recycled ≡ es → (create_with es s).entities ≡ joined (create_with es s).entity (allocated_from es s)
    go [] e = λ i. record { live = s.live ++ (entity s.issued 1 ∷ []); recycled = sym e i; issued = suc s.issued }
    go (x ∷ es) e = λ i. record { live = s.live ++ (x ∷ []); recycled = ap (drop 1) (sym e) i; issued = s.issued }

recycling : (b : Bool) (t : Entities) (x : Entity) → cond b (queued x t) t ≡ record { live = t.live; recycled = cond b (t.recycled ++ (x ∷ [])) t.recycled; issued = t.issued }
recycling true t x = refl
recycling false t x = refl

module _ (s : Entities) where
  pub allocated_live : (allocated s).live ≡ s.live
  allocated_live = go s.recycled
    where
      go : (es : List Entity) → (allocated_from es s).live ≡ s.live
      go [] = refl
      go (x ∷ es) = refl

  -- where none waits, the next index
  pub allocated_none : length s.recycled ≡ 0 → numbered s ≡ allocated s
  allocated_none h = go s.recycled h
    where
      go : (es : List Entity) → length es ≡ 0 → numbered s ≡ allocated_from es s
      go [] e = refl
      go (x ∷ es) e = absurd (omega arith)

  pub entity_none : length s.recycled ≡ 0 → entity s.issued 1 ≡ (create s).entity
  unfolding create
  entity_none h = go s.recycled h
    where
      go : (es : List Entity) → length es ≡ 0 → entity s.issued 1 ≡ (create_with es s).entity
      go [] e = refl
      go (x ∷ es) e = absurd (omega arith)

  -- else the one that waits longest
  pub allocated_some : 1 ≤ length s.recycled → unqueued s ≡ allocated s
  allocated_some h = go s.recycled h
    where
      go : (es : List Entity) → 1 ≤ length es → unqueued s ≡ allocated_from es s
      go [] e = absurd (not-suc-le-zero e)
      go (x ∷ es) e = refl

  pub entity_some : 1 ≤ length s.recycled → get_or s.recycled 0 no_entity ≡ (create s).entity
  unfolding create
  entity_some h = go s.recycled h
    where
      go : (es : List Entity) → 1 ≤ length es → get_or es 0 no_entity ≡ (create_with es s).entity
      go [] e = absurd (not-suc-le-zero e)
      go (x ∷ es) e = refl

  -- destroy: the entity leaves the live list, and its number is recycled
  pub destroy_steps : (e : Entity) → recycled_as e (left (place same_entity e s.live) s) ≡ destroy e s
  unfolding destroy
  destroy_steps e = recycling (ltb e.version last_version) (left (place same_entity e s.live) s) (entity e.index (suc e.version))

  pub recycled_next : (e : Entity) → e.version < last_version → queued (entity e.index (e.version + 1)) s ≡ recycled_as e s
  recycled_next e h = rw (lt-ltb e.version last_version h) (ap (λ (v : ℕ). queued (entity e.index v) s) (omega arith))

  pub recycled_last : (e : Entity) → last_version ≤ e.version → s ≡ recycled_as e s
  recycled_last e h = rw (le-ltb e.version last_version h)

  module _ (n : ℕ) where
    pub full_waiting : (length s.recycled ≡ 0 → ⊥) → false ≡ is_full n s
    full_waiting h = rw (ne_eqb (length s.recycled) 0 h)

    -- where none waits and it is not full, an index is left
    pub not_full : is_full n s ≡ false → length s.recycled ≡ 0 → s.issued < n
    not_full f e = leb-false n s.issued (rw (eq-eqb (length s.recycled) 0 e) at f)
