-- A live entity is the only version of its index in every sparse set, so that components can go into it. Assumes nothing.
use mathlib.Core.Path.{◌≡◌, ap, sym, ◌∙◌, subst}
use mathlib.Core.Bool.{true, false, false≢true}
use mathlib.Core.List.{List, [], ◌∷◌}
use Prim.Native.Nat.{ℕ, ◌+◌, ◌≤◌, ◌<◌}
use native.Mathlib.Omega.{arith}
use borrow.Author.Tests.{eq-eqb}
use lib.Dec.{eqb}
use lib.ListN.{length, get_or, length-map, get_or-map}
use Rattle.model.specs.Lists.{one}
use Rattle.model.proofs.ListLaws.{count_at_law}
use Rattle.model.specs.Model.{Entity, SparseSet, same_entity, no_entity, no_row, set_of, keys, entity_of, is_live, entity}
use Rattle.model.specs.Store.{Store, staged_kinds}
use Rattle.model.specs.Sound.{cnt, num, In, StoreSound}
use Rattle.model.proofs.SparseSets.{entity_eq, entity_same}
use Rattle.model.proofs.BoolLaws.{bool_cases}
use Rattle.model.proofs.Numbers.{cnt_num}
use Rattle.model.proofs.Operations.{live_count}
use Rattle.component.specs.Stored.{Current}
use Rattle.memory.specs.Header.{capacity_of}
use Rattle.memory.specs.Meaning.{meaning}
use Rattle.memory.specs.Arranged.{Arranged}
use Rattle.memory.proofs.Becomes.{capacity_means}
use Rattle.world.specs.Insert.{OnlyLive, Insertable}

-- one of the index at most
once_index : (x y z : Entity) → x.index ≡ y.index → same_entity x y ≡ false → one (same_entity x z) + one (same_entity y z) ≤ one (eqb x.index z.index)
once_index x y z q ne =
    bool_cases (same_entity x z)
    (λ t.
    let e : x ≡ z = entity_eq x z t in
    let i : one (eqb x.index z.index) ≡ 1 = ap one (eq-eqb x.index z.index (ap (λ (v : Entity). v.index) e)) in
    bool_cases (same_entity y z)
    (λ u. absurd (false≢true (sym ne ∙ subst (λ (v : Entity). same_entity x v ≡ true) (e ∙ sym (entity_eq y z u)) (entity_same x))))
    (λ u. omega (arith, ap one t, ap one u, i)))
    (λ t.
    bool_cases (same_entity y z)
    (λ u.
    let i : one (eqb x.index z.index) ≡ 1 = ap one (eq-eqb x.index z.index (q ∙ ap (λ (v : Entity). v.index) (entity_eq y z u))) in
    omega (arith, ap one t, ap one u, i))
    (λ u. omega (arith, ap one t, ap one u)))

two_live : (x y : Entity) (l : List Entity) → x.index ≡ y.index → same_entity x y ≡ false → cnt x l + cnt y l ≤ num x.index l
two_live x y [] q ne = omega arith
two_live x y (z ∷ l) q ne = omega (arith, two_live x y l q ne, once_index x y z q ne)

-- an entity of a row stands among the entities
row_count : (rows : SparseSet) (i : ℕ) → i < length rows → 1 ≤ cnt (get_or rows i no_row).entity (keys rows)
row_count rows i h =
    subst (λ (e : Entity). 1 ≤ cnt e (keys rows)) (get_or-map entity_of rows i no_row) (count_at_law same_entity entity_same no_entity (keys rows) i (rw (length-map rows entity_of) h))

pub sound_live : (s : Store) → StoreSound s → OnlyLive s
sound_live s S = record { entities = S.entities; alive = S.sets.alive }

pub current : (s : Store) → OnlyLive s → (e : Entity) → is_live e s.entities ≡ true → (k : ℕ) → Current e.index e.version (set_of s.storage.sets k)
current s L e live k i h q =
    let y : Entity = (get_or (set_of s.storage.sets k) i no_row).entity in
    let alive : 1 ≤ cnt y s.entities.live = L.alive y k (row_count (set_of s.storage.sets k) i h) in
    bool_cases (same_entity y e)
    (λ t. ap (λ (x : Entity). x.version) (entity_eq y e t))
    (λ t. absurd (omega (arith, alive, live_count e s.entities live, two_live y e s.entities.live q t, L.entities.single y.index)))

module _ (w : List ℕ) (L : OnlyLive (meaning w)) (x v : ℕ) (live : is_live (entity x v) (meaning w).entities ≡ true) where
  pub live_index : x < capacity_of w
  live_index =
      let i : x < (meaning w).entities.issued = L.entities.below x (omega (arith, live_count (entity x v) (meaning w).entities live, cnt_num (entity x v) (meaning w).entities.live)) in
      omega (arith, i, L.entities.few, capacity_means w)

  pub live_version_law : 1 ≤ v
  live_version_law = L.entities.positive (entity x v) (omega (arith, live_count (entity x v) (meaning w).entities live))

-- the staged components can go into a live entity
pub live_insertable : (w : List ℕ) → Arranged w → OnlyLive (meaning w) → ((k : ℕ) → In (staged_kinds (meaning w)) k → In (meaning w).kinds k)
    → (x v : ℕ) → is_live (entity x v) (meaning w).entities ≡ true → Insertable w x v
live_insertable w A L known x v live =
    record {
      arranged = A;
      below = live_index w L x v live;
      version = live_version_law w L x v live;
      current = current (meaning w) L (entity x v) live;
      known = known;
    }
