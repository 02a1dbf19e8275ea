-- The numbers: each issued index is live or recycled at most once. Assumes nothing.
use mathlib.Core.Path.{◌≡◌, refl, ap, ◌∙◌}
use mathlib.Core.Bool.{Bool, true, false, ◌&&◌}
use mathlib.Core.List.{List, [], ◌∷◌, ◌++◌, map}
use Prim.Native.Nat.{ℕ, suc, ◌+◌, ◌≤◌, ◌<◌}
use native.Mathlib.Omega.{arith}
use borrow.Author.Tests.{ltb-true, eq-eqb, ne_eqb}
use lib.Dec.{ltb, eqb}
use lib.ListN.{length, get_or, get_or-map, length-map}
use Rattle.model.specs.Lists.{one, count_of}
use Rattle.model.proofs.ListLaws.{count_append, count_place, get_d_place, count_cut, count_cut_at, map_cut_at, few_below}
use Rattle.model.specs.Model.{Entity, Entities, same_entity, no_entity, create, create_with, destroy, last_version}
use Rattle.model.specs.Sound.{index_of, num, cnt, EntitiesSound}
use Rattle.model.proofs.SparseSets.{entity_eq}
use Rattle.model.proofs.BoolLaws.{by-eq, zero_of, cond_case, bool_cases}
use Rattle.model.proofs.Groups.{plc}

-- sound, whatever the capacity
abbrev pub EntitiesOk : Entities → Type 0
EntitiesOk c = EntitiesSound c.issued c

one_le : (x y : Entity) → one (same_entity x y) ≤ one (eqb x.index y.index)
one_le x y = go (eqb x.index y.index) (eqb x.version y.version)
  where
    go : (a b : Bool) → one (a && b) ≤ one a
    go true true = omega arith
    go true false = omega arith
    go false b = omega arith

pub cnt_num : (x : Entity) (l : List Entity) → cnt x l ≤ num x.index l
cnt_num x [] = omega arith
cnt_num x (y ∷ l) = omega (arith, cnt_num x l, one_le x y)

num_snoc : (i : ℕ) (l : List Entity) (e : Entity) → num i (l ++ (e ∷ [])) ≡ num i l + one (eqb i e.index)
num_snoc i [] e = omega arith
num_snoc i (x ∷ l) e = omega (arith, num_snoc i l e)

cnt_snoc : (x : Entity) (l : List Entity) (e : Entity) → cnt x (l ++ (e ∷ [])) ≡ cnt x l + one (same_entity x e)
cnt_snoc x l e = omega (arith, count_append same_entity x l (e ∷ []))

-- an index that is live or recycled once is live with one version
pub live_once : (c : Entities) → ((i : ℕ) → num i c.live + num i c.recycled ≤ 1) → (x : Entity) → cnt x c.live ≤ 1
live_once c s x = omega (arith, cnt_num x c.live, s x.index)

-- ---- an entity is created

create_with_law : (w : List Entity) (c : Entities) → c.recycled ≡ w → EntitiesOk c → EntitiesOk (create_with w c).entities
create_with_law [] c e ok =
    let new : Entity = record { index = c.issued; version = 1 } in
    let w₀ : (i : ℕ) → num i c.recycled ≡ 0 = λ i. ap (num i) e in
    let none : num c.issued c.live + num c.issued c.recycled ≡ 0 = zero_of (λ h. omega (arith, ok.below c.issued h)) in
    record {
      few = omega arith;
      single = λ i. by-eq i c.issued
          (λ p. omega (arith, num_snoc i c.live new, ok.single i, none, ap (λ (j : ℕ). num j c.live) p, ap one (eq-eqb i c.issued p)))
          (λ p. omega (arith, num_snoc i c.live new, ok.single i, ap one (ne_eqb i c.issued p)));
      below = λ i h. by-eq i c.issued
          (λ p. omega (arith, p))
          (λ p. omega (arith, ok.below i (omega (arith, num_snoc i c.live new, w₀ i, ap one (ne_eqb i c.issued p)))));
      positive = λ x h. bool_cases (same_entity x new) (λ t. omega (arith, ap (λ (y : Entity). y.version) (entity_eq x new t))) (λ t. ok.positive x (omega (arith, cnt_snoc x c.live new, ap one t)));
      small = λ x h. bool_cases (same_entity x new) (λ t. omega (arith, ap (λ (y : Entity). y.version) (entity_eq x new t))) (λ t. ok.small x (omega (arith, cnt_snoc x c.live new, ap one t)));
    }
create_with_law (e ∷ es) c p ok =
    record {
      few = omega arith;
      single = λ i. omega (arith, num_snoc i c.live e, ok.single i, ap (num i) p);
      below = λ i h. ok.below i (omega (arith, num_snoc i c.live e, ap (num i) p));
      positive = λ x h. ok.positive x (omega (arith, cnt_snoc x c.live e, ap (cnt x) p));
      small = λ x h. ok.small x (omega (arith, cnt_snoc x c.live e, ap (cnt x) p));
    }

pub create_ok : (c : Entities) → EntitiesOk c → EntitiesOk (create c).entities
unfolding create
create_ok c ok = create_with_law c.recycled c refl ok

create_live_with : (w : List Entity) (c : Entities) (x : Entity) → cnt x (create_with w c).entities.live ≡ cnt x c.live + one (same_entity x (create_with w c).entity)
create_live_with [] c x = cnt_snoc x c.live (record { index = c.issued; version = 1 })
create_live_with (e ∷ es) c x = cnt_snoc x c.live e

pub create_live : (c : Entities) (x : Entity) → cnt x (create c).entities.live ≡ cnt x c.live + one (same_entity x (create c).entity)
unfolding create
create_live c x = create_live_with c.recycled c x

-- ---- an entity is destroyed

module _ (e : Entity) (c : Entities) (alive : 1 ≤ cnt e c.live) where
  at_place : plc e c.live < length c.live
  at_place = count_place same_entity e c.live alive

  pub cnt_cut : (x : Entity) → cnt x (destroy e c).live + one (same_entity x e) ≡ cnt x c.live
  unfolding destroy
  cnt_cut x = count_cut same_entity entity_eq no_entity e c.live alive x

  num_cut : (i : ℕ) → num i (destroy e c).live + one (eqb i e.index) ≡ num i c.live
  unfolding destroy
  num_cut i =
      let p : plc e c.live < length (map index_of c.live) = rw (length-map c.live index_of) at_place in
      let g : get_or (map index_of c.live) (plc e c.live) 0 ≡ e.index = get_or-map index_of c.live (plc e c.live) no_entity ∙ ap index_of (get_d_place same_entity entity_eq e no_entity c.live at_place) in
      let a = rw g at (count_cut_at eqb 0 (plc e c.live) (map index_of c.live) p i) in
      omega (arith, a, ap (count_of eqb i) (map_cut_at index_of no_entity (plc e c.live) c.live))

  abbrev next : Entity
  next = record { index = e.index; version = suc e.version }

  waits_at : (P : List Entity → Type 0) → (e.version < last_version → P (c.recycled ++ (next ∷ []))) → P c.recycled → P (destroy e c).recycled
  unfolding destroy
  waits_at P a b = cond_case P (ltb e.version last_version) _ _ (λ t. a (ltb-true e.version last_version t)) (λ t. b)

  waits : (P : List Entity → Type 0) → P (c.recycled ++ (next ∷ [])) → P c.recycled → P (destroy e c).recycled
  unfolding destroy
  waits P a b = cond_case P (ltb e.version last_version) _ _ (λ t. a) (λ t. b)

  issued_same : (i : ℕ) → i < c.issued → i < (destroy e c).issued
  unfolding destroy
  issued_same i h = h

  pub destroy_ok : EntitiesOk c → EntitiesOk (destroy e c)
  destroy_ok ok =
      record {
        few = omega arith;
        single = λ i. waits (λ (w : List Entity). num i (destroy e c).live + num i w ≤ 1) (omega (arith, num_snoc i c.recycled next, num_cut i, ok.single i)) (omega (arith, num_cut i, ok.single i));
        below = λ i. waits (λ (w : List Entity). 1 ≤ num i (destroy e c).live + num i w → i < (destroy e c).issued) (λ h. issued_same i (ok.below i (omega (arith, num_snoc i c.recycled next, num_cut i)))) (λ h. issued_same i (ok.below i (omega (arith, num_cut i))));
        positive = λ x. waits (λ (w : List Entity). 1 ≤ cnt x (destroy e c).live + cnt x w → 1 ≤ x.version)
            (λ h. bool_cases (same_entity x next) (λ t. omega (arith, ap (λ (y : Entity). y.version) (entity_eq x next t))) (λ t. ok.positive x (omega (arith, cnt_snoc x c.recycled next, ap one t, cnt_cut x))))
            (λ h. ok.positive x (omega (arith, cnt_cut x)));
        small = λ x. waits_at (λ (w : List Entity). 1 ≤ cnt x (destroy e c).live + cnt x w → x.version ≤ last_version)
            (λ lt h. bool_cases (same_entity x next) (λ t. omega (arith, ap (λ (y : Entity). y.version) (entity_eq x next t))) (λ t. ok.small x (omega (arith, cnt_snoc x c.recycled next, ap one t, cnt_cut x))))
            (λ h. ok.small x (omega (arith, cnt_cut x)));
      }

-- ---- how many are live

pub live_few : (c : Entities) → EntitiesOk c → length c.live ≤ c.issued
live_few c ok =
    let le = few_below c.issued (map index_of c.live) (λ i. omega (arith, ok.single i)) (λ i h. ok.below i (omega arith)) in
    omega (arith, length-map c.live index_of)
