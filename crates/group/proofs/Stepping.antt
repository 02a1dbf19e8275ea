-- One group: an entity goes in, goes out, or stays; what a step of either walk leaves. Assumes nothing.
use mathlib.Core.Path.{◌≡◌, refl, ap, sym, subst}
use mathlib.Core.List.{List}
use Prim.Native.Nat.{ℕ, ◌≤◌, ◌<◌}
use native.Mathlib.Omega.{arith}
use lib.ListN.{length, get_or}
use Rattle.model.specs.Numbers.{MAX_ENTITIES}
use Rattle.model.specs.Model.{Entity, SparseSet, Storage, no_row, set_of, at, on_kinds, swap_to, groups_of}
use Rattle.model.specs.Store.{on_storage, with_layout, Store}
use Rattle.model.specs.Sound.{In}
use Rattle.model.proofs.ListLaws.{swap_equal}
use Rattle.masks.specs.Masks.{Ordered}
use Rattle.words.specs.Part.{between}
use Rattle.component.proofs.Meaning.{length_rows}
use Rattle.component.specs.Columns.{column_of, rows_of}
use Rattle.memory.specs.Header.{slot_of}
use Rattle.memory.specs.Meaning.{meaning}
use Rattle.memory.specs.Arranged.{Arranged, Becomes}
use Rattle.kinds.proofs.Slot.{known_slot}
use Rattle.layout.specs.declared.group_metadata.GroupMetadata.{GroupMetadata}
use Rattle.group.specs.declared.group_status.GroupStatus.{GroupStatus}
use Rattle.group.specs.Flat.{located, set_count, moved_to, status_at, step_down}
use Rattle.group.specs.Ready.{Swappable, StandsAt, ReadyIn, ReadyOut}
use Rattle.group.specs.Metadata.{order_of, Describes, Stands}
use Rattle.group.specs.Steps.{swap_kinds}
use Rattle.group.proofs.Counts.{placed}
use Rattle.words.proofs.Part.{between_in}
use Rattle.words.specs.Shape.{shape_of}
use Rattle.group.proofs.EachKind.{kinds_idle}
use Rattle.group.proofs.Storing.{becomes_then, storage_becomes}

-- a sparse set has no more rows than the store has room for
pub set_room : (w : List ℕ) → Arranged w → (k : ℕ) → In (meaning w).kinds k → length (set_of (meaning w).storage.sets k) ≤ MAX_ENTITIES
set_room w A k i =
    let S = known_slot w A k i in
    let n : length (set_of (meaning w).storage.sets k) ≡ length (rows_of (shape_of w) (slot_of w k) w) = ap length S.rows in
    omega (arith, length_rows (shape_of w) (column_of (shape_of w) (slot_of w k) w), S.lent.sound.linked.room, S.lent.shaped.small)

-- the entity can be swapped to place c in every kind of group g, whose metadata and count were read
module _ {w₀ : List ℕ} {e : Entity} {g len c : ℕ} {d : GroupMetadata} (A : Arranged w₀) (S : Stands (meaning w₀) g d len) (R : Swappable e (located (meaning w₀).storage.layout g).kinds c (meaning w₀).storage.sets) where
  abbrev ks : List ℕ
  ks = between d.storage_start d.storage_end (order_of (meaning w₀))

  pub swaps : {n : ℕ} → n ≡ c → Swappable e ks n (meaning w₀).storage.sets
  swaps q =
      subst (λ (x : ℕ). Swappable e ks x (meaning w₀).storage.sets) (sym q)
      (subst (λ (l : List ℕ). Swappable e l c (meaning w₀).storage.sets) (sym S.metadata.kinds) R)

  pub place_small : c < MAX_ENTITIES
  place_small =
      let D = S.metadata in
      let k : ℕ = get_or (order_of (meaning w₀)) d.storage_start 0 in
      let i : In ks k = between_in d.storage_start d.storage_end d.storage_start (order_of (meaning w₀)) (omega arith) (omega (arith, D.low, D.some)) D.listed.within in
      omega (arith, (swaps refl).room k i, set_room w₀ A k (D.listed.known k i))

  module _ {w₁ : List ℕ} {n : ℕ} (q : n ≡ c) (B : Becomes w₀ w₁ (on_storage (swap_kinds e n ks) (meaning w₀))) where
    pub still_below : g < groups_of (meaning w₁).storage.layout
    still_below = subst (λ (m : Store). g < groups_of m.storage.layout) (sym B.means) S.below

    pub moves : {w₂ : List ℕ} {x y : ℕ} → x ≡ y → Becomes w₁ w₂ (on_storage (λ (s : Storage). with_layout s (set_count g x s.layout)) (meaning w₁)) → Becomes w₀ w₂ (on_storage (moved_to e g c y) (meaning w₀))
    moves {w₂} {x} {y} z C =
        storage_becomes w₀ w₂ (meaning w₀) (λ (s : Storage). record { sets = on_kinds ks (swap_to e n) s.sets; layout = set_count g x s.layout }) (moved_to e g c y)
        (λ i. record { sets = on_kinds (S.metadata.kinds i) (swap_to e (q i)) (meaning w₀).storage.sets; layout = set_count g (z i) (meaning w₀).storage.layout })
        (becomes_then w₀ w₁ w₂ (swap_kinds e n ks) (on_storage (λ (s : Storage). with_layout s (set_count g x s.layout))) B C)

  -- an entity that stands at place c already: only the count changes
  module _ (at_place : StandsAt e (located (meaning w₀).storage.layout g).kinds c (meaning w₀).storage.sets) where
    idle : on_kinds (located (meaning w₀).storage.layout g).kinds (swap_to e c) (meaning w₀).storage.sets ≡ (meaning w₀).storage.sets
    idle =
        kinds_idle (swap_to e c) refl (located (meaning w₀).storage.layout g).kinds (meaning w₀).storage.sets
        (λ k i. let rs : SparseSet = set_of (meaning w₀).storage.sets k in sym (swap_equal no_row (at e rs) c rs (at_place k i)))

    pub counts : {w₁ : List ℕ} {x y : ℕ} → x ≡ y → Becomes w₀ w₁ (on_storage (λ (s : Storage). with_layout s (set_count g x s.layout)) (meaning w₀)) → Becomes w₀ w₁ (on_storage (moved_to e g c y) (meaning w₀))
    counts {w₁} {x} {y} z C =
        storage_becomes w₀ w₁ (meaning w₀) (λ (s : Storage). with_layout s (set_count g x s.layout)) (moved_to e g c y)
        (λ i. record { sets = sym idle i; layout = set_count g (z i) (meaning w₀).storage.layout })
        C

-- the family's rest is past g
pub skip_ordered : (m : Store) (g : ℕ) (d : GroupMetadata) → g < groups_of m.storage.layout → Describes m g d → Ordered 64 g d.top
skip_ordered m g d h D =
    let P = placed m.storage.layout g h in
    record { rising = omega (arith, P.1, D.top); inside = omega (arith, D.few) }

-- ---- the steps, by status

pub steps_down : {w w' : List ℕ} (e : Entity) (g : ℕ) {t : GroupStatus} → t ≡ status_at e g (meaning w).storage → Becomes w w' (on_storage (step_down t e g) (meaning w))
    → Becomes w w' (on_storage (step_down (status_at e g (meaning w).storage) e g) (meaning w))
steps_down {w} {w'} e g q B = subst (λ (x : GroupStatus). Becomes w w' (on_storage (step_down x e g) (meaning w))) q B

module _ (w : List ℕ) (e : Entity) (g : ℕ) {t : GroupStatus} (q : t ≡ status_at e g (meaning w).storage) where
  pub ready_in : ReadyIn (status_at e g (meaning w).storage) e (located (meaning w).storage.layout g) (meaning w).storage.sets → ReadyIn t e (located (meaning w).storage.layout g) (meaning w).storage.sets
  ready_in r = subst (λ (x : GroupStatus). ReadyIn x e (located (meaning w).storage.layout g) (meaning w).storage.sets) (sym q) r

  pub ready_out : ReadyOut (status_at e g (meaning w).storage) e (located (meaning w).storage.layout g) (meaning w).storage.sets → ReadyOut t e (located (meaning w).storage.layout g) (meaning w).storage.sets
  ready_out r = subst (λ (x : GroupStatus). ReadyOut x e (located (meaning w).storage.layout g) (meaning w).storage.sets) (sym q) r
