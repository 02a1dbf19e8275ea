-- Many new entities with the staged components: the loop that creates them, and then all of it. Assumes nothing.
use mathlib.Core.Path.{◌≡◌, refl, ap, sym, ◌∙◌, subst}
use mathlib.Core.Bool.{false}
use mathlib.Core.List.{List, []}
use Prim.Native.Nat.{ℕ, suc, ◌-◌, ◌≤◌, ◌<◌}
use native.Mathlib.Omega.{arith}
use lib.ListN.{length, drop}
use Rattle.model.specs.Model.{Entity, Entities, SparseSet, Storage, Extended, same_entity, is_full, create, create_each, group_each, extend, free_numbers}
use Rattle.model.specs.Store.{Store, staged_kinds, on_storage, with_entities, with_all}
use Rattle.model.specs.Sound.{In, cnt}
use Rattle.model.proofs.ListLaws.{count_append}
use Rattle.model.proofs.Operations.{sound_held}
use Rattle.model.proofs.Behind.{pending}
use Rattle.model.proofs.Extending.{new_entities, with_new, each_created, new_live, new_last, new_fresh, new_entities_sound, room_left, one_fewer}
use Rattle.masks.specs.Masks.{bits_of}
use Rattle.memory.specs.Meaning.{meaning}
use Rattle.memory.specs.Arranged.{Sound, Becomes}
use Rattle.memory.proofs.Becomes.{becomes_next}
use Rattle.group.specs.Flat.{insert_positions, walk_each}
use Rattle.group.specs.Ready.{ReadyEach}
use Rattle.group.specs.Steps.{Below}
use Rattle.group.proofs.Each.{each_touched}
use Rattle.group.proofs.EachReady.{ready_new}
use Rattle.world.specs.Insert.{OnlyLive, AllInsertable, insert_columns, inserted_each, with_created, extended}
use Rattle.world.proofs.Whole.{fit, known_kinds, touched_below}
use Rattle.world.proofs.Columns.{columns_each}

-- ---- the loop: of count new entities, those left are to be created

pub record Creating (w₀ : List ℕ) (count : ℕ) (w : List ℕ) (left : ℕ) : Type 0 where
  pub so_far : Becomes w₀ w (with_entities (meaning w₀) (meaning w).entities)
  pub still : create_each left [] (meaning w).entities (meaning w₀).storage ≡ create_each count [] (meaning w₀).entities (meaning w₀).storage
  pub room : left ≤ free_numbers (meaning w).settings.capacity (meaning w).entities

module _ (w₀ : List ℕ) (count : ℕ) (w : List ℕ) (left : ℕ) (C : Creating w₀ count w left) where
  pub creating_end : left ≤ 0 → Becomes w₀ w (with_created count (meaning w₀))
  unfolding create_each
  creating_end h =
      let z : left ≡ 0 = omega arith in
      subst (λ (x : Extended). Becomes w₀ w (with_entities (meaning w₀) x.entities))
      (ap (λ (n : ℕ). create_each n [] (meaning w).entities (meaning w₀).storage) (sym z) ∙ C.still) C.so_far

  module _ (some : 0 < left) where
    one_left : 1 ≤ free_numbers (meaning w).settings.capacity (meaning w).entities
    one_left = omega (arith, some, C.room)

    pub number_left : is_full (meaning w).settings.capacity (meaning w).entities ≡ false
    number_left = room_left (meaning w).settings.capacity (meaning w).entities one_left

    next : create_each left [] (meaning w).entities (meaning w₀).storage ≡ create_each (left - 1) [] (create (meaning w).entities).entities (meaning w₀).storage
    unfolding create_each
    next = let s : left ≡ suc (left - 1) = omega (arith, some) in ap (λ (n : ℕ). create_each n [] (meaning w).entities (meaning w₀).storage) s

    pub creating_turn : (w' : List ℕ) → Becomes w w' (with_entities (meaning w) (create (meaning w).entities).entities) → Creating w₀ count w' (left - 1)
    creating_turn w' B =
        let m : Store = with_entities (meaning w₀) (meaning w).entities in
        let now : (meaning w').entities ≡ (create (meaning w).entities).entities = ap (λ (s : Store). s.entities) B.means in
        record {
          so_far =
              subst (λ (c : Entities). Becomes w₀ w' (with_entities (meaning w₀) c)) (sym now)
              (becomes_next m (λ (s : Store). with_entities s (create s.entities).entities) C.so_far refl B);
          still = ap (λ (c : Entities). create_each (left - 1) [] c (meaning w₀).storage) now ∙ sym next ∙ C.still;
          room =
              subst (λ (s : Store). left - 1 ≤ free_numbers s.settings.capacity s.entities) (sym B.means)
              (omega (arith, C.room, one_fewer (meaning w).settings.capacity (meaning w).entities one_left));
        }

-- ---- all of it

module _ (w : List ℕ) (S : Sound w) (count : ℕ) (room : count ≤ free_numbers (meaning w).settings.capacity (meaning w).entities) where
  abbrev ks : List ℕ
  ks = staged_kinds (meaning w)

  abbrev added : List Entity
  added = new_entities count (meaning w).entities

  -- the entities are created
  abbrev empties : Store
  empties = with_entities (meaning w) (with_new count (meaning w).entities)

  -- and have the staged components
  abbrev made : Store
  made = with_all (meaning w) (with_new count (meaning w).entities) (pending added (meaning w).control.staged (meaning w).storage) (meaning w).control

  module _ (w₁ : List ℕ) (B : Becomes w w₁ (with_created count (meaning w))) where
    created_are : Becomes w w₁ empties
    created_are = subst (λ (x : Extended). Becomes w w₁ (with_entities (meaning w) x.entities)) (each_created count [] (meaning w).entities (meaning w).storage) B

    pub each_insertable : AllInsertable w₁
    each_insertable =
        let L : OnlyLive empties = record {
          entities = new_entities_sound count (meaning w).settings.capacity (meaning w).entities S.means.entities room;
          alive = λ x k i. omega (arith, S.means.sets.alive x k i, ap (cnt x) (new_live count (meaning w).entities), count_append same_entity x (meaning w).entities.live added);
        } in
        record {
          arranged = created_are.arranged;
          live = subst OnlyLive (sym created_are.means) L;
          known = subst (λ (s : Store). (k : ℕ) → In (staged_kinds s) k → In s.kinds k) (sym created_are.means) S.means.staged.known;
        }

  module _ (start : ℕ) (q : start ≡ length (meaning w).entities.live) where
    last : (s : Store) → s.entities ≡ with_new count (meaning w).entities → drop start s.entities.live ≡ added
    last s e = ap (λ (c : Entities). drop start c.live) e ∙ ap (λ (n : ℕ). drop n (with_new count (meaning w).entities).live) q ∙ new_last count (meaning w).entities

    module _ (w₁ : List ℕ) (B : Becomes w w₁ (with_created count (meaning w))) (w₂ : List ℕ) (C : Becomes w₁ w₂ (on_storage (inserted_each (drop start (meaning w₁).entities.live) (meaning w₁).control.staged) (meaning w₁))) where
      pub each_made : Becomes w w₂ made
      each_made =
          let D = becomes_next empties (λ (s : Store). on_storage (inserted_each (drop start s.entities.live) s.control.staged) s) (created_are w₁ B) refl C in
          subst (λ (l : List SparseSet). Becomes w w₂ (on_storage (λ (p : Storage). record { sets = l; layout = p.layout }) empties))
          (ap (λ (es : List Entity). insert_columns es (meaning w).control.staged (meaning w).storage.sets) (last empties refl)
          ∙ columns_each added (meaning w).control.staged (meaning w).storage.sets (known_kinds w S) S.means.staged.once) D

    module _ (mask : ℕ) (b : bits_of 64 mask ≡ insert_positions ks (meaning w).storage.layout) (w₂ : List ℕ) (B : Becomes w w₂ made) where
      pub each_below : Below (bits_of 64 mask) (meaning w₂).storage
      each_below =
          subst (λ (s : Store). Below (bits_of 64 mask) s.storage) (sym B.means)
          (touched_below ks (bits_of 64 mask) (pending added (meaning w).control.staged (meaning w).storage) b)

      pub each_ready : ReadyEach (drop start (meaning w₂).entities.live) (bits_of 64 mask) (meaning w₂).storage
      each_ready =
          let H = sound_held (meaning w) S.means in
          let R : ReadyEach added (insert_positions ks (meaning w).storage.layout) (pending added (meaning w).control.staged (meaning w).storage) =
          ready_new added (meaning w).control.staged (meaning w).storage (fit w S) (known_kinds w S) S.means.staged.once (new_fresh count (meaning w).entities (meaning w).storage.sets H.numbers H.alive) in
          subst (λ (es : List Entity). ReadyEach es (bits_of 64 mask) (meaning w₂).storage) (sym (last (meaning w₂) (ap (λ (s : Store). s.entities) B.means)))
          (subst (λ (s : Store). ReadyEach added (bits_of 64 mask) s.storage) (sym B.means)
          (subst (λ (ps : List ℕ). ReadyEach added ps (pending added (meaning w).control.staged (meaning w).storage)) (sym b) R))

      pub each_extended : (w₃ : List ℕ) → Becomes w₂ w₃ (on_storage (walk_each (drop start (meaning w₂).entities.live) (bits_of 64 mask)) (meaning w₂)) → Becomes w w₃ (extended count (meaning w))
      unfolding extend
      each_extended w₃ C =
          let p : Storage = pending added (meaning w).control.staged (meaning w).storage in
          let grouped : walk_each (drop start (with_new count (meaning w).entities).live) (bits_of 64 mask) p ≡ group_each (drop (length (meaning w).entities.live) (with_new count (meaning w).entities).live) ks p =
          ap (λ (n : ℕ). walk_each (drop n (with_new count (meaning w).entities).live) (bits_of 64 mask) p) q
          ∙ ap (λ (ps : List ℕ). walk_each (drop (length (meaning w).entities.live) (with_new count (meaning w).entities).live) ps p) b
          ∙ each_touched (drop (length (meaning w).entities.live) (with_new count (meaning w).entities).live) ks p in
          subst (λ (x : Extended). Becomes w w₃ (with_all (meaning w) x.entities (group_each (drop (length (meaning w).entities.live) x.entities.live) ks x.storage) (meaning w).control)) (sym (each_created count (meaning w).control.staged (meaning w).entities (meaning w).storage))
          (subst (λ (y : Storage). Becomes w w₃ (with_all (meaning w) (with_new count (meaning w).entities) y (meaning w).control)) grouped
          (becomes_next made (λ (s : Store). on_storage (walk_each (drop start s.entities.live) (bits_of 64 mask)) s) B refl C))
