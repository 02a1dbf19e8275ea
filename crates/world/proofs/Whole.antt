-- Insertion and removal as the model has them: the components and the walk over the groups together. Assumes nothing.
use mathlib.Core.Path.{◌≡◌, ap, sym, ◌∙◌, subst}
use mathlib.Core.Bool.{true}
use mathlib.Core.List.{List, reverse}
use Prim.Native.Nat.{ℕ, ◌+◌, ◌<◌}
use native.Mathlib.Omega.{arith}
use lib.ListN.{length}
use Rattle.model.specs.Model.{Entity, Family, Storage, kinds_of, meets, groups_of, is_live, insert_components, remove, entity}
use Rattle.model.specs.Store.{Store, staged_kinds, on_storage}
use Rattle.model.specs.Sound.{Distinct}
use Rattle.model.proofs.Families.{Kinds}
use Rattle.model.proofs.Invariant.{Fit}
use Rattle.model.proofs.Operations.{sound_held}
use Rattle.model.proofs.Held.{staged_kinds_law}
use Rattle.masks.specs.Masks.{bits_of, has, up_from}
use Rattle.memory.specs.Meaning.{meaning}
use Rattle.memory.specs.Arranged.{Sound, Becomes}
use Rattle.group.specs.Flat.{insert_positions, delete_positions, walk_up, walk_down}
use Rattle.group.specs.Ready.{ReadyUp, ReadyDown}
use Rattle.group.specs.Steps.{Below}
use Rattle.group.proofs.Positions.{where_within}
use Rattle.group.proofs.Upward.{walk_touched}
use Rattle.group.proofs.UpReady.{ready_insert}
use Rattle.group.proofs.Downward.{walk_ungroup, ready_remove, walk_ungroup_all, ready_remove_all}
use Rattle.world.specs.Insert.{Insertable, inserted}
use Rattle.world.specs.Remove.{Staged, ungrouped, removed}
use Rattle.group.proofs.Storing.{becomes_then, storage_becomes}
use Rattle.world.proofs.Removing.{staged_kept}
use Rattle.world.proofs.Live.{sound_live, live_insertable}

-- the groups of the touched families are groups of the layout
pub touched_below : (ks ps : List ℕ) (s : Storage) → ps ≡ insert_positions ks s.layout → Below ps s
touched_below ks ps s b g h =
    let l : g < 0 + groups_of s.layout = (where_within (λ (f : Family) (js : List ℕ). meets ks (kinds_of f)) 0 s.layout g (ap (has g) (sym b) ∙ h)).1 in
    omega (arith, l)

module _ (w : List ℕ) (S : Sound w) where
  abbrev m : Store
  m = meaning w

  pub fit : Fit (meaning w).storage
  fit = (sound_held (meaning w) S.means).fit

  pub staged_sound : Staged w
  staged_sound = record { arranged = S.arranged; once = S.means.staged.once; known = S.means.staged.known }

  pub known_kinds : Kinds (length (meaning w).storage.sets) (meaning w).control.staged
  known_kinds = staged_kinds_law (meaning w).entities (meaning w).kinds (meaning w).storage (sound_held (meaning w) S.means) (meaning w).control.staged S.means.staged.known

  pub insertable : (x v : ℕ) → is_live (entity x v) (meaning w).entities ≡ true → Insertable w x v
  insertable = live_insertable w S.arranged (sound_live (meaning w) S.means) S.means.staged.known

  -- ---- insertion: all components are in, then the walk upward

  module _ (x v mask : ℕ) (b : bits_of 64 mask ≡ insert_positions (staged_kinds (meaning w)) (meaning w).storage.layout) (w₁ : List ℕ) (B : Becomes w w₁ (on_storage (inserted (entity x v) (meaning w).control.staged) (meaning w))) where
    pub insert_below : Below (bits_of 64 mask) (meaning w₁).storage
    insert_below =
        subst (λ (s : Store). Below (bits_of 64 mask) s.storage) (sym B.means)
        (touched_below (staged_kinds (meaning w)) (bits_of 64 mask) (inserted (entity x v) (meaning w).control.staged (meaning w).storage) b)

    pub insert_ready : ReadyUp (entity x v) 0 (bits_of 64 mask) (meaning w₁).storage
    insert_ready =
        subst (λ (s : Store). ReadyUp (entity x v) 0 (bits_of 64 mask) s.storage) (sym B.means)
        (subst (λ (ps : List ℕ). ReadyUp (entity x v) 0 ps (inserted (entity x v) (meaning w).control.staged (meaning w).storage)) (sym b)
        (ready_insert (entity x v) (meaning w).control.staged (meaning w).storage known_kinds fit))

    whole : walk_up (entity x v) 0 (bits_of 64 mask) (inserted (entity x v) (meaning w).control.staged (meaning w).storage) ≡ insert_components (entity x v) (meaning w).control.staged (meaning w).storage
    unfolding insert_components
    whole =
        ap (λ (ps : List ℕ). walk_up (entity x v) 0 ps (inserted (entity x v) (meaning w).control.staged (meaning w).storage)) b
        ∙ walk_touched (entity x v) (staged_kinds (meaning w)) (inserted (entity x v) (meaning w).control.staged (meaning w).storage)

    pub insert_whole : (w₂ : List ℕ) → Becomes w₁ w₂ (on_storage (walk_up (entity x v) 0 (bits_of 64 mask)) (meaning w₁)) → Becomes w w₂ (on_storage (insert_components (entity x v) (meaning w).control.staged) (meaning w))
    insert_whole w₂ C =
        storage_becomes w w₂ (meaning w) (λ (s : Storage). walk_up (entity x v) 0 (bits_of 64 mask) (inserted (entity x v) (meaning w).control.staged s)) (insert_components (entity x v) (meaning w).control.staged) whole
        (becomes_then w w₁ w₂ (inserted (entity x v) (meaning w).control.staged) (on_storage (walk_up (entity x v) 0 (bits_of 64 mask))) B C)

  -- ---- removal: the walk downward, then the components go

  module _ (e : Entity) (mask : ℕ) (b : bits_of 64 mask ≡ delete_positions (staged_kinds (meaning w)) (meaning w).storage.layout) where
    pub delete_inside : Below (bits_of 64 mask) (meaning w).storage
    delete_inside g h =
        let l : g < 0 + groups_of (meaning w).storage.layout = (where_within (λ (f : Family) (ks : List ℕ). meets (staged_kinds (meaning w)) ks) 0 (meaning w).storage.layout g (ap (has g) (sym b) ∙ h)).1 in
        omega (arith, l)

    pub delete_ready : ReadyDown e (reverse (bits_of 64 mask)) (meaning w).storage
    delete_ready = subst (λ (ps : List ℕ). ReadyDown e (reverse ps) (meaning w).storage) (sym b) (ready_remove e (staged_kinds (meaning w)) (meaning w).storage fit)

    left : walk_down e (reverse (bits_of 64 mask)) (meaning w).storage ≡ ungrouped e (staged_kinds (meaning w)) (meaning w).storage
    left = ap (λ (ps : List ℕ). walk_down e (reverse ps) (meaning w).storage) b ∙ walk_ungroup e (staged_kinds (meaning w)) (meaning w).storage fit

    pub ungroup_whole : (w₁ : List ℕ) → Becomes w w₁ (on_storage (walk_down e (reverse (bits_of 64 mask))) (meaning w)) → Becomes w w₁ (on_storage (ungrouped e (staged_kinds (meaning w))) (meaning w))
    ungroup_whole w₁ B = storage_becomes w w₁ (meaning w) (walk_down e (reverse (bits_of 64 mask))) (ungrouped e (staged_kinds (meaning w))) left B

  -- the words w₁, where the entity has left its groups
  module _ (e : Entity) (w₁ : List ℕ) (B : Becomes w w₁ (on_storage (ungrouped e (staged_kinds (meaning w))) (meaning w))) where
    pub staged_after : Staged w₁
    staged_after = staged_kept w w₁ (ungrouped e (staged_kinds (meaning w))) staged_sound B

    pub count_after : length (meaning w₁).control.staged ≡ length (meaning w).control.staged
    count_after = ap (λ (s : Store). length s.control.staged) B.means

    pub delete_whole : (w₂ : List ℕ) → Becomes w₁ w₂ (on_storage (removed e (staged_kinds (meaning w₁))) (meaning w₁)) → Becomes w w₂ (on_storage (remove e (staged_kinds (meaning w))) (meaning w))
    unfolding remove
    delete_whole w₂ C = becomes_then w w₁ w₂ (ungrouped e (staged_kinds (meaning w))) (λ (s : Store). on_storage (removed e (staged_kinds s)) s) B C

  -- ---- all components: out of all groups, then they go

  module _ (e : Entity) where
    abbrev order : List ℕ
    order = reverse (up_from 0 (groups_of (meaning w).storage.layout))

    pub strip_ready : ReadyDown e (reverse (up_from 0 (groups_of (meaning w).storage.layout))) (meaning w).storage
    strip_ready = ready_remove_all e (meaning w).kinds (meaning w).storage fit S.means.layout.known

    bare : removed e (meaning w).kinds (walk_down e order (meaning w).storage) ≡ remove e (meaning w).kinds (meaning w).storage
    unfolding remove
    bare = ap (removed e (meaning w).kinds) (walk_ungroup_all e (meaning w).kinds (meaning w).storage fit S.means.layout.known)

    module _ (w₁ : List ℕ) (B : Becomes w w₁ (on_storage (walk_down e (reverse (up_from 0 (groups_of (meaning w).storage.layout)))) (meaning w))) where
      pub strip_once : Distinct (meaning w₁).kinds
      strip_once = subst (λ (s : Store). Distinct s.kinds) (sym B.means) S.means.kinds.once

      pub strip_whole : (w₂ : List ℕ) → Becomes w₁ w₂ (on_storage (removed e (meaning w₁).kinds) (meaning w₁)) → Becomes w w₂ (on_storage (remove e (meaning w).kinds) (meaning w))
      strip_whole w₂ C =
          storage_becomes w w₂ (meaning w) (λ (s : Storage). removed e (meaning w).kinds (walk_down e order s)) (remove e (meaning w).kinds) bare
          (becomes_then w w₁ w₂ (walk_down e order) (λ (s : Store). on_storage (removed e s.kinds) s) B C)
