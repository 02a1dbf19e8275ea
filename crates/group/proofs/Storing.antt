-- One change of the storage after another. Assumes nothing.
use mathlib.Core.Path.{◌≡◌, refl, ap, sym, ◌∙◌, subst}
use mathlib.Core.List.{List, ◌∷◌}
use Prim.Native.Nat.{ℕ, ◌+◌, ◌<◌}
use lib.ListN.{length, get_or, drop}
use Rattle.model.specs.Model.{Entity, Storage, no_entity}
use Rattle.model.specs.Store.{on_storage, Store}
use Rattle.memory.specs.Header.{capacity_of}
use Rattle.memory.specs.Meaning.{meaning}
use Rattle.memory.specs.Arranged.{Becomes}
use Rattle.memory.proofs.Becomes.{capacity_means, shape_means, becomes_next}
use Rattle.model.proofs.ListLaws.{drop_step}
use Rattle.words.specs.declared.Shape.{Shape}
use Rattle.words.specs.Shape.{shape_of, shape}

pub becomes_then : (w₀ w w' : List ℕ) (f : Storage → Storage) (h : Store → Store) → Becomes w₀ w (on_storage f (meaning w₀)) → Becomes w w' (h (meaning w))
    → Becomes w₀ w' (h (on_storage f (meaning w₀)))
becomes_then w₀ w w' f h B C = becomes_next (on_storage f (meaning w₀)) h B refl C

-- the same storage by other words
pub storage_becomes : (w w' : List ℕ) (m : Store) (f h : Storage → Storage) → f m.storage ≡ h m.storage → Becomes w w' (on_storage f m) → Becomes w w' (on_storage h m)
storage_becomes w w' m f h e B = subst (λ (s : Storage). Becomes w w' (on_storage (λ (x : Storage). s) m)) e B

pub capacity_kept : (w₀ w : List ℕ) (f : Storage → Storage) → Becomes w₀ w (on_storage f (meaning w₀)) → capacity_of w ≡ capacity_of w₀
capacity_kept w₀ w f B = sym (capacity_means w) ∙ ap (λ (m : Store). m.settings.capacity) B.means ∙ capacity_means w₀

pub shape_kept : (w₀ w : List ℕ) (f : Storage → Storage) → Becomes w₀ w (on_storage f (meaning w₀)) → shape_of w ≡ shape_of w₀
shape_kept w₀ w f B = sym (shape_means w) ∙ ap (λ (m : Store). shape m.settings.capacity m.settings.value_bytes) B.means ∙ shape_means w₀

-- ---- loops that change the storage step by step

-- from the words w₀ to w nothing but the storage has changed
abbrev pub SoFar : List ℕ → List ℕ → Type 0
SoFar w₀ w = Becomes w₀ w (on_storage (λ (s : Storage). (meaning w).storage) (meaning w₀))

-- what some change of the storage left
pub changed_so_far : {w w' : List ℕ} (f : Storage → Storage) → Becomes w w' (on_storage f (meaning w)) → SoFar w w'
changed_so_far {w} {w'} f B = storage_becomes w w' (meaning w) f (λ (s : Storage). (meaning w').storage) (sym (ap (λ (m : Store). m.storage) B.means)) B

module _ {w₀ w : List ℕ} (B : SoFar w₀ w) where
  -- one step more
  pub so_far_next : {w' : List ℕ} (f : Storage → Storage) → Becomes w w' (on_storage f (meaning w)) → SoFar w₀ w'
  so_far_next {w'} f C =
      subst (λ (p : Storage). Becomes w₀ w' (on_storage (λ (s : Storage). p) (meaning w₀))) (sym (ap (λ (m : Store). m.storage) C.means))
      (becomes_then w₀ w w' (λ (s : Storage). (meaning w).storage) (on_storage f) B C)

  -- what the storage is then
  pub so_far_is : (p : Storage) → (meaning w).storage ≡ p → Becomes w₀ w (on_storage (λ (s : Storage). p) (meaning w₀))
  so_far_is p e = subst (λ (q : Storage). Becomes w₀ w (on_storage (λ (s : Storage). q) (meaning w₀))) e B

  -- a shape read before is the store's still
  pub shape_so_far : {z : Shape} → z ≡ shape_of w₀ → z ≡ shape_of w
  shape_so_far e = e ∙ sym (shape_kept w₀ w (λ (s : Storage). (meaning w).storage) B)

  pub live_same : (meaning w).entities.live ≡ (meaning w₀).entities.live
  live_same = ap (λ (m : Store). m.entities.live) B.means

  -- the live entity at place i is the first of those from there on
  pub live_next : (i : ℕ) (e : Entity) → i < length (meaning w₀).entities.live → e ≡ get_or (meaning w).entities.live i no_entity → drop i (meaning w₀).entities.live ≡ e ∷ drop (i + 1) (meaning w₀).entities.live
  live_next i e h q =
      drop_step (meaning w₀).entities.live i no_entity h
      ∙ ap (λ (x : Entity). x ∷ drop (i + 1) (meaning w₀).entities.live) (sym (q ∙ ap (λ (l : List Entity). get_or l i no_entity) live_same))
