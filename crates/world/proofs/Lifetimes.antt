-- An entity created with its components, and one destroyed with them: the steps of the words joined. Assumes nothing.
use mathlib.Core.Path.{◌≡◌, refl, sym, subst}
use mathlib.Core.Bool.{true, false}
use mathlib.Core.List.{List}
use Prim.Native.Nat.{ℕ}
use Rattle.model.specs.Model.{Entity, insert_components, remove, create, destroy, is_live, is_full}
use Rattle.model.specs.Store.{Store, on_storage, with_entities}
use Rattle.model.specs.Sound as model
use Rattle.model.proofs.Operations.{create_sound, create_is_live}
use Rattle.memory.specs.Meaning.{meaning}
use Rattle.memory.specs.Arranged.{Sound, Becomes}
use Rattle.memory.proofs.Becomes.{becomes_next}
use Rattle.group.proofs.Storing.{becomes_then}
use Rattle.world.specs.World.{created, killed}

module _ (w : List ℕ) where
  module _ (e : Entity) (w₁ : List ℕ) (B : Becomes w w₁ (on_storage (remove e (meaning w).kinds) (meaning w))) where
    pub destroyed_whole : (w₂ : List ℕ) → Becomes w₁ w₂ (with_entities (meaning w₁) (destroy e (meaning w₁).entities)) → Becomes w w₂ (killed e (meaning w))
    destroyed_whole w₂ C = becomes_then w w₁ w₂ (remove e (meaning w).kinds) (λ (s : Store). with_entities s (destroy e s.entities)) B C

  module _ (S : Sound w) (room : is_full (meaning w).settings.capacity (meaning w).entities ≡ false) (w₁ : List ℕ) (e : Entity) (q : e ≡ (create (meaning w).entities).entity)
      (B : Becomes w w₁ (with_entities (meaning w) (create (meaning w).entities).entities)) where
    pub create_sounds : Sound w₁
    create_sounds = record { arranged = B.arranged; means = subst model.StoreSound (sym B.means) (create_sound (meaning w) S.means room) }

    pub new_live : is_live e (meaning w₁).entities ≡ true
    new_live =
        subst (λ (s : Store). is_live e s.entities ≡ true) (sym B.means)
        (subst (λ (x : Entity). is_live x (create (meaning w).entities).entities ≡ true) (sym q) (create_is_live (meaning w).entities))

    pub created_whole : (w₂ : List ℕ) → Becomes w₁ w₂ (on_storage (insert_components e (meaning w₁).control.staged) (meaning w₁)) → Becomes w w₂ (created (meaning w))
    created_whole w₂ C =
        let D : Becomes w w₂ (on_storage (insert_components e (meaning w).control.staged) (with_entities (meaning w) (create (meaning w).entities).entities)) =
        becomes_next (with_entities (meaning w) (create (meaning w).entities).entities) (λ (s : Store). on_storage (insert_components e s.control.staged) s) B refl C in
        subst (λ (x : Entity). Becomes w w₂ (on_storage (insert_components x (meaning w).control.staged) (with_entities (meaning w) (create (meaning w).entities).entities))) q D
