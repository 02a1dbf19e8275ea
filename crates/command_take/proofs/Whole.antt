-- TAKE as the model has it: the groups left, then the components gone, with the bytes of what was held before. Assumes nothing.
use mathlib.Core.Path.{◌≡◌, ap, ◌∙◌}
use mathlib.Core.List.{List}
use Prim.Native.Nat.{ℕ}
use lib.ListN.{length}
use lib.Seq.{sets}
use Rattle.model.specs.Model.{Entity}
use Rattle.model.specs.Store.{Store, staged_kinds, on_storage}
use Rattle.model.specs.Commands.{held_bytes}
use Rattle.model.proofs.Operations.{sound_held}
use Rattle.memory.specs.Meaning.{meaning}
use Rattle.memory.specs.Arranged.{Sound, Becomes}
use Rattle.world.specs.Remove.{ungrouped}
use Rattle.world.proofs.Whole.{delete_whole}
use Rattle.command_take.specs.Take.{TakesStaged, Takes}
use Rattle.command_take.proofs.Kept.{ungroup_held}

-- the words w₁, where the entity has left its groups
module _ (w : List ℕ) (S : Sound w) (e : Entity) (w₁ : List ℕ) (B : Becomes w w₁ (on_storage (ungrouped e (staged_kinds (meaning w))) (meaning w))) where
  held_after : held_bytes (meaning w₁).settings.value_bytes e (staged_kinds (meaning w₁)) (meaning w₁).storage ≡ held_bytes (meaning w).settings.value_bytes e (staged_kinds (meaning w)) (meaning w).storage
  held_after =
      ap (λ (s : Store). held_bytes s.settings.value_bytes e (staged_kinds s) s.storage) B.means
      ∙ ungroup_held (meaning w).settings.value_bytes e (staged_kinds (meaning w)) (staged_kinds (meaning w)) (meaning w).storage (sound_held (meaning w) S.means).fit

  -- the bytes are those of the words before the walk
  pub take_whole : (w₂ out out₂ : List ℕ) (at r : ℕ) → TakesStaged w₁ w₂ out out₂ e at r → Takes w w₂ out out₂ e at r
  take_whole w₂ out out₂ at r T =
      record { becomes = delete_whole w S e w₁ B w₂ T.becomes; bytes = T.bytes ∙ ap (sets out at) held_after; count = T.count ∙ ap length held_after }
