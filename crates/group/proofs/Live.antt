-- A live entity's index is one that there is room for, and its version was issued. Assumes nothing.
use mathlib.Core.Path.{◌≡◌, ap, ◌∙◌}
use mathlib.Core.List.{List}
use Prim.Native.Nat.{ℕ, ◌≤◌, ◌<◌}
use native.Mathlib.Omega.{arith}
use lib.ListN.{length, get_or}
use Rattle.model.specs.Model.{Entity, no_entity, entity}
use Rattle.words.specs.declared.Shape.{Shape}
use Rattle.words.specs.Shape.{shape_of}
use Rattle.words.proofs.Tables.{length_table, get_d_table}
use Rattle.entity.specs.Meaning.{len_of, entity_at, entities_of, entity_part}
use Rattle.memory.specs.Header.{capacity_of}
use Rattle.memory.specs.Meaning.{meaning}
use Rattle.memory.specs.Arranged.{Arranged}

module _ (w : List ℕ) (A : Arranged w) (i x y : ℕ) (h : i < length (meaning w).entities.live) (q : entity x y ≡ get_or (meaning w).entities.live i no_entity) where
  abbrev part : List ℕ
  part = entity_part (capacity_of w) w

  lt : i < len_of (entity_part (capacity_of w) w)
  unfolding meaning entities_of
  lt = rw (length_table (len_of part) (entity_at part)) at h

  is : entity x y ≡ entity_at (entity_part (capacity_of w) w) i
  unfolding meaning entities_of
  is = q ∙ get_d_table (len_of part) (entity_at part) i no_entity lt

  pub live_issued : {z : Shape} → z ≡ shape_of w → (x < z.capacity) × (1 ≤ y)
  live_issued e =
      let T = A.entities.linked.tied i lt in
      (omega (arith, T.below, ap (λ (k : Entity). k.index) is, ap (λ (k : Shape). k.capacity) e), omega (arith, T.issued, ap (λ (k : Entity). k.version) is))
