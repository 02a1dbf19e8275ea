-- The rows of a sound column: an entity once, and values of no more bytes than their words. Assumes nothing.
use mathlib.Core.Path.{◌≡◌, ap, sym, ◌∙◌}
use mathlib.Core.List.{List, []}
use Prim.Native.Nat.{ℕ, ◌*◌, ◌≤◌, ◌<◌}
use native.Mathlib.Decide.{dec_le}
use native.Mathlib.Omega.{arith}
use lib.Seq.{take-nil}
use lib.ListN.{get_or, length-map, get_or-map, get_or-eq_default}
use Rattle.values.proofs.Numbers.{digits_take}
use Rattle.values.proofs.Places.{value_small}
use Rattle.model.proofs.ListLaws.{apart_once}
use Rattle.model.specs.Model.{Entity, same_entity, no_entity, no_row, entity_of, keys}
use Rattle.model.specs.Sound.{cnt, ValueFits}
use Rattle.model.proofs.SparseSets.{entity_eq}
use Rattle.words.specs.declared.Shape.{Shape}
use Rattle.component.specs.SparseSet.{length_of, index_at, rows, ColumnSound}
use Rattle.component.proofs.Meaning.{length_rows, get_d_rows, index_rows, rows_apart}

module _ (z : Shape) (w : List ℕ) where
  pub rows_once : ColumnSound z w → (x : Entity) → cnt x (keys (rows z w)) ≤ 1
  rows_once s x =
      apart_once same_entity entity_eq x no_entity (keys (rows z w))
      (λ i j hi hj ne e.
      let m = length-map (rows z w) entity_of in
      let bi : i < length_of w = omega (arith, length_rows z w) in
      let bj : j < length_of w = omega (arith, length_rows z w) in
      let at : (k : ℕ) → k < length_of w → (get_or (keys (rows z w)) k no_entity).index ≡ index_at w k =
      λ k h. ap (λ (y : Entity). y.index) (get_or-map entity_of (rows z w) k no_row) ∙ index_rows z w k h in
      rows_apart z w s i j bi bj ne (sym (at i bi) ∙ ap (λ (y : Entity). y.index) e ∙ at j bj))

  pub rows_values : ((i : ℕ) → get_or w i 0 < 4294967296) → (i : ℕ) → ValueFits (4 * z.stride) (get_or (rows z w) i no_row).value
  rows_values bits i =
      elim (dec_le (length_of w) i) [
        | yes h ↦ rw (get_or-eq_default (rows z w) no_row {n = i} (omega (arith, length_rows z w))) (rw (take-nil z.stride) at (digits_take z.stride [] tt))
        | no h ↦ rw (get_d_rows z w i (omega arith)) (value_small z w bits i)
      ]
