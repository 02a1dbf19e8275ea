-- A held entity's index has a lookup, which says its version. Assumes nothing.
use mathlib.Core.Path.{◌≡◌, sym, ◌∙◌}
use mathlib.Core.Bool.{true, true≢false}
use mathlib.Core.List.{List}
use Prim.Native.Nat.{ℕ, ◌≤◌, ◌<◌}
use native.Mathlib.Omega.{arith}
use native.Mathlib.Decide.{dec_lt, ℕ_discrete}
use Rattle.words.specs.declared.Shape.{Shape}
use Rattle.model.specs.Model.{held, entity}
use Rattle.component.specs.SparseSet.{place_of, held_of, rows, ColumnSound}
use Rattle.component.specs.Answers.{HeldAt}
use Rattle.component.proofs.Places.{finds_at, finds_nothing, finds_beyond, finds_unissued}

module _ (z : Shape) (w : List ℕ) (s : ColumnSound z w) (x v : ℕ) (t : held (entity x v) (rows z w) ≡ true) where
  pub held_index : x < z.capacity
  held_index =
      elim (dec_lt x z.capacity) [
        | yes h ↦ h
        | no h ↦ absurd (true≢false (sym t ∙ finds_beyond z w s x v (omega arith)))
      ]

  held_version : 1 ≤ v
  held_version =
      elim (dec_lt 0 v) [
        | yes h ↦ h
        | no h ↦ absurd (true≢false (sym t ∙ finds_unissued z w s x v (omega arith)))
      ]

  held_lookup : held_of z w x ≡ v
  held_lookup =
      elim (ℕ_discrete (held_of z w x) v) [
        | yes e ↦ e
        | no ne ↦ absurd (true≢false (sym t ∙ finds_nothing z w s x v ne))
      ]

  pub held_place : HeldAt z (entity x v) (rows z w) (place_of z w x)
  held_place = finds_at z w s x v held_index held_version held_lookup
