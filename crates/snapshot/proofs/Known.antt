-- What well-arranged words say of the store they mean: a kind that is not registered has no rows, numbers are at most the capacity, and a
-- value has one of the two widths. Assumes nothing.
use mathlib.Core.Path.{◌≡◌, refl, sym, ◌∙◌}
use mathlib.Core.Bool.{false, false≢true}
use mathlib.Core.List.{List, []}
use Prim.Native.Nat.{ℕ, ◌≤◌, ◌<◌}
use native.Mathlib.Omega.{arith}
use borrow.Author.Tests.{le-ltb}
use lib.ListN.{length}
use Rattle.model.specs.Numbers.{LONG_VALUE_BYTES, MAX_ENTITIES, MAX_KINDS}
use Rattle.words.specs.Offsets.{UNREGISTERED}
use Rattle.model.specs.Model.{mem}
use Rattle.model.proofs.BoolLaws.{by-eq}
use Rattle.model.proofs.Widths.{width_most}
use Rattle.words.specs.Shape.{TwoOrFour, shape_of}
use Rattle.words.proofs.Offsets.{two_or_four}
use Rattle.entity.specs.Meaning.{entity_part}
use Rattle.entity.proofs.Known.{live_few, issued_few}
use Rattle.memory.specs.Header.{capacity_of, registered_of, slot_of, value_bytes_of}
use Rattle.memory.specs.Meaning.{set_at, meaning}
use Rattle.memory.specs.Arranged.{Arranged}
use Rattle.memory.proofs.Becomes.{set_in_law}
use Rattle.kinds.specs.Kinds.{kind_set}
use Rattle.kinds.proofs.Slot.{slot_known}

module _ (w : List ℕ) (A : Arranged w) where
  no_slot : (k : ℕ) → slot_of w k ≡ UNREGISTERED → set_at w k ≡ []
  no_slot k e = rw (e, le-ltb UNREGISTERED (registered_of w) (omega (arith, A.table.few, A.limits.most_kinds)))

  pub no_rows : (k : ℕ) → k < MAX_KINDS → mem k (meaning w).kinds ≡ false → kind_set w k ≡ []
  unfolding meaning
  no_rows k h f = set_in_law w A k h ∙ by-eq (slot_of w k) UNREGISTERED (no_slot k) (λ ne. absurd (false≢true (sym f ∙ slot_known w A k h ne)))

  pub capacity_most : (meaning w).settings.capacity ≤ MAX_ENTITIES
  unfolding meaning
  capacity_most = A.limits.most

  pub issued_most : (meaning w).entities.issued ≤ (meaning w).settings.capacity
  unfolding meaning
  issued_most = issued_few (capacity_of w) (entity_part (capacity_of w) w) A.entities

  pub live_most : length (meaning w).entities.live ≤ (meaning w).settings.capacity
  unfolding meaning
  live_most = live_few (capacity_of w) (entity_part (capacity_of w) w) A.entities

  pub bytes_mean : value_bytes_of w ≡ (meaning w).settings.value_bytes
  unfolding meaning
  bytes_mean = refl

  pub bytes_most : value_bytes_of w ≤ LONG_VALUE_BYTES
  bytes_most = width_most (value_bytes_of w) A.limits.width

  pub stride_words : (d : ℕ) → d ≡ (shape_of w).stride → TwoOrFour d
  stride_words d e = rw e (two_or_four (value_bytes_of w) A.limits.width)
