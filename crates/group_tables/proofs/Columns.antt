-- A column by its start in the table: its rows are the sparse set of the kind at the place. Assumes nothing.
use mathlib.Core.Path.{◌≡◌, subst}
use mathlib.Core.Bool.{true}
use mathlib.Core.List.{List}
use Prim.Native.Nat.{ℕ, ◌<◌}
use lib.ListN.{length, get_or}
use Rattle.model.specs.Model.{Entity, SparseSet, held}
use Rattle.words.specs.declared.Shape.{Shape}
use Rattle.words.specs.Shape.{column_start, shape_of}
use Rattle.component.specs.Columns.{rows_of}
use Rattle.component.specs.Changes.{Lent, Only}
use Rattle.component.specs.Start.{LentFrom, SwapsFrom}
use Rattle.memory.specs.Header.{slot_of}
use Rattle.memory.specs.Meaning.{meaning}
use Rattle.memory.specs.Arranged.{Arranged}
use Rattle.kinds.specs.Kinds.{kind_set}
use Rattle.kinds.specs.Steps.{InSlot}
use Rattle.kinds.proofs.Slot.{known_slot, lent_at, rows_at}
use Rattle.group.specs.Places.{kind_no}
use Rattle.group.specs.Metadata.{order_of}
use Rattle.group.specs.Tables.{Starts}
use Rattle.group.proofs.Order.{order_known}

module _ (w : List ℕ) (z : Shape) (starts : List ℕ) (A : Arranged w) (S : Starts w z starts) (p : ℕ) (h : p < length (order_of (meaning w))) where
  abbrev slot : ℕ
  slot = slot_of w (kind_no w p)

  in_slot : InSlot w (kind_no w p) (slot_of w (kind_no w p))
  in_slot = known_slot w A (kind_no w p) (order_known w A p h)

  column_lent : Lent z (slot_of w (kind_no w p)) w
  column_lent = lent_at w z (kind_no w p) slot S.shape in_slot

  pub lent_from : LentFrom z (get_or starts p 0) w
  lent_from = record { slot = slot; starts = S.each p h; lent = column_lent }

  rows_are : rows_of z (slot_of w (kind_no w p)) w ≡ kind_set w (kind_no w p)
  rows_are = rows_at w z (kind_no w p) slot S.shape in_slot

  -- what is said of any slot that starts there, of the kind's sparse set
  pub of_kind : (Q : SparseSet → Type 0) → ((s : ℕ) → get_or starts p 0 ≡ column_start z s → Q (rows_of z s w)) → Q (kind_set w (kind_no w p))
  of_kind Q f = subst Q rows_are (f slot (S.each p h))

  pub swaps_from : (e : Entity) (place : ℕ) → held e (kind_set w (kind_no w p)) ≡ true → place < length (kind_set w (kind_no w p)) → SwapsFrom z (get_or starts p 0) e place w
  swaps_from e place holds room = record { from = record { slot = slot; starts = S.each p h; lent = column_lent }; holds = rw rows_are holds; room = rw rows_are room }

  pub column_changes : (w' : List ℕ) (f : SparseSet → SparseSet) → ((s : ℕ) → get_or starts p 0 ≡ column_start z s → Lent z s w → Only z s f w w') → Only (shape_of w) (slot_of w (kind_no w p)) f w w'
  column_changes w' f o = subst (λ (x : Shape). Only x slot f w w') S.shape (o slot (S.each p h) column_lent)
