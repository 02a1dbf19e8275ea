-- What the private steps find and store: a kind's slot, a column's head. Assumes nothing.
use Rattle.std.specs.Prelude.{◌≡◌, List, ℕ, ◌+◌, ◌<◌, get_or, set}
use Rattle.words.specs.Offsets.{COLUMN_KIND, OWN_GROUP, PLACE_IN_FAMILY}
use Rattle.words.specs.Shape.{column_start, shape_of}
use Rattle.words.specs.declared.Shape.{Shape}
use Rattle.component.specs.Columns.{column_of, rows_of}
use Rattle.component.specs.Changes.{Lent}
use Rattle.memory.specs.Header.{registered_of, slot_of}
use Rattle.memory.specs.Meaning.{kind_at}
use Rattle.kinds.specs.Kinds.{kind_set}

-- 01: "each with a column of its own". Slot s is kind k's: its rows are the kind's sparse set
pub record InSlot (w : List ℕ) (k s : ℕ) : Type 0 where
  pub is : s ≡ slot_of w k
  pub real : s < registered_of w
  pub kind : kind_at w s ≡ k
  pub lent : Lent (shape_of w) s w
  pub rows : kind_set w k ≡ rows_of (shape_of w) s w

-- word i of the head of kind k's column
abbrev pub head_word : List ℕ → ℕ → ℕ → ℕ
head_word w k i = get_or (column_of (shape_of w) (slot_of w k) w) i 0

-- the head of slot s's column: its kind k, in no group
abbrev pub with_head : Shape → ℕ → ℕ → List ℕ → List ℕ
with_head z s k w = set (set (set w (column_start z s + COLUMN_KIND) k) (column_start z s + OWN_GROUP) 0) (column_start z s + PLACE_IN_FAMILY) 0
