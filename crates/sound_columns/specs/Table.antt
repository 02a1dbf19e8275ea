-- The table of kinds and the columns' heads. Assumes nothing.
use Rattle.std.specs.Prelude.{◌≡◌, ◌≢◌, List, ℕ, ◌≤◌, ◌<◌}
use Rattle.model.specs.Numbers.{MAX_KINDS}
use Rattle.words.specs.Offsets.{COLUMN_KIND, UNREGISTERED}
use Rattle.words.specs.Decides.{Each}
use Rattle.words.specs.declared.Shape.{Shape}
use Rattle.memory.specs.Header.{registered_of, slot_of}
use Rattle.sound_columns.specs.Slots.{head_at}

-- kind k, where it is registered, has a slot in use whose column says k
pub record KindOk (z : Shape) (reg : ℕ) (w : List ℕ) (k : ℕ) : Type 0 where
  pub slot : slot_of w k ≢ UNREGISTERED → slot_of w k < reg
  pub back : slot_of w k ≢ UNREGISTERED → head_at z w (slot_of w k) COLUMN_KIND ≡ k

-- the column in slot s says a kind, whose slot is s
pub record SlotOk (z : Shape) (w : List ℕ) (s : ℕ) : Type 0 where
  pub small : head_at z w s COLUMN_KIND < MAX_KINDS
  pub own : slot_of w (head_at z w s COLUMN_KIND) ≡ s

-- 01, a sound store: "at most K registered kinds, each with a column of its own"
pub record TableOk (z : Shape) (k : ℕ) (w : List ℕ) : Type 0 where
  pub few : registered_of w ≤ k
  pub kinds : Each MAX_KINDS (KindOk z (registered_of w) w)
  pub slots : Each (registered_of w) (SlotOk z w)
