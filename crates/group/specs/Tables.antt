-- What tables say that are made once for the walks of many entities. Assumes nothing.
use Rattle.std.specs.Prelude.{◌≡◌, List, ℕ, ◌≤◌, ◌<◌, length, get_or}
use Rattle.model.specs.Model.{groups_of}
use Rattle.masks.specs.Masks.{bits_of, skipping}
use Rattle.masks.specs.declared.group_mask.GroupMask.{GroupMask}
use Rattle.words.specs.declared.Shape.{Shape}
use Rattle.words.specs.Shape.{column_start, shape_of}
use Rattle.layout.specs.declared.group_metadata.GroupMetadata.{GroupMetadata}
use Rattle.memory.specs.Header.{slot_of}
use Rattle.memory.specs.Meaning.{meaning}
use Rattle.group.specs.Flat.{located}
use Rattle.group.specs.Metadata.{order_of, Describes}
use Rattle.group.specs.Places.{kind_no}

-- where the columns of the layout's kinds start, by the kinds' places, in a store whose columns are of shape z
pub record Starts (w : List ℕ) (z : Shape) (starts : List ℕ) : Type 0 where
  pub shape : z ≡ shape_of w
  pub room : length (order_of (meaning w)) ≤ length starts
  pub each : (p : ℕ) → p < length (order_of (meaning w)) → get_or starts p 0 ≡ column_start z (slot_of w (kind_no w p))

-- the table describes each group of the layout
pub record Groups (w : List ℕ) (t : List GroupMetadata) : Type 0 where
  pub room : groups_of (meaning w).storage.layout ≤ length t
  pub each : (g : ℕ) → g < groups_of (meaning w).storage.layout → (none : GroupMetadata) → Describes (meaning w) g (get_or t g none)

-- where an entity lacks one of a group's new kinds: by the group's number, the mask of all positions but those from it to its family's last
pub record Skips (w : List ℕ) (skips : List GroupMask) : Type 0 where
  pub room : groups_of (meaning w).storage.layout ≤ length skips
  pub each : (g : ℕ) → g < groups_of (meaning w).storage.layout → (none : GroupMask) → bits_of 64 (get_or skips g none).0 ≡ skipping 64 g (located (meaning w).storage.layout g).top

-- the three tables
pub record Tables (w : List ℕ) (z : Shape) (starts : List ℕ) (groups : List GroupMetadata) (skips : List GroupMask) : Type 0 where
  pub columns : Starts w z starts
  pub described : Groups w groups
  pub skipped : Skips w skips
