-- The clauses of a sound store in the order in which they are decided, each on grounds of those before: together they are `memory`'s `Sound`
-- (proofs/Whole.antt). Assumes nothing.
use Rattle.std.specs.Prelude.{List, ℕ, ◌+◌, ◌≤◌, length}
use Rattle.model.specs.Numbers.{LAST_CALLER}
use Rattle.model.specs.Sound.{Limits}
use Rattle.words.specs.Offsets.{DRAFT, EXCLUDED_KINDS, GROUP_FAMILIES, LAYOUT, NEWER, STAGED_KINDS, TABLE}
use Rattle.words.specs.Part.{between}
use Rattle.words.specs.Decides.{Each}
use Rattle.words.specs.Shape.{column_start, shape, shape_of}
use Rattle.words.specs.declared.Shape.{Shape}
use Rattle.entity.specs.Meaning as entity
use Rattle.entity.specs.Meaning.{entity_part}
use Rattle.layout.specs.Layout.{width_of}
use Rattle.layout_block.specs.Checks.{BlockSound}
use Rattle.memory.specs.Header.{capacity_of, kind_capacity_of, registered_of, staged_len, excluded_len, draft_families, draft_groups, layout_families, layout_groups, caller_of, rule_of, value_bytes_of}
use Rattle.memory.specs.Meaning.{layout_arrays}
use Rattle.sound_columns.specs.Table.{TableOk}
use Rattle.sound_columns.specs.Rows.{ColumnOk}
use Rattle.sound_columns.specs.Listed.{ListOk}
use Rattle.sound_groups.specs.Spans.{HeadsOk, OwnOk}
use Rattle.sound_groups.specs.Counts.{CountedOk}

-- "N and K within the limits of refusal 1, enough words for them"; 02, No. 13: "part width 8 or 16, and a sound one has one of the two"
pub record SizeOk (n k v : ℕ) (w : List ℕ) : Type 0 where
  pub limits : Limits n k v
  pub enough : column_start (shape n v) k ≤ length w

-- "at most K registered kinds, each with a column of its own"; the entities; "each column with its own lookups", "columns holding live cards only"
pub record PartsOk (z : Shape) (k : ℕ) (w : List ℕ) : Type 0 where
  pub table : TableOk z k w
  pub entities : entity.EntityPartSound z.capacity (entity_part z.capacity w)
  pub columns : Each k (ColumnOk z (registered_of w) w)

-- "hand, bar, draft .. of registered kinds, such as commands can build"; 02, No. 7: "a caller of 0 to 15"; No. 8: "one of the two rules"
pub record ListsOk (w : List ℕ) : Type 0 where
  pub staged : ListOk w STAGED_KINDS (staged_len w)
  pub excluded : ListOk w EXCLUDED_KINDS (excluded_len w)
  pub caller : caller_of w ≤ LAST_CALLER
  pub rule : rule_of w ≤ NEWER
  pub draft : BlockSound (between DRAFT LAYOUT w) (between TABLE STAGED_KINDS w) (draft_families w) (draft_groups w)

-- what the clauses on the layout stand on
pub record Ground (w : List ℕ) : Type 0 where
  pub size : SizeOk (capacity_of w) (kind_capacity_of w) (value_bytes_of w) w
  pub parts : PartsOk (shape_of w) (kind_capacity_of w) w

-- "layout of registered kinds, such as commands can build", and the heads of the columns that it names
pub record LayoutOk (z : Shape) (w : List ℕ) : Type 0 where
  pub block : BlockSound (between LAYOUT GROUP_FAMILIES w) (between TABLE STAGED_KINDS w) (layout_families w) (layout_groups w)
  pub heads : Each (layout_groups w) (HeadsOk z w)
  pub own : Each (registered_of w) (OwnOk z w (between LAYOUT (LAYOUT + width_of (layout_arrays w)) w))

-- "groups as demand 3 says"
abbrev pub CountsOk : Shape → List ℕ → Type 0
CountsOk z w = Each (layout_groups w) (CountedOk z w)

-- all of them
pub record Clauses (w : List ℕ) : Type 0 where
  pub ground : Ground w
  pub lists : ListsOk w
  pub layout : LayoutOk (shape_of w) w
  pub counts : CountsOk (shape_of w) w
