-- When lent words are well arranged, and when they are a sound store. Assumes nothing.
use Rattle.std.specs.Prelude.{◌≡◌, ◌≢◌, List, [], ℕ, suc, ◌≤◌, ◌<◌, length, take, drop}
use Rattle.model.specs.Numbers.{LAST_CALLER, LIST_CAPACITY, MAX_KINDS}
use Rattle.words.specs.Offsets.{NEWER, UNREGISTERED}
use Rattle.words.specs.Shape.{column_start, shape_of}
use Rattle.model.specs.Store.{Store}
use Rattle.model.specs.Sound.{In, Limits}
use Rattle.model.specs.Sound as model_sound
use Rattle.component.specs.Columns.{Columns, rows_of}
use Rattle.entity.specs.Meaning as entity
use Rattle.entity.specs.Meaning.{entity_part}
use Rattle.layout.specs.Layout.{Arrays, WellFormed, width_of, group_count}
use Rattle.layout.specs.Group.{InFamily, arity_of, prior_arity, member_at}
use Rattle.memory.specs.Header.{capacity_of, kind_capacity_of, registered_of, staged_len, excluded_len, draft_groups, layout_groups, caller_of, rule_of, value_bytes_of, slot_of, group_family_at}
use Rattle.memory.specs.Meaning.{kind_at, own_at, local_at, draft_arrays, layout_arrays, meaning}

-- "at most K registered kinds, each with a column of its own": the table of kinds and the columns' heads point to each other
pub record TableSound (w : List ℕ) : Type 0 where
  pub few : registered_of w ≤ kind_capacity_of w
  pub slot : (k : ℕ) → k < MAX_KINDS → slot_of w k ≢ UNREGISTERED → slot_of w k < registered_of w
  pub back : (k : ℕ) → k < MAX_KINDS → slot_of w k ≢ UNREGISTERED → kind_at w (slot_of w k) ≡ k
  pub small : (s : ℕ) → s < registered_of w → kind_at w s < MAX_KINDS
  pub own : (s : ℕ) → s < registered_of w → slot_of w (kind_at w s) ≡ s

-- kind k is registered: it has a slot of its own
pub record Registered (w : List ℕ) (k : ℕ) : Type 0 where
  pub small : k < MAX_KINDS
  pub slot : slot_of w k < registered_of w

-- group g is of family f, its kinds are registered, and the heads of its new kinds' columns say so
pub record GroupSound (w : List ℕ) (a : Arrays) (g f : ℕ) : Type 0 where
  pub group : InFamily a f g
  pub known : (j : ℕ) → j < arity_of a g → Registered w (member_at a f j)
  pub own : (j : ℕ) → prior_arity a f g ≤ j → j < arity_of a g → own_at w (slot_of w (member_at a f j)) ≡ suc g
  pub local : (j : ℕ) → prior_arity a f g ≤ j → j < arity_of a g → local_at w (slot_of w (member_at a f j)) ≡ j

-- the layout in force: its block, the family of each group, and the columns' own groups
pub record LayoutSound (w : List ℕ) : Type 0 where
  pub formed : WellFormed (layout_arrays w)
  pub count : layout_groups w ≡ group_count (layout_arrays w)
  pub groups : (g : ℕ) → g < layout_groups w → GroupSound w (layout_arrays w) g (group_family_at w g)
  pub none : (s : ℕ) → s < registered_of w → 1 ≤ own_at w s → In (take (width_of (layout_arrays w)) (layout_arrays w).kinds) (kind_at w s)

-- all that the words must be besides meaning a sound store: enough of them, and tables, lookups and blocks that agree
pub record Arranged (w : List ℕ) : Type 0 where
  pub limits : Limits (capacity_of w) (kind_capacity_of w) (value_bytes_of w)
  pub enough : column_start (shape_of w) (kind_capacity_of w) ≤ length w
  pub table : TableSound w
  pub entities : entity.EntityPartSound (capacity_of w) (entity_part (capacity_of w) w)
  pub columns : Columns (shape_of w) (kind_capacity_of w) w
  pub vacant : (s : ℕ) → registered_of w ≤ s → s < kind_capacity_of w → rows_of (shape_of w) s w ≡ []
  pub staged : staged_len w ≤ LIST_CAPACITY
  pub excluded : excluded_len w ≤ LIST_CAPACITY
  pub caller : caller_of w ≤ LAST_CALLER
  -- 02, No. 8: "a sound one has one of the two rules"
  pub rule : rule_of w ≤ NEWER
  pub draft : WellFormed (draft_arrays w)
  pub draft_count : draft_groups w ≡ group_count (draft_arrays w)
  pub layout : LayoutSound w

-- 01: "A sound store"
pub record Sound (w : List ℕ) : Type 0 where
  pub arranged : Arranged w
  pub means : model_sound.StoreSound (meaning w)

-- what an operation leaves: well-arranged words that mean the store s, as many as before, those past the needed ones as they were
pub record Becomes (w w' : List ℕ) (s : Store) : Type 0 where
  pub arranged : Arranged w'
  pub means : meaning w' ≡ s
  pub size : length w' ≡ length w
  pub past : drop (column_start (shape_of w) (kind_capacity_of w)) w' ≡ drop (column_start (shape_of w) (kind_capacity_of w)) w
