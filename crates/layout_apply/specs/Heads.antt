-- The heads of the columns while a layout is put in force: each kind's own group and its place in its family. Assumes nothing.
use Rattle.std.specs.Prelude.{◌≡◌, List, ℕ, suc, ◌+◌, ◌≤◌, ◌<◌, length, get_or, set, take, drop}
use Rattle.model.specs.Numbers.{MAX_KINDS}
use Rattle.model.specs.Sound.{In}
use Rattle.words.specs.Offsets.{COLUMN_KIND, ENTITIES, OWN_GROUP, PLACE_IN_FAMILY}
use Rattle.words.specs.Shape.{column_start, shape_of}
use Rattle.words.specs.declared.Shape.{Shape}
use Rattle.component.specs.Columns.{column_of, rows_of, Columns}
use Rattle.layout.specs.Layout.{Arrays, WellFormed, start_of, width_of}
use Rattle.layout.specs.Group.{InFamily, arity_of, prior_arity}
use Rattle.memory.specs.Header.{kind_capacity_of, registered_of, slot_of}
use Rattle.memory.specs.Meaning.{kind_at, own_at, local_at, layout_arrays}

-- words 2 and 3 of the head of slot s's column
abbrev pub with_own : Shape → ℕ → ℕ → ℕ → List ℕ → List ℕ
with_own z s own place w = set (set w (column_start z s + OWN_GROUP) own) (column_start z s + PLACE_IN_FAMILY) place

-- nothing has changed but words 2 and 3 of the columns' heads, in k slots of shape z
pub record Reheaded (z : Shape) (k : ℕ) (w w' : List ℕ) : Type 0 where
  pub columns : Columns z k w'
  pub size : length w' ≡ length w
  pub rows : (s : ℕ) → s < k → rows_of z s w' ≡ rows_of z s w
  pub kinds : (s : ℕ) → s < k → get_or (column_of z s w') COLUMN_KIND 0 ≡ get_or (column_of z s w) COLUMN_KIND 0
  pub front : take (column_start z 0) w' ≡ take (column_start z 0) w
  pub past : drop (column_start z k) w' ≡ drop (column_start z k) w

abbrev pub Heads : List ℕ → List ℕ → Type 0
Heads w w' = Reheaded (shape_of w) (kind_capacity_of w) w w'

-- the columns of the first m slots are in no group
pub record Groupless (z : Shape) (k m : ℕ) (w w' : List ℕ) : Type 0 where
  pub heads : Reheaded z k w w'
  pub none : (s : ℕ) → s < m → get_or (column_of z s w') OWN_GROUP 0 ≡ 0

-- of however many slots the words have
abbrev pub ClearsHeads : Shape → ℕ → List ℕ → List ℕ → Type 0
ClearsHeads z m w w' = (k : ℕ) → m ≤ k → Columns z k w → Groupless z k m w w'

-- kind k has a slot, whose column is k's
pub record Slotted (w : List ℕ) (k : ℕ) : Type 0 where
  pub small : k < MAX_KINDS
  pub slot : slot_of w k < registered_of w
  pub back : kind_at w (slot_of w k) ≡ k

-- the p-th kind of the layout in force, and its column's slot
abbrev pub kind_no : List ℕ → ℕ → ℕ
kind_no w p = get_or (layout_arrays w).kinds p 0

abbrev pub slot_no : List ℕ → ℕ → ℕ
slot_no w p = slot_of w (kind_no w p)

-- the words are well arranged but for the columns' heads: enough for the heads to be set
pub record HeadsReady (w : List ℕ) : Type 0 where
  pub long : ENTITIES ≤ length w
  pub columns : Columns (shape_of w) (kind_capacity_of w) w
  pub few : registered_of w ≤ kind_capacity_of w
  pub formed : WellFormed (layout_arrays w)
  pub known : (p : ℕ) → p < width_of (layout_arrays w) → Slotted w (kind_no w p)

-- place j of family f is that of a new kind of group g
pub record NewAt (a : Arrays) (f g j : ℕ) : Type 0 where
  pub group : InFamily a f g
  pub from : prior_arity a f g ≤ j
  pub to : j < arity_of a g

-- where place j of family f is among all kinds
abbrev pub place_no : Arrays → ℕ → ℕ → ℕ
place_no a f j = start_of a.kind_ends f + j

-- the column of the p-th kind says that it is new in group g, at place j of its family
pub record HeadIs (w : List ℕ) (p g j : ℕ) : Type 0 where
  pub own : own_at w (slot_no w p) ≡ suc g
  pub local : local_at w (slot_no w p) ≡ j

-- the heads of the first p kinds' columns are right, and only kinds of the layout have an own group
pub record Upto (w : List ℕ) (p : ℕ) : Type 0 where
  pub right : (f g j : ℕ) → NewAt (layout_arrays w) f g j → place_no (layout_arrays w) f j < p → HeadIs w (place_no (layout_arrays w) f j) g j
  pub none : (s : ℕ) → s < registered_of w → 1 ≤ own_at w s → In (take (width_of (layout_arrays w)) (layout_arrays w).kinds) (kind_at w s)

-- the heads changed up to the p-th kind
pub record HeadedUpto (w w' : List ℕ) (p : ℕ) : Type 0 where
  pub heads : Heads w w'
  pub upto : Upto w' p

-- those of group g, whose arity is the answer
pub record HeadsGroup (w w' : List ℕ) (f g r : ℕ) : Type 0 where
  pub arity : r ≡ arity_of (layout_arrays w) g
  pub headed : HeadedUpto w w' (place_no (layout_arrays w) f r)
