-- The layout in force as words (docs/WORDS.md): where a group's new kinds stand among them, and what the columns' heads say. Assumes nothing.
use Rattle.std.specs.Prelude.{◌≡◌, Bool, true, false, List, ℕ, suc, ◌+◌, ◌-◌, ◌≤◌, ◌<◌, length, get_or}
use Rattle.model.specs.Numbers.{MAX_GROUP_COUNT, MAX_KINDS}
use Rattle.words.specs.Offsets.{COLUMN_KIND, ENTITIES, LAYOUT, LAYOUT_ARITIES, OWN_GROUP, PLACE_IN_FAMILY}
use Rattle.words.specs.declared.Shape.{Shape}
use Rattle.model.specs.Model.{mem}
use Rattle.model.specs.Sound.{In}
use Rattle.component.specs.Changes.{Lent}
use Rattle.layout.specs.Layout.{start_of}
use Rattle.layout.specs.Group.{InFamily, arity_of, prior_arity}
use Rattle.memory.specs.Header.{layout_families, slot_of, group_family_at}
use Rattle.memory.specs.Meaning.{layout_arrays}
use Rattle.sound_columns.specs.Slots.{head_at, Over}

-- the words of family f's first kind, of the first of group g's new kinds, and past the last of them
abbrev pub first_at : List ℕ → ℕ → ℕ
first_at w f = LAYOUT + start_of (layout_arrays w).kind_ends f

abbrev pub from_at : List ℕ → ℕ → ℕ → ℕ
from_at w f g = LAYOUT + (start_of (layout_arrays w).kind_ends f + prior_arity (layout_arrays w) f g)

abbrev pub to_at : List ℕ → ℕ → ℕ → ℕ
to_at w f g = LAYOUT + (start_of (layout_arrays w).kind_ends f + arity_of (layout_arrays w) g)

-- the word at j is a kind that has a column
pub record KindAt (z : Shape) (w : List ℕ) (j : ℕ) : Type 0 where
  pub small : get_or w j 0 < MAX_KINDS
  pub lent : Lent z (slot_of w (get_or w j 0)) w

-- so are the words from a on, below e
pub record KindsAt (z : Shape) (w : List ℕ) (a e : ℕ) : Type 0 where
  pub inside : e ≤ LAYOUT_ARITIES
  pub kinds : Over a e (KindAt z w)

-- those words, of group g of family f, are such kinds
pub record SpanOk (z : Shape) (w : List ℕ) (f g : ℕ) : Type 0 where
  pub first : KindAt z w (first_at w f)
  pub low : first_at w f < LAYOUT_ARITIES
  pub new : KindsAt z w (from_at w f g) (to_at w f g)

-- what the block of the layout in force is good for, whatever the heads and the counts say
pub record Force (z : Shape) (families : ℕ) (w : List ℕ) : Type 0 where
  pub long : ENTITIES ≤ length w
  pub few : families ≤ MAX_GROUP_COUNT
  pub is : families ≡ layout_families w
  pub spans : (f g : ℕ) → InFamily (layout_arrays w) f g → SpanOk z w f g

-- the head of the column of the kind at word j says its own group and its place in its family
pub record HeadOk (z : Shape) (w : List ℕ) (g first j : ℕ) : Type 0 where
  pub own : head_at z w (slot_of w (get_or w j 0)) OWN_GROUP ≡ suc g
  pub local : head_at z w (slot_of w (get_or w j 0)) PLACE_IN_FAMILY ≡ j - first

-- so do the heads of all new kinds of group g of family f
abbrev pub NewOk : Shape → List ℕ → ℕ → ℕ → Type 0
NewOk z w f g = Over (from_at w f g) (to_at w f g) (HeadOk z w g (first_at w f))

-- group g is of the family that is said to have it, and the heads of its new kinds' columns say so
pub record HeadsOk (z : Shape) (w : List ℕ) (g : ℕ) : Type 0 where
  pub of : InFamily (layout_arrays w) (group_family_at w g) g
  pub heads : NewOk z w (group_family_at w g) g

-- a column that says a group has one of these kinds
abbrev pub OwnOk : Shape → List ℕ → List ℕ → ℕ → Type 0
OwnOk z w kinds s = 1 ≤ head_at z w s OWN_GROUP → In kinds (head_at z w s COLUMN_KIND)

-- the table marks the kinds of the list, and no others
abbrev pub Marked : List Bool → List ℕ → Type 0
Marked seen kinds = (k : ℕ) → k < MAX_KINDS → get_or seen k false ≡ mem k kinds

-- the same of a column, by the table
abbrev pub SeenOk : Shape → List ℕ → List Bool → ℕ → Type 0
SeenOk z w seen s = 1 ≤ head_at z w s OWN_GROUP → get_or seen (head_at z w s COLUMN_KIND) false ≡ true
