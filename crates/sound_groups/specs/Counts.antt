-- A group's count, told by one pass over the columns: `h` is the slot of its family's first kind, its new kinds are the words from a on, below e.
-- 01, a sound store: "groups as demand 3 says". Assumes nothing.
use Rattle.std.specs.Prelude.{◌≡◌, true, List, ℕ, ◌+◌, ◌≤◌, length, get_or}
use Rattle.words.specs.Offsets.{ENTITIES, GROUP_COUNTS}
use Rattle.model.specs.Model.{Entity, SparseSet, held}
use Rattle.words.specs.Part.{between}
use Rattle.words.specs.Decides.{Each}
use Rattle.words.specs.declared.Shape.{Shape}
use Rattle.component.specs.Columns.{rows_of}
use Rattle.layout.specs.Layout.{start_of}
use Rattle.layout.specs.Group.{prior_of}
use Rattle.memory.specs.Header.{slot_of, group_family_at, count_at}
use Rattle.memory.specs.Meaning.{layout_arrays}
use Rattle.sound_columns.specs.Slots.{Over}
use Rattle.sound_columns.specs.Rows.{key_at}
use Rattle.sound_groups.specs.Spans.{first_at, from_at, to_at}

-- the words at i from a and from b on are equal
abbrev pub SameWord : List ℕ → ℕ → ℕ → ℕ → Type 0
SameWord w a b i = get_or w (a + i) 0 ≡ get_or w (b + i) 0

-- the rows of the kind at word j
abbrev pub rows_at : Shape → List ℕ → ℕ → SparseSet
rows_at z w j = rows_of z (slot_of w (get_or w j 0)) w

-- the first c rows of the kind at word j have h's entities
pub record EvenOk (z : Shape) (w : List ℕ) (h c j : ℕ) : Type 0 where
  pub fits : c ≤ length (rows_at z w j)
  pub even : Each c (λ i. key_at z w (slot_of w (get_or w j 0)) i ≡ key_at z w h i)

-- the entity holds all these kinds
abbrev pub HoldsAll : Shape → List ℕ → ℕ → ℕ → Entity → Type 0
HoldsAll z w a e x = Over a e (λ j. held x (rows_at z w j) ≡ true)

-- the group has count c, the next smaller one b (the smallest: as many as h has rows)
pub record CountOk (z : Shape) (w : List ℕ) (h a e b c : ℕ) : Type 0 where
  pub less : c ≤ b
  pub inside : b ≤ length (rows_of z h w)
  pub even : Over a e (EvenOk z w h c)
  pub past : Over c b (λ i. HoldsAll z w a e (key_at z w h i) → ⊥)

-- group g of family f
abbrev pub GroupCounted : Shape → List ℕ → ℕ → ℕ → Type 0
GroupCounted z w f g =
    CountOk z w (slot_of w (get_or w (first_at w f) 0)) (from_at w f g) (to_at w f g)
    (prior_of (between GROUP_COUNTS ENTITIES w) (start_of (layout_arrays w).ends f) g (length (rows_at z w (first_at w f))))
    (count_at w g)

abbrev pub CountedOk : Shape → List ℕ → ℕ → Type 0
CountedOk z w g = GroupCounted z w (group_family_at w g) g
