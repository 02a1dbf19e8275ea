-- The loops that fill the tables. Assumes nothing.
use mathlib.Core.Path.{◌≡◌, refl, ap, sym, ◌∙◌, subst}
use mathlib.Core.List.{List}
use Prim.Native.Nat.{ℕ, ◌+◌, ◌≤◌, ◌<◌}
use native.Mathlib.Omega.{arith}
use lib.ListN.{length, get_or, set, length-set}
use lib.Seq.{get_or-set_same, get_or-set_other}
use Rattle.model.specs.Numbers.{MAX_GROUP_COUNT, MAX_KINDS}
use Rattle.model.specs.Model.{groups_of}
use Rattle.model.proofs.BoolLaws.{by-eq}
use Rattle.masks.specs.Masks.{bits_of, skipping}
use Rattle.masks.specs.declared.group_mask.GroupMask.{GroupMask}
use Rattle.words.specs.declared.Shape.{Shape}
use Rattle.words.specs.Shape.{column_start, shape_of}
use Rattle.layout.specs.declared.group_metadata.GroupMetadata.{GroupMetadata}
use Rattle.memory.specs.Header.{slot_of}
use Rattle.memory.specs.Meaning.{meaning}
use Rattle.memory.specs.Arranged.{Arranged}
use Rattle.group.specs.Flat.{located}
use Rattle.group.specs.Metadata.{order_of, Describes}
use Rattle.group.proofs.InWords.{groups_few, order_wide}
use Rattle.group.specs.Places.{kind_no}
use Rattle.group.specs.Tables.{Starts, Groups, Skips}

-- the places before p are filled
pub record Filled (w : List ℕ) (z : Shape) (was starts : List ℕ) (p : ℕ) : Type 0 where
  pub size : length starts ≡ length was
  pub within : p ≤ length (order_of (meaning w))
  pub each : (i : ℕ) → i < p → get_or starts i 0 ≡ column_start z (slot_of w (kind_no w i))

pub filled_start : (w : List ℕ) (z : Shape) (was : List ℕ) → Filled w z was was 0
filled_start w z was = record { size = refl; within = omega arith; each = λ i h. absurd (omega arith) }

module _ (w : List ℕ) (A : Arranged w) (z : Shape) (was : List ℕ) (room : MAX_KINDS ≤ length was) (starts : List ℕ) (p : ℕ) (F : Filled w z was starts p) where
  pub filled_room : p < length (order_of (meaning w)) → p < length starts
  filled_room h = omega (arith, F.size, order_wide w A)

  pub filled_turn : (v : ℕ) → p < length (order_of (meaning w)) → v ≡ column_start z (slot_of w (kind_no w p)) → Filled w z was (set starts p v) (p + 1)
  filled_turn v h q =
      record {
        size = length-set starts p v ∙ F.size;
        within = omega arith;
        each = λ i l.
            by-eq i p
            (λ e. rw e (get_or-set_same starts p v 0 (filled_room h) ∙ q))
            (λ ne. get_or-set_other starts p i v 0 ne ∙ F.each i (omega arith));
      }

  pub filled_end : z ≡ shape_of w → length (order_of (meaning w)) ≤ p → Starts w z starts
  filled_end e h = record { shape = e; room = omega (arith, F.size, order_wide w A); each = λ i l. F.each i (omega arith) }

-- ---- the groups

-- those before g are described
pub record Listed (w : List ℕ) (was t : List GroupMetadata) (g : ℕ) : Type 0 where
  pub size : length t ≡ length was
  pub within : g ≤ groups_of (meaning w).storage.layout
  pub each : (i : ℕ) → i < g → (none : GroupMetadata) → Describes (meaning w) i (get_or t i none)

module _ (w : List ℕ) (A : Arranged w) (was : List GroupMetadata) (room : MAX_GROUP_COUNT ≤ length was) (t : List GroupMetadata) (g : ℕ) (L : Listed w was t g) where
  pub listed_room : g < groups_of (meaning w).storage.layout → g < length t
  listed_room h = omega (arith, L.size, groups_few w A)

  pub listed_turn : (d : GroupMetadata) → g < groups_of (meaning w).storage.layout → Describes (meaning w) g d → Listed w was (set t g d) (g + 1)
  listed_turn d h D =
      record {
        size = length-set t g d ∙ L.size;
        within = omega arith;
        each = λ i l none.
            by-eq i g
            (λ e. rw e (subst (Describes (meaning w) g) (sym (get_or-set_same t g d none (listed_room h))) D))
            (λ ne. subst (Describes (meaning w) i) (sym (get_or-set_other t g i d none ne)) (L.each i (omega arith) none));
      }

  pub listed_end : groups_of (meaning w).storage.layout ≤ g → Groups w t
  listed_end h = record { room = omega (arith, L.size, groups_few w A); each = λ i l none. L.each i (omega arith) none }

-- ---- the masks

-- those of the groups before g are filled
pub record Skipping (w : List ℕ) (was t : List GroupMask) (g : ℕ) : Type 0 where
  pub size : length t ≡ length was
  pub within : g ≤ groups_of (meaning w).storage.layout
  pub each : (i : ℕ) → i < g → (none : GroupMask) → bits_of 64 (get_or t i none).0 ≡ skipping 64 i (located (meaning w).storage.layout i).top

module _ (w : List ℕ) (A : Arranged w) (was : List GroupMask) (room : MAX_GROUP_COUNT ≤ length was) (t : List GroupMask) (g : ℕ) (K : Skipping w was t g) where
  pub skipping_room : g < groups_of (meaning w).storage.layout → g < length t
  skipping_room h = omega (arith, K.size, groups_few w A)

  pub skipping_turn : (v : GroupMask) → g < groups_of (meaning w).storage.layout → bits_of 64 v.0 ≡ skipping 64 g (located (meaning w).storage.layout g).top → Skipping w was (set t g v) (g + 1)
  skipping_turn v h q =
      record {
        size = length-set t g v ∙ K.size;
        within = omega arith;
        each = λ i l none.
            by-eq i g
            (λ e. rw e (ap (λ (m : GroupMask). bits_of 64 m.0) (get_or-set_same t g v none (skipping_room h)) ∙ q))
            (λ ne. ap (λ (m : GroupMask). bits_of 64 m.0) (get_or-set_other t g i v none ne) ∙ K.each i (omega arith) none);
      }

  pub skipping_end : groups_of (meaning w).storage.layout ≤ g → Skips w t
  skipping_end h = record { room = omega (arith, K.size, groups_few w A); each = λ i l none. K.each i (omega arith) none }
