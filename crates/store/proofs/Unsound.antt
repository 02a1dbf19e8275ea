-- "other entries, first | 3 UNSOUND": what each entry gives on words that are no sound store. Assumes nothing.
use mathlib.Core.Path.{◌≡◌}
use mathlib.Core.Bool.{Bool, true, false}
use mathlib.Core.List.{List}
use Prim.Native.Nat.{ℕ}
use native.Mathlib.Omega.{arith}
use Rattle.model.specs.Numbers.{UNSOUND}
use Rattle.words.specs.Decides.{Decides}
use Rattle.memory.specs.Meaning.{meaning}
use Rattle.memory.specs.Arranged.{Sound}
use Rattle.store.specs.Entries.{column_refused, ColumnNumbered, part_place}
use Rattle.store.specs.Linked.{ColumnPlaced}
use Rattle.store.specs.Theorems.{UnsoundAt}
use Rattle.store.proofs.Demands.{run_unsound, roll_refusals, column_refusals, refused_column_is_empty}
use Rattle.store.proofs.Exported.{column_copy_refusals}

module _ (w : List ℕ) (no : Sound w → ⊥) where
  number : (k a e r : ℕ) → ColumnNumbered w k a e r → r ≡ UNSOUND
  number k a e r C = (column_refusals w k a e r C).unsound.1 no

  place : (values : Bool) (k a e r : ℕ) → ColumnPlaced w values k a e r → r ≡ 0
  place values k a e r C = go C.sound C.decides C.place
    where
      go : (b : Bool) → Decides b (Sound w) → r ≡ part_place (column_refused b k a e (meaning w)) values w k a → r ≡ 0
      go true d p = absurd (no d)
      go false d p = p

  pub unsound_at : UnsoundAt w
  unsound_at =
      record {
        run = λ w' t o o' r R. (run_unsound w w' t o o' r R).1 no;
        roll = λ o o' r R. (roll_refusals w o o' r R).unsound.1 no;
        column = number;
        place = place;
        copy = λ o o' values k a e r C. (column_copy_refusals w o o' values k a e r C).unsound.1 no;
        part = λ v r values k a e n is P C. refused_column_is_empty v r values k a e n P C (omega (arith, number k a e n (rw is at C)));
      }
