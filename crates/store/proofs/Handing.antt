-- What the entry *column* and its number promise, from what their branches show. Assumes nothing.
use mathlib.Core.Path.{◌≡◌, refl, sym, ap, ◌∙◌}
use mathlib.Core.Bool.{Bool, true, false}
use mathlib.Core.Option.{Option, some, none}
use mathlib.Core.List.{List, []}
use Prim.Native.Nat.{ℕ, ◌+◌, ◌*◌}
use native.Mathlib.Omega.{arith}
use lib.ListN.{length, take, drop}
use denote.Ref.{Bor}
use Rattle.model.specs.Numbers.{KIND, BEYOND, UNSOUND}
use Rattle.model.specs.Store.{Store}
use Rattle.model.specs.Refusals.{number_of, column_lines}
use Rattle.model.specs.Entries.{column_refusal, column}
use Rattle.model.proofs.Lines.{first_number}
use Rattle.model.proofs.Entries.{column_refused_law}
use Rattle.words.specs.Decides.{Decides}
use Rattle.memory.specs.Meaning.{meaning}
use Rattle.memory.specs.Arranged.{Sound}
use Rattle.columns.specs.Parts.{PartOf, RowsPart}
use Rattle.store.specs.Entries.{column_refused, ColumnNumbered, part_place, ColumnPart}

-- ---- the number

pub unsound_number : (w : List ℕ) (k a e : ℕ) → (Sound w → ⊥) → ColumnNumbered w k a e UNSOUND
unsound_number w k a e d = record { sound = false; decides = d; number = refl }

pub sound_number : (w : List ℕ) (k a e r : ℕ) → Sound w → r ≡ number_of (column_refusal k a e (meaning w)) → ColumnNumbered w k a e r
sound_number w k a e r S q = record { sound = true; decides = S; number = q }

-- column is accepted
pub record Given (w : List ℕ) (k a e : ℕ) : Type 0 where
  pub sound : Sound w
  pub taken : column_refusal k a e (meaning w) ≡ none

none_of : (k a e : ℕ) (s : Store) (o : Option ℕ) → column_refusal k a e s ≡ o → number_of o ≡ 0 → column_refusal k a e s ≡ none
unfolding column_refusal
none_of k a e s none p z = p
none_of k a e s (some n) p z = absurd (omega (arith, z, (first_number column_lines (record { kind = k; start = a; end = e; store = s }) KIND BEYOND n (omega arith) p).0))

pub given_of : (w : List ℕ) (k a e r : ℕ) → ColumnNumbered w k a e r → r ≡ 0 → Given w k a e
given_of w k a e r C z = go C.sound C.decides C.number
  where
    go : (b : Bool) → Decides b (Sound w) → r ≡ number_of (column_refused b k a e (meaning w)) → Given w k a e
    go false d q = absurd (omega (arith, q, z))
    go true d q = record { sound = d; taken = none_of k a e (meaning w) (column_refusal k a e (meaning w)) refl (sym q ∙ z) }

-- ---- the empty part at the front

pub refused_part : (v r : Bor (List ℕ)) (values : Bool) (k a e n : ℕ) → ColumnNumbered v.now k a e n → (n ≡ 0 → ⊥) → r.ref_ptr.0 ≡ v.ref_ptr.0 → r.ref_ptr.1 ≡ 0 * 4 + v.ref_ptr.1 → r.now ≡ [] → ColumnPart v r values k a e
refused_part v r values k a e n C f block offset words = go C.sound C.decides C.number
  where
    front : (at : ℕ) → at ≡ 0 → PartOf v r at (length r.now)
    front at z =
        let empty : length r.now ≡ 0 = ap length words in
        record {
          block = block;
          offset = omega arith;
          inside = omega arith;
          words = words ∙ ap (λ (m : ℕ). take m (drop at v.now)) (sym empty);
        }

    by_line : (o : Option ℕ) → n ≡ number_of o → part_place o values v.now k a ≡ 0
    by_line none q = absurd (f q)
    by_line (some m) q = refl

    none_given : (o : Option ℕ) → n ≡ number_of o → column_refusal k a e (meaning v.now) ≡ o → column values k a e (meaning v.now) ≡ []
    none_given none q p = absurd (f q)
    none_given (some m) q p = column_refused_law values k a e (meaning v.now) m p

    go : (b : Bool) → Decides b (Sound v.now) → n ≡ number_of (column_refused b k a e (meaning v.now)) → ColumnPart v r values k a e
    go false d q = record { sound = false; decides = d; words = words; part = front 0 refl }
    go true d q =
        record {
          sound = true;
          decides = d;
          words = words ∙ sym (none_given (column_refusal k a e (meaning v.now)) q refl);
          part = front (part_place (column_refusal k a e (meaning v.now)) values v.now k a) (by_line (column_refusal k a e (meaning v.now)) q);
        }

-- ---- the rows

pub given_part : (v r : Bor (List ℕ)) (values : Bool) (k a e : ℕ) → Given v.now k a e → RowsPart v r values k a e → ColumnPart v r values k a e
given_part v r values k a e G R = record { sound = true; decides = G.sound; words = R.words; part = rw G.taken R.part }
