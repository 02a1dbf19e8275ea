-- What the exported forms of *column* promise, from what their branches show. Assumes nothing.
use mathlib.Core.Path.{◌≡◌, refl, sym, ap, ◌∙◌, subst}
use mathlib.Core.Bool.{Bool, true, false}
use mathlib.Core.Option.{Option, some, none}
use mathlib.Core.List.{List, [], ◌∷◌, ◌++◌, map}
use Prim.Native.Nat.{ℕ, ◌≤◌, ◌<◌}
use borrow.Author.Tests.{lt-ltb, le-ltb}
use lib.ListN.{length, get_or, take, drop}
use denote.Ref.{Bor}
use Rattle.model.specs.Numbers.{NOROOM}
use Rattle.model.specs.Store.{Store}
use Rattle.model.specs.Refusals.{Line, Part, first_line, number_of, column_lines}
use Rattle.model.specs.Entries.{column_refusal, column, Emitted, refuses_emit, writes, emitted_by}
use Rattle.model.proofs.BoolLaws.{bool_cases}
use Rattle.model.proofs.Entries.{column_refused_law}
use Rattle.words.specs.Decides.{Decides}
use Rattle.memory.specs.Meaning.{meaning}
use Rattle.memory.specs.Arranged.{Sound}
use Rattle.columns.specs.Parts.{row_place, RowsPart}
use Rattle.columns.proofs.Columns.{size_of, known_of, words_there}
use Rattle.store.specs.Entries.{first_refusal, column_refused, ColumnNumbered, EmitsOver}
use Rattle.store.specs.Linked.{ColumnPlaced, CopyTold, copy_told, of_part, room_line, copy_lines, copied, ColumnCopied}
use Rattle.store.proofs.Handing.{Given}
use Rattle.store.proofs.Emitting.{unsound_emits, refuses_over, copies_over}

-- ---- the place

pub refused_place : (w : List ℕ) (values : Bool) (k a e n : ℕ) → ColumnNumbered w k a e n → (n ≡ 0 → ⊥) → ColumnPlaced w values k a e 0
refused_place w values k a e n C f = go C.sound C.decides C.number
  where
    line : (o : Option ℕ) → Sound w → column_refusal k a e (meaning w) ≡ o → n ≡ number_of o → ColumnPlaced w values k a e 0
    line none S p q = absurd (f q)
    line (some m) S p q =
        let empty : column values k a e (meaning w) ≡ [] = column_refused_law values k a e (meaning w) m p in
        record { sound = true; decides = S; place = rw p; words = rw empty }

    go : (b : Bool) → Decides b (Sound w) → n ≡ number_of (column_refused b k a e (meaning w)) → ColumnPlaced w values k a e 0
    go false d q = record { sound = false; decides = d; place = refl; words = refl }
    go true d q = line (column_refusal k a e (meaning w)) d refl q

pub given_place : (w : List ℕ) (values : Bool) (k a e first : ℕ) → Given w k a e → ((j : ℕ) → get_or w j 0 < 4294967296) → first ≡ row_place values w k a → ColumnPlaced w values k a e first
given_place w values k a e first G small at =
    let there : column values k a e (meaning w) ≡ take (size_of w values a e) (drop (row_place values w k a) w) = words_there w values k a e G.sound.arranged G.taken small in
    let long : length (column values k a e (meaning w)) ≡ size_of w values a e = (known_of w values k a e G.sound.arranged G.taken).size in
    record {
      sound = true;
      decides = G.sound;
      place = rw G.taken at;
      words = there ∙ (λ i. take (sym long i) (drop (sym at i) w));
    }

-- ---- the copy

-- a line of column holds before the line of the room
pub first_of_part : (ls : List (Line Part)) (rest : List (Line CopyTold)) (c : CopyTold) → first_line (map of_part ls ++ rest) c ≡ first_refusal (first_line ls c.part) (first_line rest c)
first_of_part [] rest c = refl
first_of_part (l ∷ ls) rest c = bool_cases (l.holds c.part) (λ t. rw t) (λ t. rw t (first_of_part ls rest c))

pub copy_first : (values : Bool) (k a e room : ℕ) (s : Store) → first_line copy_lines (copy_told values k a e room s) ≡ first_refusal (column_refusal k a e s) (first_line (room_line ∷ []) (copy_told values k a e room s))
unfolding column_refusal
copy_first values k a e room s = first_of_part column_lines (room_line ∷ []) (copy_told values k a e room s)

module _ (values : Bool) (k a e room : ℕ) (s : Store) where
  by_first : (r : Option ℕ) → column_refusal k a e s ≡ r → copied (copy_told values k a e room s) ≡ emitted_by (first_refusal r (first_line (room_line ∷ []) (copy_told values k a e room s))) (column values k a e s)
  by_first r p =
      ap (λ (f : Option ℕ). emitted_by f (column values k a e s))
      (copy_first values k a e room s ∙ ap (λ (f : Option ℕ). first_refusal f (first_line (room_line ∷ []) (copy_told values k a e room s))) p)

  copied_refused : (n : ℕ) → column_refusal k a e s ≡ some n → copied (copy_told values k a e room s) ≡ refuses_emit n
  copied_refused n p = by_first (some n) p

  module _ (p : column_refusal k a e s ≡ none) where
    copied_short : room < length (column values k a e s) → copied (copy_told values k a e room s) ≡ refuses_emit NOROOM
    copied_short h = by_first none p ∙ rw (lt-ltb room (length (column values k a e s)) h)

    copied_fits : length (column values k a e s) ≤ room → copied (copy_told values k a e room s) ≡ writes (column values k a e s)
    copied_fits h = by_first none p ∙ rw (le-ltb room (length (column values k a e s)) h)

-- a number of column is the copy's
pub numbered_copy : (w o : List ℕ) (values : Bool) (k a e n : ℕ) → ColumnNumbered w k a e n → (n ≡ 0 → ⊥) → ColumnCopied w o o values k a e (record { number = n; written = 0 })
numbered_copy w o values k a e n C f = go C.sound C.decides C.number
  where
    x : Emitted
    x = copied (copy_told values k a e (length o) (meaning w))

    line : (r : Option ℕ) → Sound w → column_refusal k a e (meaning w) ≡ r → n ≡ number_of r → EmitsOver w o o n 0 x
    line none S p q = absurd (f q)
    line (some m) S p q = rw q (refuses_over w o m x S (copied_refused values k a e (length o) (meaning w) m p))

    go : (b : Bool) → Decides b (Sound w) → n ≡ number_of (column_refused b k a e (meaning w)) → EmitsOver w o o n 0 x
    go false d q = rw q (unsound_emits w o x d)
    go true d q = line (column_refusal k a e (meaning w)) d refl q

module _ (v r : Bor (List ℕ)) (o : List ℕ) (values : Bool) (k a e : ℕ) (G : Given v.now k a e) (R : RowsPart v r values k a e) where
  pub short_copy : length o < length r.now → ColumnCopied v.now o o values k a e (record { number = NOROOM; written = 0 })
  short_copy h =
      let s = meaning v.now in
      refuses_over v.now o NOROOM (copied (copy_told values k a e (length o) s)) G.sound
      (copied_short values k a e (length o) s G.taken (subst (λ (x : List ℕ). length o < length x) R.words h))

  pub whole_copy : (o' : List ℕ) (n : ℕ) → length r.now ≤ length o → n ≡ length r.now → o' ≡ r.now ++ drop (length r.now) o → ColumnCopied v.now o o' values k a e (record { number = 0; written = n })
  whole_copy o' n h c b =
      let s = meaning v.now in
      copies_over v.now o o' (column values k a e s) n (copied (copy_told values k a e (length o) s)) G.sound
      (copied_fits values k a e (length o) s G.taken (subst (λ (x : List ℕ). length x ≤ length o) R.words h))
      (c ∙ ap length R.words) (b ∙ ap (λ (x : List ℕ). x ++ drop (length x) o) R.words)
