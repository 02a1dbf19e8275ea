-- Theorems over the contracts of the exported functions alone (specs/Linked.antt): the place and the copy of a column. Assumes nothing.
use mathlib.Core.Path.{◌≡◌, refl, sym, ap, ◌∙◌, subst}
use mathlib.Core.Bool.{Bool, true, false, cond}
use mathlib.Core.Option.{Option, some, none}
use mathlib.Core.List.{List, [], ◌∷◌, map}
use Prim.Native.Nat.{ℕ, ◌+◌, ◌*◌, ◌-◌, ◌≤◌}
use native.Mathlib.Omega.{arith}
use borrow.Author.Tests.{le-ltb, ltb-false}
use lib.ListN.{length, take, drop}
use lib.Seq.{length-take-le}
use denote.Ref.{Bor}
use Rattle.model.specs.Numbers.{NOROOM, BEYOND}
use Rattle.model.specs.Store.{Store}
use Rattle.model.specs.Refusals.{NoneHolds, First, first_line, number_of, column_lines}
use Rattle.model.specs.Entries.{column_refusal, column, item_words}
use Rattle.model.proofs.Lines.{first_exact, none_from}
use Rattle.model.proofs.Entries.{column_exact, column_refused_law, column_accepted}
use Rattle.model.proofs.Emitting.{emits_few}
use Rattle.words.specs.Decides.{Decides}
use Rattle.words.proofs.Decides.{decides_same, decides_true}
use Rattle.memory.specs.Meaning.{meaning}
use Rattle.memory.specs.Arranged.{Sound}
use Rattle.columns.specs.Parts.{row_place}
use Rattle.store.specs.declared.Reply.{Reply}
use Rattle.store.specs.Entries.{first_refusal, column_refused, ColumnNumbered, column_words, part_place, ColumnPart}
use Rattle.store.specs.Linked.{ColumnPlaced, CopyTold, copy_told, to_copy, of_part, room_line, copy_lines, copied, ColumnCopied, CopyWrote}
use Rattle.store.specs.Theorems.{Judged}
use Rattle.store.proofs.Emitting.{over_refused, over_past, over_refusals, over_written}
use Rattle.store.proofs.Handing.{Given, given_of}
use Rattle.store.proofs.Linking.{first_of_part, numbered_copy}
use Rattle.store.proofs.Determined.{alike_same, column_copy_determined}

-- ---- the place

-- it is where the part that column hands back lies, four bytes a word from the words' start
pub placed_part : (v p : Bor (List ℕ)) (values : Bool) (k a e r : ℕ) → ColumnPart v p values k a e → ColumnPlaced v.now values k a e r → p.ref_ptr ≡ (v.ref_ptr.0, r * 4 + v.ref_ptr.1)
placed_part v p values k a e r P R =
    let b : P.sound ≡ R.sound = decides_same P.sound R.sound P.decides R.decides ((λ S. S), (λ S. S)) in
    let at : part_place (column_refused P.sound k a e (meaning v.now)) values v.now k a ≡ r = (λ i. part_place (column_refused (b i) k a e (meaning v.now)) values v.now k a) ∙ sym R.place in
    let offset : p.ref_ptr.1 ≡ r * 4 + v.ref_ptr.1 = P.part.offset ∙ ap (λ (n : ℕ). n * 4 + v.ref_ptr.1) at in
    λ i. (P.part.block i, offset i)

row_after_head : (values : Bool) (w : List ℕ) (k a : ℕ) → 1 ≤ row_place values w k a
row_after_head false w k a = omega arith
row_after_head true w k a = omega arith

-- where column is accepted it is not 0, and column's words, two for an entity and a value's for a value, stand there; where column is refused it is 0
pub placed_words : (w : List ℕ) (values : Bool) (k a e n r : ℕ) → ColumnNumbered w k a e n → ColumnPlaced w values k a e r
    → (n ≡ 0 → (1 ≤ r) × (take (item_words (meaning w).settings.value_bytes values * (e - a)) (drop r w) ≡ column values k a e (meaning w))) × (1 ≤ n → r ≡ 0)
placed_words w values k a e n r C R = (there, front)
  where
    s : Store
    s = meaning w

    there : n ≡ 0 → (1 ≤ r) × (take (item_words s.settings.value_bytes values * (e - a)) (drop r w) ≡ column values k a e s)
    there z =
        let G : Given w k a e = given_of w k a e n C z in
        let b : R.sound ≡ true = decides_true R.sound R.decides G.sound in
        let at : r ≡ row_place values w k a =
        R.place ∙ (λ i. part_place (column_refused (b i) k a e s) values w k a) ∙ ap (λ (o : Option ℕ). part_place o values w k a) G.taken in
        let words : column values k a e s ≡ take (length (column values k a e s)) (drop r w) =
        subst (λ (c : Bool). column_words c values k a e s ≡ take (length (column_words c values k a e s)) (drop r w)) b R.words in
        let long : length (column values k a e s) ≡ item_words s.settings.value_bytes values * (e - a) = (column_accepted values k a e s G.taken).size in
        (rw at (row_after_head values w k a), sym (words ∙ ap (λ (m : ℕ). take m (drop r w)) long))

    line : (o : Option ℕ) → n ≡ number_of o → 1 ≤ n → part_place o values w k a ≡ 0
    line none q h = absurd (omega (arith, q, h))
    line (some m) q h = refl

    front : 1 ≤ n → r ≡ 0
    front h =
        let b : C.sound ≡ R.sound = decides_same C.sound R.sound C.decides R.decides ((λ S. S), (λ S. S)) in
        R.place ∙ line (column_refused R.sound k a e s) (C.number ∙ (λ i. number_of (column_refused (b i) k a e s))) h

-- ---- the copy: "A refusal comes when its line holds and no line above does, else never"

pub column_copy_refusals : (w o o' : List ℕ) (values : Bool) (k a e : ℕ) (r : Reply) → ColumnCopied w o o' values k a e r → Judged w copy_lines (copy_told values k a e (length o) (meaning w)) r.number
column_copy_refusals w o o' values k a e r R =
    let told : CopyTold = copy_told values k a e (length o) (meaning w) in
    over_refusals copy_lines told (to_copy told) NOROOM BEYOND (omega arith) w o o' r.number r.written (omega arith) R

-- 01's table has 6 above 7 and 16: where column is refused, the line of 6 does not hold
pub copy_order : (c : CopyTold) (n : ℕ) → First column_lines c.part n → room_line.holds c ≡ false
copy_order c n f =
    let p = c.part in
    let empty : to_copy c ≡ [] = column_refused_law c.values p.kind p.start p.end p.store n ((column_exact p.kind p.start p.end p.store n).1 f) in
    rw empty (le-ltb c.room 0 (omega arith))

-- so that 6 above them gives the same number
pub copy_order_free : (c : CopyTold) → first_line (room_line ∷ map of_part column_lines) c ≡ first_line copy_lines c
copy_order_free c =
    ap (λ (r : Option ℕ). cond (room_line.holds c) (some NOROOM) r) (first_of_part column_lines [] c)
    ∙ by_refusal (first_line column_lines c.part) refl
    ∙ sym (first_of_part column_lines (room_line ∷ []) c)
  where
    by_refusal : (r : Option ℕ) → first_line column_lines c.part ≡ r → cond (room_line.holds c) (some NOROOM) (first_refusal r none) ≡ first_refusal r (cond (room_line.holds c) (some NOROOM) none)
    by_refusal none p = refl
    by_refusal (some n) p = rw (copy_order c n ((first_exact column_lines c.part n).0 p))

-- a number of column is the copy's
pub copy_number : (w o o' : List ℕ) (values : Bool) (k a e n : ℕ) (r : Reply) → ColumnNumbered w k a e n → 1 ≤ n → ColumnCopied w o o' values k a e r → r.number ≡ n
copy_number w o o' values k a e n r C h R =
    let q : Reply = record { number = n; written = 0 } in
    let Q : ColumnCopied w o o values k a e q = numbered_copy w o values k a e n C (λ z. omega (arith, z, h)) in
    ap (λ (x : Reply). x.number) (column_copy_determined w w o o o' o values k a e r q (alike_same w w refl) refl R Q).result

-- "every refusal outside a run, change no lent memory, with zeros beside the number"
pub refused_copy_changes_nothing : (w o o' : List ℕ) (values : Bool) (k a e : ℕ) (r : Reply) → ColumnCopied w o o' values k a e r → 1 ≤ r.number → (o' ≡ o) × (r.written ≡ 0)
refused_copy_changes_nothing w o o' values k a e r R h = over_refused w o o' r.number r.written (copied (copy_told values k a e (length o) (meaning w))) R h

-- what an accepted one wrote
pub column_copied : (w o o' : List ℕ) (values : Bool) (k a e : ℕ) (r : Reply) → ColumnCopied w o o' values k a e r → r.number ≡ 0 → CopyWrote w o o' values k a e r
unfolding column_refusal
column_copied w o o' values k a e r R z =
    let s = meaning w in
    let told : CopyTold = copy_told values k a e (length o) s in
    let W = over_written copy_lines told (to_copy told) NOROOM BEYOND (omega arith) w o o' r.number r.written (omega arith) R z in
    let ok : NoneHolds column_lines told.part = (W.1.0, (W.1.1.0, tt)) in
    let taken : column_refusal k a e s ≡ none = none_from column_lines told.part ok in
    let long : r.written ≡ length (column values k a e s) =
    sym (length-take-le r.written o' (emits_few o o' r.number r.written _ R.emits)) ∙ ap length W.2 in
    record {
      sound = W.0;
      accepted = ok;
      count = long ∙ (column_accepted values k a e s taken).size;
      room = omega (arith, long, ltb-false (length o) (length (column values k a e s)) W.1.1.1.0);
      words = W.2;
      past = over_past w o o' r.number r.written (copied told) R;
    }

-- these are the words of the part that column hands back
pub copied_part : (v p : Bor (List ℕ)) (o o' : List ℕ) (values : Bool) (k a e : ℕ) (r : Reply) → ColumnPart v p values k a e → ColumnCopied v.now o o' values k a e r → r.number ≡ 0 → take r.written o' ≡ p.now
copied_part v p o o' values k a e r P R z =
    let W = column_copied v.now o o' values k a e r R z in
    W.words ∙ sym (go P.sound P.decides P.words W.sound)
  where
    go : (b : Bool) → Decides b (Sound v.now) → p.now ≡ column_words b values k a e (meaning v.now) → Sound v.now → p.now ≡ column values k a e (meaning v.now)
    go false d q S = absurd (d S)
    go true d q S = q
