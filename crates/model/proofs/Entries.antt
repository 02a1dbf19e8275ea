-- The entries *start* (and *start_with*), *column* and *roll*: refused exactly where the table gives it, and what an accepted one gives. Assumes nothing.
use mathlib.Core.Path.{◌≡◌, refl, ap, sym, ◌∙◌}
use mathlib.Core.Logic.{◌↔◌, inl, inr}
use mathlib.Core.Bool.{Bool, true, false, not, ◌||◌}
use mathlib.Core.Option.{Option, some, none}
use mathlib.Core.List.{List, [], ◌∷◌, map}
use Prim.Native.Nat.{ℕ, zero, suc, ◌-◌, ◌*◌, ◌/◌, ◌≤◌}
use native.Mathlib.Omega.{arith}
use native.Mathlib.Nat.{pos_of_ne-zero}
use borrow.Author.Tests.{ltb-false, eqb-false, eqb-true, ne_eqb, le-ltb, not-false}
use lib.Dec.{eqb, ltb}
use lib.ListN.{length, take, length-append, length-map, length-drop}
use lib.Seq.{length-take-le}
use Rattle.model.specs.Numbers.{LAST_KIND, LONG_VALUE_BYTES, MAX_ENTITIES, MAX_KINDS, VALUE_BYTES, stride_of}
use Rattle.model.specs.Model.{Entity, SparseSet, set_of, keys, entity_of}
use Rattle.model.specs.Store.{Settings, Store, empty_with, words_needed, is_kind}
use Rattle.model.specs.Snapshot.{snapshot}
use Rattle.model.specs.Refusals.{first_line, NoneHolds, First, outside, other_width, outsize, start_lines, roll_lines, column_lines}
use Rattle.model.specs.Entries.{refuses_start, makes, started_by, start_told, start_with, entity_words, in_words, value_words, row_value, part, part_words, item_words, column_refusal, column, refuses_emit, writes, roll}
use Rattle.model.specs.Sound.{EightOrSixteen, Limits, StoreSound}
use Rattle.model.proofs.BoolLaws.{or_false, or_false_right, bool_cases}
use Rattle.model.proofs.Operations.{empty_sound}
use Rattle.model.proofs.Lines.{none_to, first_exact}
use Rattle.model.proofs.Emitting.{emitted_exact, emitted_writes}
use Rattle.model.specs.Theorems.{Makes, Columned}

-- ---- start

started_refused : (r : Option ℕ) (s : Store) (n : ℕ) → started_by r s ≡ refuses_start n → r ≡ some n
started_refused (some m) s n e = let p : m ≡ n = cc in ap {B = Option ℕ} some p
started_refused none s n e = let z : ◌≡◌ {A = ℕ} 0 1 = cc in absurd (omega arith)

started_made : (r : Option ℕ) (s t : Store) → started_by r s ≡ makes t → (r ≡ none) × (s ≡ t)
started_made (some m) s t e = let z : ◌≡◌ {A = ℕ} 0 1 = cc in absurd (omega arith)
started_made none s t e = (refl, cc)

-- start is refused by a number exactly where the table gives it
pub start_exact : (c : Settings) (words m : ℕ) → (start_with c words ≡ refuses_start m) ↔ First start_lines (start_told c words) m
unfolding start_with
start_exact c words m = (
  (λ e. (first_exact start_lines (start_told c words) m).0 (started_refused (first_line start_lines (start_told c words)) (empty_with c) m e)),
  (λ f. ap (λ (r : Option ℕ). started_by r (empty_with c)) ((first_exact start_lines (start_told c words) m).1 f)),
)

inside : (n most : ℕ) → outside n most ≡ false → (1 ≤ n) × (n ≤ most)
inside n most h = let z : n ≡ 0 → ⊥ = eqb-false n 0 (or_false (eqb n 0) (ltb most n) h) in (pos_of_ne-zero z, ltb-false most n (or_false_right (eqb n 0) (ltb most n) h))

one_width : (v : ℕ) → other_width v ≡ false → EightOrSixteen v
one_width v h =
    bool_cases (eqb v VALUE_BYTES)
    (λ t. inl (eqb-true v VALUE_BYTES t))
    (λ t. let q : not (eqb v LONG_VALUE_BYTES) ≡ false = rw t at h in inr (eqb-true v LONG_VALUE_BYTES (not-false (eqb v LONG_VALUE_BYTES) q)))

pub within_limits : (n k v : ℕ) → outsize n k v ≡ false → Limits n k v
within_limits n k v h =
    let a = inside n MAX_ENTITIES (or_false (outside n MAX_ENTITIES) (outside k MAX_KINDS || other_width v) h) in
    let r = or_false_right (outside n MAX_ENTITIES) (outside k MAX_KINDS || other_width v) h in
    let b = inside k MAX_KINDS (or_false (outside k MAX_KINDS) (other_width v) r) in
    record { some = a.0; most = a.1; some_kinds = b.0; most_kinds = b.1; width = one_width v (or_false_right (outside k MAX_KINDS) (other_width v) r) }

-- and such settings are not refused for their size
within : (n most : ℕ) → 1 ≤ n → n ≤ most → outside n most ≡ false
within n most l h = rw (ne_eqb n 0 (omega arith), le-ltb most n h)

of_width : (v : ℕ) → EightOrSixteen v → other_width v ≡ false
of_width v (inl e) = rw e
of_width v (inr e) = rw e

pub limits_within : (n k v : ℕ) → Limits n k v → outsize n k v ≡ false
limits_within n k v L = rw (within n MAX_ENTITIES L.some L.most, within k MAX_KINDS L.some_kinds L.most_kinds, of_width v L.width)

pub start_makes : (c : Settings) (words : ℕ) (s : Store) → start_with c words ≡ makes s → Makes c words s
unfolding start_with
start_makes c words s e =
    let p = started_made (first_line start_lines (start_told c words)) (empty_with c) s e in
    let h : NoneHolds start_lines (start_told c words) = none_to start_lines (start_told c words) p.0 in
    let l : Limits c.capacity c.kind_capacity c.value_bytes = within_limits c.capacity c.kind_capacity c.value_bytes h.0 in
    let S : StoreSound (empty_with c) = empty_sound c l in
    record { store = sym p.1; limits = l; words_enough = ltb-false words (words_needed c.capacity c.kind_capacity c.value_bytes) h.1.0; sound = rw (← p.1) S }

-- ---- column

-- column is refused by a number exactly where the table gives it
pub column_exact : (k a e : ℕ) (s : Store) (n : ℕ) → (column_refusal k a e s ≡ some n) ↔ First column_lines (record { kind = k; start = a; end = e; store = s }) n
unfolding column_refusal
column_exact k a e s n = first_exact column_lines (record { kind = k; start = a; end = e; store = s }) n

-- a refused one is empty
pub column_refused_law : (which : Bool) (k a e : ℕ) (s : Store) (n : ℕ) → column_refusal k a e s ≡ some n → column which k a e s ≡ []
unfolding column
column_refused_law which k a e s n p = rw p

entity_words_law : (l : List Entity) → length (entity_words l) ≡ 2 * length l
entity_words_law [] = refl
entity_words_law (e ∷ l) = omega (arith, entity_words_law l)

pub in_words_law : (d x : ℕ) → length (in_words d x) ≡ d
in_words_law zero x = refl
in_words_law (suc zero) x = refl
in_words_law (suc (suc d)) x = ap suc (in_words_law (suc d) (x / 4294967296))

value_words_law : (d : ℕ) (l : List ℕ) → length (value_words d l) ≡ d * length l
value_words_law d [] = omega arith
value_words_law d (x ∷ l) = omega (arith, length-append (in_words d x) (value_words d l), in_words_law d x, value_words_law d l)

part_length : {A : Type 0} (a e : ℕ) (l : List A) → e ≤ length l → length (part a e l) ≡ e - a
part_length a e l h = length-drop a (take e l) ∙ ap (λ (n : ℕ). n - a) (length-take-le e l h)

pub column_accepted : (which : Bool) (k a e : ℕ) (s : Store) → column_refusal k a e s ≡ none → Columned which k a e s
unfolding column_refusal column
column_accepted which k a e s p =
    let h : NoneHolds column_lines (record { kind = k; start = a; end = e; store = s }) = none_to column_lines (record { kind = k; start = a; end = e; store = s }) p in
    let inside : e ≤ length (set_of s.storage.sets k) = ltb-false (length (set_of s.storage.sets k)) e (or_false_right (ltb e a) (ltb (length (set_of s.storage.sets k)) e) h.1.0) in
    let w : column which k a e s ≡ part_words s.settings.value_bytes which a e (set_of s.storage.sets k) = rw p in
    record {
      known = not-false (is_kind k s) (or_false_right (ltb LAST_KIND k) (not (is_kind k s)) h.0);
      small = ltb-false LAST_KIND k (or_false (ltb LAST_KIND k) (not (is_kind k s)) h.0);
      order = ltb-false e a (or_false (ltb e a) (ltb (length (set_of s.storage.sets k)) e) h.1.0);
      inside = inside;
      words = w;
      size = ap (λ (l : List ℕ). length l) w ∙ size s.settings.value_bytes which (set_of s.storage.sets k) inside;
    }
  where
    size : (v : ℕ) (which : Bool) (rows : SparseSet) → e ≤ length rows → length (part_words v which a e rows) ≡ item_words v which * (e - a)
    size v false rows q = entity_words_law (part a e (keys rows)) ∙ ap (λ (n : ℕ). 2 * n) (part_length a e (keys rows) (omega (arith, length-map rows entity_of)))
    size v true rows q = value_words_law (stride_of v) (part a e (map row_value rows)) ∙ ap (λ (n : ℕ). stride_of v * n) (part_length a e (map row_value rows) (omega (arith, length-map rows row_value)))

-- ---- roll

-- roll is refused by a number exactly where the table gives it
pub roll_exact : (room : ℕ) (s : Store) (n : ℕ) → (roll room s ≡ refuses_emit n) ↔ First roll_lines (record { room = room; store = s }) n
unfolding roll
roll_exact room s n = emitted_exact roll_lines (record { room = room; store = s }) (snapshot s) n

-- an accepted one is the snapshot, for which there is room
pub roll_writes : (room : ℕ) (s : Store) (b : List ℕ) → roll room s ≡ writes b → (b ≡ snapshot s) × (length b ≤ room)
unfolding roll
roll_writes room s b e =
    let p = (emitted_writes roll_lines (record { room = room; store = s }) (snapshot s) b).0 e in
    (p.1, rw p.1 (ltb-false room (length (snapshot s)) p.0.0))
