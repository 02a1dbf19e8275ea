-- An entry that writes bytes or refuses, over any lines and bytes: what it promises, from what its branches show; its number by its table; and what an
-- accepted one wrote. Assumes nothing.
use mathlib.Core.Path.{◌≡◌, refl, sym, ap, ◌∙◌, subst}
use mathlib.Core.Bool.{Bool, true, false}
use mathlib.Core.List.{List, ◌++◌}
use Prim.Native.Nat.{◌<◌, ◌≤◌, ℕ}
use native.Mathlib.Nat.{zero-add}
use native.Mathlib.Omega.{arith}
use lib.ListN.{length, take, drop}
use lib.Seq.{drop-append_seam}
use Rattle.model.specs.Refusals.{Line, first_line, NoneHolds, number_of, other_lines}
use Rattle.model.specs.Entries.{Emitted, refuses_emit, writes, emitted, emitted_number, emitted_bytes, Emits}
use Rattle.model.proofs.Lines.{NumbersIn}
use Rattle.model.proofs.Emitting.{emitted_writes, emitted_number_law, emitted_zero, emits_bytes, emits_refused, refused_emits, written_emits}
use Rattle.model.specs.Numbers.{UNSOUND}
use Rattle.words.specs.Decides.{Decides}
use Rattle.memory.specs.Arranged.{Sound}
use Rattle.snapshot.specs.Wrote.{WrittenUntil}
use Rattle.store.specs.Entries.{first_refusal, emitted_over, EmitsOver}
use Rattle.store.proofs.Tables.{tabled, judged}
use Rattle.store.specs.Theorems.{Tabled, Judged}

-- ---- what it promises, from what its branches show

pub unsound_emits : (w o : List ℕ) (x : Emitted) → (Sound w → ⊥) → EmitsOver w o o UNSOUND 0 x
unsound_emits w o x d = record { sound = false; decides = d; emits = refused_emits o UNSOUND (refuses_emit UNSOUND) refl }

pub refuses_over : (w o : List ℕ) (n : ℕ) (x : Emitted) → Sound w → x ≡ refuses_emit n → EmitsOver w o o n 0 x
refuses_over w o n x S e = record { sound = true; decides = S; emits = refused_emits o n x e }

pub writes_over : (w o o' b : List ℕ) (k : ℕ) (x : Emitted) → Sound w → x ≡ writes b → length b ≤ length o → WrittenUntil o o' 0 k b → EmitsOver w o o' 0 k x
writes_over w o o' b k x S e h W = record { sound = true; decides = S; emits = written_emits o o' b k x e h W.bytes (W.next ∙ zero-add (length b)) }

pub copies_over : (w o o' b : List ℕ) (k : ℕ) (x : Emitted) → Sound w → x ≡ writes b → k ≡ length b → o' ≡ b ++ drop (length b) o → EmitsOver w o o' 0 k x
copies_over w o o' b k x S e c p = record { sound = true; decides = S; emits = record { number = rw e; written = rw e c; bytes = rw e p } }

-- ---- "every refusal outside a run, change no lent memory, with zeros beside the number"

pub over_refused : (w o o' : List ℕ) (n k : ℕ) (x : Emitted) → EmitsOver w o o' n k x → 1 ≤ n → (o' ≡ o) × (k ≡ 0)
over_refused w o o' n k x E h = emits_refused o o' n k (emitted_over E.sound x) E.emits h

-- "the bytes past those written .. stay"
pub over_past : (w o o' : List ℕ) (n k : ℕ) (x : Emitted) → EmitsOver w o o' n k x → drop k o' ≡ drop k o
over_past w o o' n k x E =
    let b = emitted_bytes (emitted_over E.sound x) in
    let past : drop (length b) o' ≡ drop (length b) o = ap (drop (length b)) E.emits.bytes ∙ drop-append_seam b (drop (length b) o) in
    subst (λ (m : ℕ). drop m o' ≡ drop m o) (sym E.emits.written) past

-- over sound words an accepted one gives 0 and its bytes
pub over_accepted : (w o o' b : List ℕ) (n k : ℕ) (x : Emitted) → Sound w → x ≡ writes b → EmitsOver w o o' n k x → (n ≡ 0) × (take k o' ≡ b)
over_accepted w o o' b n k x S e E = go E.sound E.decides E.emits
  where
    go : (c : Bool) → Decides c (Sound w) → Emits o o' n k (emitted_over c x) → (n ≡ 0) × (take k o' ≡ b)
    go false d m = absurd (d S)
    go true d m = (m.number ∙ ap emitted_number e, emits_bytes o o' n k x m ∙ ap emitted_bytes e)

-- ---- by its table, whose numbers are lo to hi

module _ {A : Type 0} (ls : List (Line A)) (a : A) (b : List ℕ) (lo hi : ℕ) (h : NumbersIn lo hi ls) where
  -- an entry that is told no words
  pub emits_refusals : (o o' : List ℕ) (n k : ℕ) → 1 ≤ lo → Emits o o' n k (emitted ls a b) → Tabled ls a n
  emits_refusals o o' n k l E = tabled ls a lo hi l h n (E.number ∙ emitted_number_law ls a b)

  pub emits_written : (o o' : List ℕ) (n k : ℕ) → 1 ≤ lo → Emits o o' n k (emitted ls a b) → n ≡ 0 → NoneHolds ls a × (take k o' ≡ b)
  emits_written o o' n k l E z =
      let e : emitted ls a b ≡ writes b = emitted_zero ls a b lo hi l h (sym E.number ∙ z) in
      (((emitted_writes ls a b b).0 e).0, emits_bytes o o' n k (emitted ls a b) E ∙ ap emitted_bytes e)

  -- an entry over words
  over_number : (c : Bool) → emitted_number (emitted_over c (emitted ls a b)) ≡ number_of (first_refusal (first_line other_lines c) (first_line ls a))
  over_number true = emitted_number_law ls a b
  over_number false = refl

  pub over_refusals : (w o o' : List ℕ) (n k : ℕ) → UNSOUND < lo → EmitsOver w o o' n k (emitted ls a b) → Judged w ls a n
  over_refusals w o o' n k l E = judged w ls a n E.sound lo hi l h E.decides (E.emits.number ∙ over_number E.sound)

  -- what an accepted one wrote
  pub over_written : (w o o' : List ℕ) (n k : ℕ) → 1 ≤ lo → EmitsOver w o o' n k (emitted ls a b) → n ≡ 0 → Sound w × NoneHolds ls a × (take k o' ≡ b)
  over_written w o o' n k l E z = go E.sound E.decides E.emits
    where
      go : (c : Bool) → Decides c (Sound w) → Emits o o' n k (emitted_over c (emitted ls a b)) → Sound w × NoneHolds ls a × (take k o' ≡ b)
      go false d m = absurd (omega (arith, m.number, z))
      go true d m = let r = emits_written o o' n k l m z in (d, r.0, r.1)
