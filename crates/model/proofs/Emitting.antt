-- An entry that writes bytes or refuses, over any lines and bytes: refused exactly where its table gives it, accepted exactly where no line holds; and its
-- contract determines its number, its count and its bytes. Assumes nothing.
use mathlib.Core.Path.{◌≡◌, refl, sym, ap, ◌∙◌}
use mathlib.Core.Logic.{◌↔◌}
use mathlib.Core.Option.{Option, some, none}
use mathlib.Core.List.{List, ◌++◌}
use Prim.Native.Nat.{ℕ, ◌≤◌}
use native.Mathlib.Omega.{arith}
use lib.ListN.{length, take, drop, length-append}
use lib.Seq.{take_at, sets}
use Rattle.model.proofs.ListLaws.{front_sets}
use Rattle.model.specs.Refusals.{Line, first_line, NoneHolds, First, number_of}
use Rattle.model.specs.Entries.{Emitted, refuses_emit, writes, emitted_by, emitted, emitted_number, emitted_bytes, Emits}
use Rattle.model.proofs.Lines.{first_exact, none_exact, NumbersIn, first_number}
use Rattle.model.specs.Theorems.{SameEmitted}

-- ---- by its table

by_refused : (r : Option ℕ) (b : List ℕ) (n : ℕ) → emitted_by r b ≡ refuses_emit n → r ≡ some n
by_refused (some m) b n e = let p : m ≡ n = cc in ap {B = Option ℕ} some p
by_refused none b n e = let z : ◌≡◌ {A = ℕ} 0 1 = cc in absurd (omega arith)

by_written : (r : Option ℕ) (b c : List ℕ) → emitted_by r b ≡ writes c → (r ≡ none) × (c ≡ b)
by_written (some m) b c e = let z : ◌≡◌ {A = ℕ} 0 1 = cc in absurd (omega arith)
by_written none b c e = (refl, cc)

by_number : (r : Option ℕ) (b : List ℕ) → emitted_number (emitted_by r b) ≡ number_of r
by_number (some n) b = refl
by_number none b = refl

module _ {A : Type 0} (ls : List (Line A)) (a : A) (b : List ℕ) where
  -- it is refused by a number exactly where the table gives it
  pub emitted_exact : (n : ℕ) → (emitted ls a b ≡ refuses_emit n) ↔ First ls a n
  emitted_exact n = ((λ e. (first_exact ls a n).0 (by_refused (first_line ls a) b n e)), (λ f. ap (λ (r : Option ℕ). emitted_by r b) ((first_exact ls a n).1 f)))

  -- it writes its bytes, and no others, exactly where no line holds
  pub emitted_writes : (c : List ℕ) → (emitted ls a b ≡ writes c) ↔ (NoneHolds ls a × (c ≡ b))
  emitted_writes c = (
    (λ e. let p = by_written (first_line ls a) b c e in ((none_exact ls a).0 p.0, p.1)),
    (λ h. ap (λ (r : Option ℕ). emitted_by r b) ((none_exact ls a).1 h.0) ∙ ap {B = Emitted} writes (sym h.1)),
  )

  -- its number is the table's
  pub emitted_number_law : emitted_number (emitted ls a b) ≡ number_of (first_line ls a)
  emitted_number_law = by_number (first_line ls a) b

  -- with a table whose numbers are 1 or more it gives 0 exactly where it writes
  pub emitted_zero : (lo hi : ℕ) → 1 ≤ lo → NumbersIn lo hi ls → emitted_number (emitted ls a b) ≡ 0 → emitted ls a b ≡ writes b
  emitted_zero lo hi l h z = go (first_line ls a) refl (sym emitted_number_law ∙ z)
    where
      go : (r : Option ℕ) → first_line ls a ≡ r → number_of r ≡ 0 → emitted_by r b ≡ writes b
      go none p q = refl
      go (some n) p q = absurd (omega (arith, l, q, (first_number ls a lo hi n h p).0))

-- ---- by its contract

-- what is written stands before the bytes that stay
pub emits_bytes : (o o' : List ℕ) (n k : ℕ) (x : Emitted) → Emits o o' n k x → take k o' ≡ emitted_bytes x
emits_bytes o o' n k x E =
    ap (λ (m : ℕ). take m o') E.written ∙ ap (take (length (emitted_bytes x))) E.bytes ∙ take_at (emitted_bytes x) (drop (length (emitted_bytes x)) o) (length (emitted_bytes x)) refl

-- no more bytes than there are
pub emits_few : (o o' : List ℕ) (n k : ℕ) (x : Emitted) → Emits o o' n k x → k ≤ length o'
emits_few o o' n k x E = omega (arith, E.written, ap length E.bytes ∙ length-append (emitted_bytes x) (drop (length (emitted_bytes x)) o))

-- "every refusal outside a run, change no lent memory, with zeros beside the number"
pub emits_refused : (o o' : List ℕ) (n k : ℕ) (x : Emitted) → Emits o o' n k x → 1 ≤ n → (o' ≡ o) × (k ≡ 0)
emits_refused o o' n k (refuses_emit m) E h = (E.bytes, E.written)
emits_refused o o' n k (writes b) E h = absurd (omega (arith, E.number, h))

pub emits_determined : (o p o' p' : List ℕ) (n k m j : ℕ) (x y : Emitted) → x ≡ y → Emits o o' n k x → Emits p p' m j y → SameEmitted o p o' p' n k m j
emits_determined o p o' p' n k m j x y e E F =
    record {
      number = E.number ∙ ap emitted_number e ∙ sym F.number;
      written = E.written ∙ ap (λ (z : Emitted). length (emitted_bytes z)) e ∙ sym F.written;
      answers = emits_bytes o o' n k x E ∙ ap emitted_bytes e ∙ sym (emits_bytes p p' m j y F);
      bytes = λ q. E.bytes ∙ (λ i. emitted_bytes (e i) ++ drop (length (emitted_bytes (e i))) (q i)) ∙ sym F.bytes;
    }

-- ---- what its code shows

pub refused_emits : (o : List ℕ) (n : ℕ) (x : Emitted) → x ≡ refuses_emit n → Emits o o n 0 x
refused_emits o n x e = record { number = rw e; written = rw e; bytes = rw e }

pub written_emits : (o o' b : List ℕ) (k : ℕ) (x : Emitted) → x ≡ writes b → length b ≤ length o → o' ≡ sets o 0 b → k ≡ length b → Emits o o' 0 k x
written_emits o o' b k x e h s c = record { number = rw e; written = rw e c; bytes = rw e (s ∙ front_sets o b h) }
