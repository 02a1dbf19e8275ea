-- Each entry's contract determines what it gives: equal operands, and words of equal meaning that are sound or unsound alike, give equal numbers, bytes and
-- meanings. Only the arrangement of the words is left free (docs/WORDS.md). Assumes nothing.
use mathlib.Core.Path.{◌≡◌, refl, sym, ap, ◌∙◌, subst}
use mathlib.Core.Logic.{◌↔◌}
use mathlib.Core.Bool.{Bool, true, false, true≢false, false≢true}
use mathlib.Core.Option.{Option, some, none}
use mathlib.Core.List.{List, ◌++◌}
use Prim.Native.Nat.{ℕ, ◌+◌, ◌*◌}
use native.Mathlib.Omega.{arith}
use lib.ListN.{length, take, drop}
use lib.Seq.{take_at}
use denote.Ref.{Bor}
use Rattle.model.specs.Store.{Settings, Store}
use Rattle.std.specs.Prelude as std
use Rattle.model.specs.declared.refusals.Refusal.{Refusal}
use Rattle.model.specs.Refusals.{number_of}
use Rattle.model.specs.Entries.{Started, refuses_start, makes, start_with, column_refusal, Emitted, roll}
use Rattle.model.specs.Sound.{Limits}
use Rattle.model.proofs.Entries.{column_accepted}
use Rattle.model.proofs.Emitting.{emits_determined}
use Rattle.model.specs.Theorems.{SameEmitted}
use Rattle.words.specs.Decides.{Decides}
use Rattle.words.proofs.Decides.{decides_same}
use Rattle.memory.specs.Meaning.{meaning}
use Rattle.memory.specs.Arranged.{Sound}
use Rattle.run.specs.declared.Ran.{Ran}
use Rattle.store.specs.declared.Rolled.{Rolled}
use Rattle.store.specs.declared.Reply.{Reply}
use Rattle.store.specs.Entries.{Needs, start_number, StartLeaves, StartsWith, column_refused, ColumnNumbered, column_words, part_place, ColumnPart, ran_of, Answered, RunLeaves, Runs, emitted_over, EmitsOver, Rolls}
use Rattle.store.specs.Linked.{ColumnPlaced, copy_told, copied, ColumnCopied}
use Rattle.columns.specs.Refused.{refusal_number}
use Rattle.columns.proofs.Refused.{number_injective}
use Rattle.columns.proofs.Columns.{row_alike}
use Rattle.store.proofs.Starting.{start_number_law}
use Rattle.model.specs.Run as model
use Rattle.store.specs.Theorems.{Alike, SameStart, SameRun, SameRolled, SameCopied}

-- ---- words alike

pub alike_same : (w v : List ℕ) → w ≡ v → Alike w v
alike_same w v e = record { means = ap meaning e; sound = ((λ S. subst Sound e S), (λ S. subst Sound (sym e) S)) }

-- ---- words needed

pub needs_determined : (n k v r q : ℕ) (b : Bool) → Decides b (Limits n k v) → Needs n k v r → Needs n k v q → r ≡ q
needs_determined n k v r q true d R Q = R.within d ∙ sym (Q.within d)
needs_determined n k v r q false d R Q = R.outside d ∙ sym (Q.outside d)

-- ---- start, at either width and under either rule: over as many words the same number, whatever they held; and where it is 0, the same store

pub start_determined : (c : Settings) (w v w' v' : List ℕ) (r q : ℕ) → length w ≡ length v → StartsWith c w w' r → StartsWith c v v' q → SameStart w v w' v' r q
start_determined c w v w' v' r q e R Q =
    let f : start_with c (length v) ≡ start_with c (length w) = ap (start_with c) (sym e) in
    go (start_with c (length w)) refl R.number (rw f at Q.number) R.leaves (rw f at Q.leaves)
  where
    go : (x : Started) → start_with c (length w) ≡ x → r ≡ start_number x → q ≡ start_number x → StartLeaves w w' x → StartLeaves v v' x → SameStart w v w' v' r q
    go (refuses_start m) p a b l o =
        record { number = a ∙ sym b; made = λ z. absurd (omega (arith, a, z, (start_number_law c (length w) m p).0)); refused = λ h. (l, o) }
    go (makes s) p a b l o = record { number = a ∙ sym b; made = λ z. l.1 ∙ sym o.1; refused = λ h. absurd (omega (arith, a, h)) }

-- ---- column

pub column_number_determined : (w v : List ℕ) (k a e r q : ℕ) → Alike w v → ColumnNumbered w k a e r → ColumnNumbered v k a e q → r ≡ q
column_number_determined w v k a e r q A R Q =
    let b : R.sound ≡ Q.sound = decides_same R.sound Q.sound R.decides Q.decides A.sound in
    R.number ∙ (λ i. number_of (column_refused (b i) k a e (A.means i))) ∙ sym Q.number

-- of the entries of `store`, which answer the refusal itself
pub column_refusal_determined : (w v : List ℕ) (k a e : ℕ) (r q : std.Option Refusal) → Alike w v → ColumnNumbered w k a e (refusal_number r) → ColumnNumbered v k a e (refusal_number q) → r ≡ q
column_refusal_determined w v k a e r q A R Q =
    number_injective r q (column_number_determined w v k a e (refusal_number r) (refusal_number q) A R Q)

-- the same words, and of one store the same part of it
pub column_determined : (u v r q : Bor (List ℕ)) (values : Bool) (k a e : ℕ) → Alike u.now v.now → ColumnPart u r values k a e → ColumnPart v q values k a e → r.now ≡ q.now
column_determined u v r q values k a e A R Q =
    let b : R.sound ≡ Q.sound = decides_same R.sound Q.sound R.decides Q.decides A.sound in
    R.words ∙ (λ i. column_words (b i) values k a e (A.means i)) ∙ sym Q.words

pub column_place_determined : (v r q : Bor (List ℕ)) (values : Bool) (k a e : ℕ) → ColumnPart v r values k a e → ColumnPart v q values k a e → r.ref_ptr ≡ q.ref_ptr
column_place_determined v r q values k a e R Q =
    let b : R.sound ≡ Q.sound = decides_same R.sound Q.sound R.decides Q.decides (alike_same v.now v.now refl).sound in
    let block : r.ref_ptr.0 ≡ q.ref_ptr.0 = R.part.block ∙ sym Q.part.block in
    let offset : r.ref_ptr.1 ≡ q.ref_ptr.1 =
    R.part.offset ∙ (λ i. part_place (column_refused (b i) k a e (meaning v.now)) values v.now k a * 4 + v.ref_ptr.1) ∙ sym Q.part.offset in
    λ i. (block i, offset i)

-- its place, as exported, a number of words: the slot of a column is of the meaning too
pub column_at_determined : (w v : List ℕ) (values : Bool) (k a e r q : ℕ) → Alike w v → ColumnPlaced w values k a e r → ColumnPlaced v values k a e q → r ≡ q
column_at_determined w v values k a e r q A R Q = go R.sound Q.sound R.decides Q.decides R.place Q.place
  where
    line : (o : Option ℕ) → column_refusal k a e (meaning v) ≡ o → Sound w → Sound v → r ≡ part_place o values w k a → q ≡ part_place o values v k a → r ≡ q
    line (some n) p S T x y = x ∙ sym y
    line none p S T x y = x ∙ row_alike w v S.arranged T.arranged A.means values k a (column_accepted values k a e (meaning v) p).known ∙ sym y

    go : (b c : Bool) → Decides b (Sound w) → Decides c (Sound v) → r ≡ part_place (column_refused b k a e (meaning w)) values w k a → q ≡ part_place (column_refused c k a e (meaning v)) values v k a → r ≡ q
    go false false d f x y = x ∙ sym y
    go true false d f x y = absurd (f (A.sound.0 d))
    go false true d f x y = absurd (d (A.sound.1 f))
    go true true d f x y = line (column_refusal k a e (meaning v)) refl d f (x ∙ ap (λ (s : Store). part_place (column_refusal k a e s) values w k a) A.means) y

-- ---- run: equal tapes and lengths of the buffers

-- the answers are what stands before the bytes that stay
pub answer_bytes : (o o' : List ℕ) (r : Ran) (x : model.Ran) → Answered o o' r x → take r.written o' ≡ x.bytes
answer_bytes o o' r x A =
    ap (λ (n : ℕ). take n o') A.written ∙ ap (take (length x.bytes)) A.bytes ∙ take_at x.bytes (drop (length x.bytes) o) (length x.bytes) refl

pub run_determined : (w v w' v' t o p o' p' : List ℕ) (r q : Ran) → Alike w v → length o ≡ length p → Runs w w' t o o' r → Runs v v' t p p' q → SameRun o p w' v' o' p' r q
run_determined w v w' v' t o p o' p' r q A e R Q =
    record {
      result =
          λ i.
          record {
            stop = (R.answered.stop ∙ (λ j. (same j).stop) ∙ sym Q.answered.stop) i;
            commands = (R.answered.commands ∙ (λ j. (same j).commands) ∙ sym Q.answered.commands) i;
            read = (R.answered.read ∙ (λ j. (same j).read) ∙ sym Q.answered.read) i;
            written = (R.answered.written ∙ (λ j. length (same j).bytes) ∙ sym Q.answered.written) i;
          };
      alike = record { means = R.means ∙ (λ j. (same j).store) ∙ sym Q.means; sound = left R.sound Q.sound both R.leaves Q.leaves };
      answers = answer_bytes o o' r (ran_of R.sound t (length o) (meaning w)) R.answered ∙ (λ j. (same j).bytes) ∙ sym (answer_bytes p p' q (ran_of Q.sound t (length p) (meaning v)) Q.answered);
      bytes = λ z. R.answered.bytes ∙ (λ j. (same j).bytes ++ drop (length (same j).bytes) (z j)) ∙ sym Q.answered.bytes;
    }
  where
    both : R.sound ≡ Q.sound
    both = decides_same R.sound Q.sound R.decides Q.decides A.sound

    same : ran_of R.sound t (length o) (meaning w) ≡ ran_of Q.sound t (length p) (meaning v)
    same j = ran_of (both j) t (e j) (A.means j)

    left : (b c : Bool) → b ≡ c → RunLeaves b t (length o) w w' → RunLeaves c t (length p) v v' → Sound w' ↔ Sound v'
    left true true z l k = ((λ S. k.0), (λ S. l.0))
    left false false z l k = ((λ S. subst Sound (sym k) (A.sound.0 (subst Sound l S))), (λ S. subst Sound (sym l) (A.sound.1 (subst Sound k S))))
    left true false z l k = absurd (true≢false z)
    left false true z l k = absurd (false≢true z)

-- ---- an entry that writes: over words that are sound or not alike, the same bytes to write

pub over_determined : (w v o p o' p' : List ℕ) (n k m j : ℕ) (x y : Emitted) → Sound w ↔ Sound v → x ≡ y → EmitsOver w o o' n k x → EmitsOver v p p' m j y → SameEmitted o p o' p' n k m j
over_determined w v o p o' p' n k m j x y S e R Q =
    let b : R.sound ≡ Q.sound = decides_same R.sound Q.sound R.decides Q.decides S in
    emits_determined o p o' p' n k m j (emitted_over R.sound x) (emitted_over Q.sound y) (λ i. emitted_over (b i) (e i)) R.emits Q.emits

pub same_rolled : (o p o' p' : List ℕ) (r q : Rolled) → SameEmitted o p o' p' r.number r.written q.number q.written → SameRolled o p o' p' r q
same_rolled o p o' p' r q E = record { result = λ i. record { number = E.number i; written = E.written i }; answers = E.answers; bytes = E.bytes }

pub roll_determined : (w v o p o' p' : List ℕ) (r q : Rolled) → Alike w v → length o ≡ length p → Rolls w o o' r → Rolls v p p' q → SameRolled o p o' p' r q
roll_determined w v o p o' p' r q A e R Q =
    same_rolled o p o' p' r q
    (over_determined w v o p o' p' r.number r.written q.number q.written (roll (length o) (meaning w)) (roll (length p) (meaning v)) A.sound (λ i. roll (e i) (A.means i)) R Q)

pub same_copied : (o p o' p' : List ℕ) (r q : Reply) → SameEmitted o p o' p' r.number r.written q.number q.written → SameCopied o p o' p' r q
same_copied o p o' p' r q E = record { result = λ i. record { number = E.number i; written = E.written i }; answers = E.answers; words = E.bytes }

pub column_copy_determined : (w v o p o' p' : List ℕ) (values : Bool) (k a e : ℕ) (r q : Reply) → Alike w v → length o ≡ length p → ColumnCopied w o o' values k a e r → ColumnCopied v p p' values k a e q → SameCopied o p o' p' r q
column_copy_determined w v o p o' p' values k a e r q A l R Q =
    same_copied o p o' p' r q
    (over_determined w v o p o' p' r.number r.written q.number q.written (copied (copy_told values k a e (length o) (meaning w))) (copied (copy_told values k a e (length p) (meaning v))) A.sound
    (λ i. copied (copy_told values k a e (l i) (A.means i))) R Q)
