-- Why `serve` writes what the model's run answers: the store is started empty, the answers stand at the front, and the numbers after them. Assumes nothing.
use mathlib.Core.Path.{◌≡◌, refl, ap, sym, subst, ◌∙◌}
use mathlib.Core.Bool.{Bool, true, false}
use mathlib.Core.List.{List, [], ◌∷◌, ◌++◌}
use Prim.Native.Nat.{ℕ, ◌+◌, ◌≤◌, ◌<◌}
use native.Mathlib.Omega.{arith}
use native.Mathlib.Nat.{zero-add}
use lib.ListN.{replicate, length-replicate, length, take, drop, set, length-append, length-drop}
use lib.Seq.{sets, length-take-le}
use Rattle.model.specs.Store.{Store, bytes_of, empty, words_needed}
use Rattle.model.specs.Run.{run}
use Rattle.model.specs.Examples.{sample, answer, stream_example}
use Rattle.model.specs.Entries.{makes, start_with, start}
use Rattle.model.proofs.Lengths.{run_fits}
use Rattle.model.proofs.ListLaws.{sets_join, front_sets, front_back}
use Rattle.memory.specs.Meaning.{meaning}
use Rattle.memory.specs.Arranged.{Sound}
use Rattle.words.specs.Decides.{Decides}
use Rattle.run.specs.declared.Ran as stream
use Rattle.store.specs.Entries.{StartLeaves, Starts, ran_of, Answered, Runs}
use Rattle.tape.specs.Output.{numbers, ran_on, output, Served}

-- ---- the empty store

-- 5,184 words are enough for 64 entities and 8 kinds
started : start 64 8 5184 ≡ makes (empty 64 8)
unfolding start_with words_needed
started = refl

pub fresh : (w w' : List ℕ) (r : ℕ) → Starts 64 8 w w' r → length w ≡ 5184 → Sound w' × (meaning w' ≡ empty 64 8)
fresh w w' r h e = subst (StartLeaves w w') (ap (start 64 8) e ∙ started) h.leaves

-- the words that the program starts it in
pub fresh_words : (w' : List ℕ) (r : ℕ) → Starts 64 8 (replicate 5184 0) w' r → Sound w' × (meaning w' ≡ empty 64 8)
fresh_words w' r h = fresh (replicate 5184 0) w' r h (length-replicate {A = ℕ} 5184 0)

-- ---- the numbers

-- one after another
pub numbers_put : (o : List ℕ) (at s a b w : ℕ) → sets (sets (sets (set o at s) (at + 1) (bytes_of 4 a)) (at + 5) (bytes_of 4 b)) (at + 9) (bytes_of 4 w) ≡ sets o at (numbers s a b w)
numbers_put o at s a b w =
    ap (λ (l : List ℕ). sets (sets l (at + 5) (bytes_of 4 b)) (at + 9) (bytes_of 4 w)) (sets_join o at (s ∷ []) (bytes_of 4 a))
    ∙ ap (λ (l : List ℕ). sets l (at + 9) (bytes_of 4 w)) (sets_join o at (s ∷ bytes_of 4 a) (bytes_of 4 b))
    ∙ sets_join o at (s ∷ bytes_of 4 a ++ bytes_of 4 b) (bytes_of 4 w)

-- ---- the answers and then the numbers

-- the front m of the bytes o is lent, begins with b when it is back, and n is put after b
module _ (b n o : List ℕ) (m : ℕ) (lent : length b ≤ m) (within : m ≤ length o) (fits : length b + length n ≤ length o) where
  pub after : sets ((b ++ drop (length b) (take m o)) ++ drop m o) (length b) n ≡ (b ++ n) ++ drop (length (b ++ n)) o
  after =
      ap (λ (k : List ℕ). sets k (length b) n) (front_back b o m lent within ∙ sym (front_sets o b (omega arith)))
      ∙ ap (λ (i : ℕ). sets (sets o 0 b) i n) (sym (zero-add (length b)))
      ∙ sets_join o 0 b n
      ∙ front_sets o (b ++ n) (omega (arith, length-append b n))

-- sound words are served
on_sound : (w t o o' : List ℕ) (q : stream.Ran) (room : ℕ) (s : Store) (sound : Bool) → Decides sound (Sound w) → Sound w → Answered o o' q (ran_of sound t room s) → Answered o o' q (run t room s)
on_sound w t o o' q room s true d S h = h
on_sound w t o o' q room s false d S h = absurd (d S)

-- a run of t in the front of the bytes o, on an empty store
module _ (t o o₁ : List ℕ) (q : stream.Ran) (size : length o ≡ 16397) where
  pub on_empty : (w w' : List ℕ) → Sound w × (meaning w ≡ empty 64 8) → Runs w w' t (take 16384 o) o₁ q → Answered (take 16384 o) o₁ q (ran_on t)
  on_empty w w' made h =
      let e : length (take 16384 o) ≡ 16384 = length-take-le 16384 o (omega arith) in
      subst (λ (s : Store). Answered (take 16384 o) o₁ q (run t 16384 s)) made.1
      (subst (λ (k : ℕ). Answered (take 16384 o) o₁ q (run t k (meaning w))) e
      (on_sound w t (take 16384 o) o₁ q (length (take 16384 o)) (meaning w) h.sound h.decides made.0 h.answered))

  -- no more than 16,384 bytes are read or written, so that each number fits, and 13 bytes are left
  pub few : length t ≤ 16384 → Answered (take 16384 o) o₁ q (ran_on t) → length o₁ ≡ length (take 16384 o)
      → (q.commands < 4294967296) × ((q.read < 4294967296) × ((q.written < 4294967296) × (q.written + 13 ≤ length (o₁ ++ drop 16384 o))))
  few short h kept =
      let f = run_fits t 16384 (empty 64 8) in
      let e : length (o₁ ++ drop 16384 o) ≡ 16397 = length-append o₁ (drop 16384 o) ∙ omega (arith, kept, length-take-le 16384 o (omega arith), length-drop 16384 o) in
      (omega (arith, h.commands, f.commands, f.tape), (omega (arith, h.read, f.tape), (omega (arith, h.written, f.bytes), omega (arith, e, h.written, f.bytes))))

  -- the numbers put after the answers make what the program writes
  pub served : (o' : List ℕ) (r : ℕ) → Answered (take 16384 o) o₁ q (ran_on t)
      → (r ≡ q.written + 13) × (o' ≡ sets (o₁ ++ drop 16384 o) q.written (numbers q.stop q.commands q.read q.written))
      → Served t o o' r
  unfolding output
  served o' r h put =
      let x = ran_on t in
      let f = run_fits t 16384 (empty 64 8) in
      let n = numbers x.stop x.commands x.read (length x.bytes) in
      let e : length n ≡ 13 = refl in
      let same : o' ≡ sets ((x.bytes ++ drop (length x.bytes) (take 16384 o)) ++ drop 16384 o) (length x.bytes) n =
      rw (← h.bytes, ← h.stop, ← h.commands, ← h.read, ← h.written) put.1 in
      record {
        bytes = same ∙ after x.bytes n o 16384 f.bytes (omega arith) (omega (arith, f.bytes, e));
        count = omega (arith, put.0, h.written, length-append x.bytes n, e);
      }

-- the output lies within the bytes
pub within : {t o o' : List ℕ} {r : ℕ} → Served t o o' r → r ≤ length o'
within {t} {o} {o'} {r} h = omega (arith, h.count, ap length h.bytes ∙ length-append (output t) (drop (length (output t)) o))

-- 01's byte-exact tape: the crate's files stdin and stdout
pub example : output sample ≡ answer
unfolding output
example = stream_example
