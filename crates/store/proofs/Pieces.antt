-- A run goes on where it stopped, for the words: a tape fed in pieces gives what one run gives. Over the contract of `run` alone. Assumes nothing.
use mathlib.Core.Path.{◌≡◌, sym, ap, ap₂, ◌∙◌, subst}
use mathlib.Core.Logic.{◌≢◌, ◌↔◌}
use mathlib.Core.Bool.{Bool, true, false}
use mathlib.Core.List.{List, [], ◌++◌, append-nil}
use Prim.Native.Nat.{ℕ, ◌+◌, ◌-◌, ◌≤◌}
use native.Mathlib.Omega.{arith}
use lib.ListN.{length, take, drop, length-append}
use lib.Seq.{drop_at}
use Rattle.model.specs.Numbers.{UNSOUND, NOROOM}
use Rattle.model.specs.Run.{halt, run}
use Rattle.model.specs.Run as model
use Rattle.model.proofs.Lengths.{run_fits}
use Rattle.tapes.specs.Pieces.{in_turn}
use Rattle.tapes.proofs.Pieces.{run_pieces, run_roomier}
use Rattle.words.specs.Decides.{Decides}
use Rattle.words.proofs.Decides.{decides_same, decides_on}
use Rattle.memory.specs.Meaning.{meaning}
use Rattle.memory.specs.Arranged.{Sound}
use Rattle.run.specs.declared.Ran.{Ran}
use Rattle.store.specs.Entries.{ran_of, RunLeaves, Runs}
use Rattle.store.specs.Theorems.{together, Continues}
use Rattle.store.specs.Pieces.{Fed, last, piece}
use Rattle.store.proofs.Determined.{answer_bytes}

-- ---- what a run gave, as the model has it

abbrev given : List ℕ → Ran → List ℕ → model.Ran
given w' r bytes = record { store = meaning w'; stop = r.stop; commands = r.commands; read = r.read; bytes = bytes }

module _ (w w' t o o' : List ℕ) (r : Ran) (R : Runs w w' t o o' r) where
  run_given : (b : Bool) → Decides b (Sound w) → ran_of b t (length o) (meaning w) ≡ given w' r (take r.written o')
  run_given b d =
      let x : model.Ran = ran_of R.sound t (length o) (meaning w) in
      let same : b ≡ R.sound = decides_same b R.sound d R.decides ((λ S. S), (λ S. S)) in
      ap (λ (c : Bool). ran_of c t (length o) (meaning w)) same
      ∙ sym
      (λ i.
      record {
        store = R.means i;
        stop = R.answered.stop i;
        commands = R.answered.commands i;
        read = R.answered.read i;
        bytes = answer_bytes o o' r x R.answered i;
      })

  run_written : r.written ≡ length (take r.written o')
  run_written = R.answered.written ∙ sym (ap length (answer_bytes o o' r (ran_of R.sound t (length o) (meaning w)) R.answered))

  -- sound words stay sound, others are unchanged
  run_sound : Sound w ↔ Sound w'
  run_sound = go R.sound R.decides R.leaves
    where
      go : (b : Bool) → Decides b (Sound w) → RunLeaves b t (length o) w w' → Sound w ↔ Sound w'
      go true d l = ((λ S. l.0), (λ S. d))
      go false d l = ((λ S. absurd (d S)), (λ S. subst Sound l S))

  -- one that does not stop for want of room, with more of it
  run_more_room : (b : Bool) (room : ℕ) → Decides b (Sound w) → length o ≤ room → r.stop ≢ NOROOM → ran_of b t room (meaning w) ≡ given w' r (take r.written o')
  run_more_room true room d h n =
      let is : run t (length o) (meaning w) ≡ given w' r (take r.written o') = run_given true d in
      run_roomier t (length o) room (meaning w) h (λ e. n (sym (ap (λ (x : model.Ran). x.stop) is) ∙ e)) ∙ is
  run_more_room false room d h n = run_given false d

  -- and then what goes on where it stopped, in the room that it left
  run_then : (b : Bool) (room : ℕ) (u v bytes : List ℕ) (z : Ran) → Decides b (Sound w) → length o ≤ room → ran_of b (drop r.read (t ++ u)) (room - r.written) (meaning w') ≡ given v z bytes
      → ran_of b (t ++ u) room (meaning w) ≡ given v (together r z) (take r.written o' ++ bytes)
  run_then true room u v bytes z d h rest =
      let is : run t (length o) (meaning w) ≡ given w' r (take r.written o') = run_given true d in
      run_pieces t u (length o) room (meaning w) h
      ∙ ap (λ (x : model.Ran). in_turn x (run (drop x.read (t ++ u)) (room - length x.bytes) x.store)) is
      ∙ ap (λ (k : ℕ). in_turn (given w' r (take r.written o')) (run (drop r.read (t ++ u)) (room - k) (meaning w'))) (sym run_written)
      ∙ ap (in_turn (given w' r (take r.written o'))) rest
  run_then false room u v bytes z d h rest =
      let is : halt UNSOUND (meaning w) ≡ given w' r (take r.written o') = run_given false d in
      ap (halt UNSOUND) (ap (λ (x : model.Ran). x.store) is) ∙ ap₂ in_turn is rest

  -- so it stands in place of runs that gave the same
  run_in_place : (v bytes : List ℕ) (z : Ran) → given w' r (take r.written o') ≡ given v z bytes → z.written ≡ length bytes → Sound w ↔ Sound v → Continues w' v o' bytes r z
  run_in_place v bytes z same n e =
      let written : r.written ≡ z.written = run_written ∙ ap (λ (x : model.Ran). length x.bytes) same ∙ sym n in
      record {
        result = λ i. record { stop = (same i).stop; commands = (same i).commands; read = (same i).read; written = written i };
        answers = λ i. (same i).bytes;
        alike = record { means = λ i. (same i).store; sound = ((λ S. e.0 (run_sound.1 S)), (λ S. run_sound.0 (e.1 S))) };
      }

-- ---- a tape fed in pieces

-- one run gives what the pieces give together, with `enough` room or more
record FedAs (b : Bool) (w t w' : List ℕ) (r : Ran) (bytes : List ℕ) : Type 0 where
  pub enough : ℕ
  pub run : (room : ℕ) → enough ≤ room → r.stop ≢ NOROOM → ran_of b t room (meaning w) ≡ given w' r bytes
  pub written : r.written ≡ length bytes
  pub sound : Sound w ↔ Sound w'

fed_as : {w t w' bytes : List ℕ} {r : Ran} → Fed w t w' r bytes → (b : Bool) → Decides b (Sound w) → FedAs b w t w' r bytes
fed_as (last {w} {w'} {t} {o} {o'} {r} R) b d =
    record { enough = length o; run = λ room. run_more_room w w' t o o' r R b room d; written = run_written w w' t o o' r R; sound = run_sound w w' t o o' r R }
fed_as (piece {w} {w₁} {w'} {t} {o} {o₁} {bytes} {a} {r} u R f) b d =
    let on = run_sound w w₁ t o o₁ a R in
    let F = fed_as f b (decides_on b on d) in
    record {
      enough = length o + (a.written + F.enough);
      run = λ room h n. run_then w w₁ t o o₁ a R b room u w' bytes r d (omega (arith, h)) (F.run (room - a.written) (omega (arith, h)) n);
      written = omega (arith, run_written w w₁ t o o₁ a R, F.written, length-append (take a.written o₁) bytes);
      sound = ((λ S. F.sound.0 (on.0 S)), (λ S. on.1 (F.sound.1 S)));
    }

-- A line may feed a long tape in as many pieces as it likes, cut where it likes, with a buffer of any size for each. If neither the last piece nor one run of
-- the whole tape stops for want of room, then what the pieces answer together, and the words that the last leaves, are those of the one run; the pieces before
-- may have stopped by any number, 6 too. Over words that are not sound each gives 3 and changes nothing.
pub fed_continues : (w v w' t q q' bytes : List ℕ) (r c : Ran) → Fed w t w' r bytes → Runs w v t q q' c → r.stop ≢ NOROOM → c.stop ≢ NOROOM → Continues v w' q' bytes c r
fed_continues w v w' t q q' bytes r c f C nr nc =
    let F = fed_as f C.sound C.decides in
    let one : ran_of C.sound t (length q + F.enough) (meaning w) ≡ given v c (take c.written q') = run_more_room w v t q q' c C C.sound (length q + F.enough) C.decides (omega arith) nc in
    run_in_place w v t q q' c C w' bytes r (sym one ∙ F.run (length q + F.enough) (omega arith) nr) F.written F.sound

-- ---- in two pieces

-- Two runs, the second over the words that the first left and from the byte where it stopped, with a buffer of its own, answer what one run of the tape
-- answers, if neither the second nor the one stops for want of room. The first may have stopped by any number. `Fed` is this for any number of pieces.
pub run_continues : (w w₁ w₂ v t u o o₁ p p₂ q q' : List ℕ) (a b c : Ran) → Runs w w₁ t o o₁ a → Runs w₁ w₂ (drop a.read (t ++ u)) p p₂ b → Runs w v (t ++ u) q q' c
    → b.stop ≢ NOROOM → c.stop ≢ NOROOM → Continues v w₂ q' (take a.written o₁ ++ take b.written p₂) c (together a b)
run_continues w w₁ w₂ v t u o o₁ p p₂ q q' a b c A B C nb nc =
    fed_continues w v w₂ (t ++ u) q q' (take a.written o₁ ++ take b.written p₂) (together a b) c (piece u A (last B)) C nb nc

-- cut between two commands: the first piece t is run to its end, and the second is u
pub run_continues_cut : (w w₁ w₂ v t u o o₁ p p₂ q q' : List ℕ) (a b c : Ran) → Runs w w₁ t o o₁ a → a.stop ≡ 0 → Runs w₁ w₂ u p p₂ b → Runs w v (t ++ u) q q' c
    → b.stop ≢ NOROOM → c.stop ≢ NOROOM → Continues v w₂ q' (take a.written o₁ ++ take b.written p₂) c (together a b)
run_continues_cut w w₁ w₂ v t u o o₁ p p₂ q q' a b c A z B C nb nc =
    let rest : drop a.read (t ++ u) ≡ u = drop_at t u a.read (sym (go A.sound A.answered.stop A.answered.read)) in
    run_continues w w₁ w₂ v t u o o₁ p p₂ q q' a b c A (subst (λ (l : List ℕ). Runs w₁ w₂ l p p₂ b) (sym rest) B) C nb nc
  where
    go : (s : Bool) → a.stop ≡ (ran_of s t (length o) (meaning w)).stop → a.read ≡ (ran_of s t (length o) (meaning w)).read → a.read ≡ length t
    go true is n = n ∙ (run_fits t (length o) (meaning w)).end (sym is ∙ z)
    go false is n = absurd (omega (arith, is, z))

-- stopped for want of room (6), or by 4 or 5: the second run is given the same tape from there on, and a fresh buffer
pub run_continues_stopped : (w w₁ w₂ v t o o₁ p p₂ q q' : List ℕ) (a b c : Ran) → Runs w w₁ t o o₁ a → Runs w₁ w₂ (drop a.read t) p p₂ b → Runs w v t q q' c
    → b.stop ≢ NOROOM → c.stop ≢ NOROOM → Continues v w₂ q' (take a.written o₁ ++ take b.written p₂) c (together a b)
run_continues_stopped w w₁ w₂ v t o o₁ p p₂ q q' a b c A B C nb nc =
    run_continues w w₁ w₂ v t [] o o₁ p p₂ q q' a b c A
    (subst (λ (l : List ℕ). Runs w₁ w₂ (drop a.read l) p p₂ b) (sym (append-nil t)) B)
    (subst (λ (l : List ℕ). Runs w v l q q' c) (sym (append-nil t)) C) nb nc

-- whatever stops the second, 6 too, if the one run has what the first wrote and the second's buffer for room, and no less than the first had
pub run_continues_exact : (w w₁ w₂ v t u o o₁ p p₂ q q' : List ℕ) (a b c : Ran) → Runs w w₁ t o o₁ a → Runs w₁ w₂ (drop a.read (t ++ u)) p p₂ b → Runs w v (t ++ u) q q' c
    → length o ≤ length q → length q ≡ a.written + length p → Continues v w₂ q' (take a.written o₁ ++ take b.written p₂) c (together a b)
run_continues_exact w w₁ w₂ v t u o o₁ p p₂ q q' a b c A B C h e =
    let first : Sound w ↔ Sound w₁ = run_sound w w₁ t o o₁ a A in
    let second : Sound w₁ ↔ Sound w₂ = run_sound w₁ w₂ (drop a.read (t ++ u)) p p₂ b B in
    let d : Decides C.sound (Sound w₁) = decides_on C.sound first C.decides in
    let left : length p ≡ length q - a.written = omega (arith, e) in
    let rest = subst (λ (k : ℕ). ran_of C.sound (drop a.read (t ++ u)) k (meaning w₁) ≡ given w₂ b (take b.written p₂)) left (run_given w₁ w₂ (drop a.read (t ++ u)) p p₂ b B C.sound d) in
    let both = run_then w w₁ t o o₁ a A C.sound (length q) u w₂ (take b.written p₂) b C.decides h rest in
    run_in_place w v (t ++ u) q q' c C w₂ (take a.written o₁ ++ take b.written p₂) (together a b) (sym (run_given w v (t ++ u) q q' c C C.sound C.decides) ∙ both)
    (omega (arith, run_written w w₁ t o o₁ a A, run_written w₁ w₂ (drop a.read (t ++ u)) p p₂ b B, length-append (take a.written o₁) (take b.written p₂)))
    ((λ S. second.0 (first.0 S)), (λ S. first.1 (second.1 S)))
