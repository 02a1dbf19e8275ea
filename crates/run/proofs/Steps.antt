-- The cases of a step, at a place of the tape. Assumes nothing.
use mathlib.Core.Path.{◌≡◌, refl, sym, ap, subst, ◌∙◌}
use mathlib.Core.Bool.{true, false}
use mathlib.Core.List.{List, [], ◌∷◌}
use Prim.Native.Nat.{ℕ, suc, ◌+◌, ◌-◌, ◌≤◌, ◌<◌}
use native.Mathlib.Omega.{arith}
use borrow.Author.Tests.{lt-ltb, le-ltb, le-leb}
use lib.Dec.{ltb}
use lib.ListN.{length, get_or, take, drop, length-drop}
use Rattle.model.specs.Numbers.{CUT, NOROOM, UNKNOWN, LAST_COMMAND}
use Rattle.model.specs.Codes.{refusal_code, command_byte}
use Rattle.model.proofs.Codes.{byte_bounds}
use Rattle.model.specs.Store.{Store, Bytes}
use Rattle.model.specs.Commands.{is_command, widths, command_at, operands_len, answer_length}
use Rattle.model.specs.Run.{does, Step, stops, goes, step_of, step, store_after, answer_of}
use Rattle.model.proofs.Lengths.{answer_fits}
use Rattle.model.proofs.Widths.{width_least}
use Rattle.model.proofs.Sound.{bytes_drop, tape_fits}
use Rattle.memory.proofs.Becomes.{stays}
use Rattle.memory.specs.Meaning.{meaning}
use Rattle.memory.specs.Arranged.{Sound}
use Rattle.command.specs.Acted.{Acted}
use Rattle.command.proofs.Acts.{acted_sound}
use Rattle.run_command.specs.Given.{command_in, Given}
use Rattle.run.specs.Stepping.{StepReady, step_at, Stepped}
use Rattle.std.specs.Prelude.{Result, Ok, Err, IsErrAnd}
use Rattle.model.specs.declared.refusals.Refusal.{Refusal}
use Rattle.model.specs.declared.refusals.Refusal.TheVariants.{Unknown, Cut, NoRoom}
use Rattle.model.specs.declared.commands.Command.{Command}
use Rattle.run.specs.declared.Progress.{Progress}

-- ---- the model's step

module _ (s : Store) (t : List ℕ) (at room : ℕ) where
  pub step_unknown : is_command (get_or t at 0) ≡ false → step_at s t at room ≡ stops UNKNOWN
  unfolding step
  step_unknown h = rw h

  module _ (low : 1 ≤ get_or t at 0) where
    module _ (high : get_or t at 0 ≤ LAST_COMMAND) where
      pub step_cut : at < length t → length t - at < 1 + operands_len (get_or t at 0) s → step_at s t at room ≡ stops CUT
      unfolding step
      step_cut more h =
          let e : ltb (length (drop (at + 1) t)) (operands_len (get_or t at 0) s) ≡ true = lt-ltb (length (drop (at + 1) t)) (operands_len (get_or t at 0) s) (rw (length-drop (at + 1) t) (omega arith)) in
          rw (le-leb 1 (get_or t at 0) low, le-leb (get_or t at 0) LAST_COMMAND high, e)

      module _ (whole : 1 + operands_len (get_or t at 0) s ≤ length t - at) where
        fits : ltb (length (drop (at + 1) t)) (operands_len (get_or t at 0) s) ≡ false
        fits = le-ltb (length (drop (at + 1) t)) (operands_len (get_or t at 0) s) (rw (length-drop (at + 1) t) (omega arith))

        pub step_room : room < answer_length (command_in (get_or t at 0) t (at + 1) s) s → step_at s t at room ≡ stops NOROOM
        unfolding step
        step_room h = rw (le-leb 1 (get_or t at 0) low, le-leb (get_or t at 0) LAST_COMMAND high, fits, lt-ltb room (answer_length (command_in (get_or t at 0) t (at + 1) s) s) h)

        pub step_did : answer_length (command_in (get_or t at 0) t (at + 1) s) s ≤ room → step_at s t at room ≡ step_of (suc (operands_len (get_or t at 0) s)) s (does (command_in (get_or t at 0) t (at + 1) s) s)
        unfolding step
        step_did h = rw (le-leb 1 (get_or t at 0) low, le-leb (get_or t at 0) LAST_COMMAND high, fits, le-ltb room (answer_length (command_in (get_or t at 0) t (at + 1) s) s) h)

-- ---- the code's step

pub stopped : {w t o : List ℕ} {at p : ℕ} {x : Step} (e : Refusal) → Sound w → p ≤ length o → x ≡ stops (refusal_code e) → Stepped w w t o o at p (Err e) x
stopped r S h e = rw e (record { sound = S; becomes = stays S.arranged; kept = refl; bytes = refl; within = omega arith; result = refl })

-- bytes by the bound of each
pub bytes_all : (l : List ℕ) → ((i : ℕ) → get_or l i 0 < 256) → Bytes l
bytes_all [] h = tt
bytes_all (b ∷ l) h = (h 0, bytes_all l (λ i. h (suc i)))

-- what a command is given, once the run does not stop before it
pub given : {w t o : List ℕ} {at p : ℕ} (b n need : ℕ) → StepReady w t at o p → n ≡ operands_len b (meaning w) → 1 + n ≤ length t - at → need ≡ answer_length (command_in b t (at + 1) (meaning w)) (meaning w) → need ≤ length o - p → Given w b t (at + 1) o p
given b n need s e f g h =
    record {
      whole = omega (arith, s.more);
      ready = record { sound = s.sound; room = omega (arith, s.within) };
    }

-- its answer is within the bytes
pub acted_within : {w w' o o' t : List ℕ} {at p r : ℕ} (b : ℕ) → Given w b t at o p → Acted w w' o o' p r (does (command_in b t at (meaning w)) (meaning w)) → p + r ≤ length o
acted_within {w} {t = t} {at = at} b G A =
    omega (arith, A.written.count, G.ready.room, answer_fits (command_in b t at (meaning w)) (meaning w) (does (command_in b t at (meaning w)) (meaning w)) refl)

module _ {w w' o o' t : List ℕ} {at p r a : ℕ} {x : Step} where
  pub stepped : (b : ℕ) → b ≡ get_or t at 0 → x ≡ step_of (suc (operands_len b (meaning w))) (meaning w) (does (command_in b t (at + 1) (meaning w)) (meaning w)) → a ≡ operands_len b (meaning w) → Bytes t
      → Given w b t (at + 1) o p → Acted w w' o o' p r (does (command_in b t (at + 1) (meaning w)) (meaning w))
      → Stepped w w' t o o' at p (Ok (record { read = at + (1 + a); written = p + r })) x
  stepped b v e q B G A =
      let c = command_in b t (at + 1) (meaning w) in
      let s = meaning w in
      let d : x ≡ goes (suc (operands_len b (meaning w))) (answer_of (does c s)) (store_after s (does c s)) = e in
      let f : 1 + a ≡ suc (operands_len b (meaning w)) = omega arith in
      rw (d, f, A.written.count)
      (record {
        sound = acted_sound c (tape_fits (meaning w).settings.value_bytes b (drop (at + 1) t) (width_least (meaning w).settings.value_bytes G.ready.sound.means.limits.width) (bytes_drop (at + 1) t B)) G.ready.sound A;
        becomes = A.becomes;
        kept = rw (← v) A.refused;
        bytes = A.written.bytes;
        within = omega (arith, G.ready.room, answer_fits c s (does c s) refl);
        result = refl;
      })

-- a byte that is no command
pub unknown : {w t o : List ℕ} {at p : ℕ} → StepReady w t at o p → (r : Result Progress Refusal) {e : Refusal} → IsErrAnd r (λ x. x ≡ e) → (e ≡ Unknown) × (is_command (get_or t at 0) ≡ false)
    → Stepped w w t o o at p r (step_at (meaning w) t at (length o - p))
unknown {w} {t} {o} {at} {p} ready (Ok d) q h = absurd q
unknown {w} {t} {o} {at} {p} ready (Err x) q h =
    rw (q, h.0) (stopped Unknown ready.sound ready.within (step_unknown (meaning w) t at (length o - p) h.1))

-- the command c stands at `at`, with n operand bytes by the table of the store's width
module _ {w t o : List ℕ} {at p : ℕ} (c : Command) (ready : StepReady w t at o p) (here : command_byte c ≡ get_or t at 0) {l : List ℕ} {n most : ℕ} (entry : (n ≡ get_or l (command_byte c) 0) × (n ≤ most)) (table : l ≡ widths (meaning w).settings.value_bytes) where
  low : 1 ≤ get_or t at 0
  low = subst (λ (b : ℕ). 1 ≤ b) here (byte_bounds c).0

  high : get_or t at 0 ≤ LAST_COMMAND
  high = subst (λ (b : ℕ). b ≤ LAST_COMMAND) here (byte_bounds c).1

  size : n ≡ operands_len (command_byte c) (meaning w)
  size = entry.0 ∙ ap (λ (m : List ℕ). get_or m (command_byte c) 0) table

  size_at : n ≡ operands_len (get_or t at 0) (meaning w)
  size_at = size ∙ ap (λ (b : ℕ). operands_len b (meaning w)) here

  pub is_cut : length t - at < 1 + n → Stepped w w t o o at p (Err Cut) (step_at (meaning w) t at (length o - p))
  is_cut h =
      stopped Cut ready.sound ready.within
      (step_cut (meaning w) t at (length o - p) low high ready.more (subst (λ (k : ℕ). length t - at < 1 + k) size_at h))

  -- and its operands are there
  module _ (whole : 1 + n ≤ length t - at) {need : ℕ} (told : (ops : List ℕ) → need ≡ answer_length (command_at (command_byte c) ops) (meaning w)) where
    whole_at : 1 + operands_len (get_or t at 0) (meaning w) ≤ length t - at
    whole_at = subst (λ (k : ℕ). 1 + k ≤ length t - at) size_at whole

    need_at : need ≡ answer_length (command_in (get_or t at 0) t (at + 1) (meaning w)) (meaning w)
    need_at = subst (λ (b : ℕ). need ≡ answer_length (command_in b t (at + 1) (meaning w)) (meaning w)) here (told (take (operands_len (command_byte c) (meaning w)) (drop (at + 1) t)))

    pub has_no_room : length o - p < need → Stepped w w t o o at p (Err NoRoom) (step_at (meaning w) t at (length o - p))
    has_no_room h =
        stopped NoRoom ready.sound ready.within
        (step_room (meaning w) t at (length o - p) low high whole_at (subst (λ (m : ℕ). length o - p < m) need_at h))

    -- and its answer has room
    module _ (room : need ≤ length o - p) where
      pub is_given : Given w (command_byte c) t (at + 1) o p
      is_given = given (command_byte c) n need ready size whole (told (take (operands_len (command_byte c) (meaning w)) (drop (at + 1) t))) room

      done : step_at (meaning w) t at (length o - p) ≡ step_of (suc (operands_len (command_byte c) (meaning w))) (meaning w) (does (command_in (command_byte c) t (at + 1) (meaning w)) (meaning w))
      done =
          subst (λ (b : ℕ). step_at (meaning w) t at (length o - p) ≡ step_of (suc (operands_len b (meaning w))) (meaning w) (does (command_in b t (at + 1) (meaning w)) (meaning w))) (sym here)
          (step_did (meaning w) t at (length o - p) low high whole_at (subst (λ (m : ℕ). m ≤ length o - p) need_at room))

      pub has_gone : {w' o' : List ℕ} {r : ℕ} → Bytes t → Acted w w' o o' p r (does (command_in (command_byte c) t (at + 1) (meaning w)) (meaning w))
          → Stepped w w' t o o' at p (Ok (record { read = at + (1 + n); written = p + r })) (step_at (meaning w) t at (length o - p))
      has_gone B A = stepped (command_byte c) here done size B is_given A
