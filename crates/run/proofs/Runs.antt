-- The loop of a run: what holds between two commands, and how it starts, goes on and ends. Assumes nothing.
use mathlib.Core.Path.{◌≡◌, refl, ap, sym, ◌∙◌}
use mathlib.Core.List.{List, [], ◌∷◌, ◌++◌, append_assoc, append-nil}
use Prim.Native.Nat.{ℕ, zero, suc, ◌+◌, ◌-◌, ◌≤◌, ◌<◌}
use native.Mathlib.Omega.{arith}
use native.Mathlib.Nat.{zero-add, add_assoc, sub-zero}
use lib.ListN.{length, get_or, take, drop, length-drop, drop_of_length-le, take-append-drop}
use lib.Seq.{sets, length-sets, drop-drop, length-take-le}
use Rattle.std.specs.Prelude.{Ok, Err}
use Rattle.model.specs.Codes.{refusal_code}
use Rattle.model.specs.declared.refusals.Refusal.{Refusal}
use Rattle.model.specs.Store.{Store}
use Rattle.model.specs.Run.{Step, stops, goes, step, Ran, halt, more, run_for, run}
use Rattle.model.specs.Theorems.{StepFits, SameSettings}
use Rattle.model.proofs.Lengths.{step_lengths}
use Rattle.model.proofs.Settings.{step_settings}
use Rattle.model.proofs.ListLaws.{take_sets, drop_sets, drop_step}
use Rattle.memory.proofs.Becomes.{stays, becomes_next}
use Rattle.memory.specs.Meaning.{meaning}
use Rattle.memory.specs.Arranged.{Sound, Becomes}
use Rattle.run_command.specs.Given.{command_in}
use Rattle.run.specs.Run.{Refused, Traced}
use Rattle.run.specs.Stepping.{step_at, ResultOf, Stepped, Completed}
use Rattle.run.specs.declared.Progress.{Progress}
use Rattle.run.proofs.Traces.{traced_end, traced_stop, traced_more}

-- ---- the model's run, unrolled once

abbrev next : Step → Store → List ℕ → ℕ → ℕ → Ran
next (stops n) s t room m = halt n s
next (goes k a s') s t room m = more k a (run_for m (drop k t) (room - length a) s')

run_more : (m : ℕ) (s : Store) (t : List ℕ) (at room : ℕ) → at < length t → run_for (suc m) (drop at t) room s ≡ next (step_at s t at room) s (drop at t) room m
unfolding run_for
run_more m s t at room h =
    rw (drop_step t at 0 h) (go (get_or t at 0) (drop (at + 1) t) (step (get_or t at 0) (drop (at + 1) t) room s))
  where
    go : (b : ℕ) (l : List ℕ) (x : Step) → elim x as (λ p. Ran) [ stops n ↦ halt n s | goes w a s' ↦ more w a (run_for m (drop w (b ∷ l)) (room - length a) s') ] ≡ next x s (b ∷ l) room m
    go b l (stops n) = refl
    go b l (goes k a s') = refl

run_none : (m : ℕ) (s : Store) (room : ℕ) → run_for m [] room s ≡ halt 0 s
unfolding run_for
run_none zero s room = refl
run_none (suc m) s room = refl

-- a run after k commands that read n bytes and wrote a
unfoldable pub after : ℕ → ℕ → List ℕ → Ran → Ran
after k n a r = record { store = r.store; stop = r.stop; commands = k + r.commands; read = n + r.read; bytes = a ++ r.bytes }

after_none : (r : Ran) → r ≡ after 0 0 [] r
unfolding after
after_none r = rw (zero-add r.commands, zero-add r.read)

after_more : (k n : ℕ) (a : List ℕ) (n' : ℕ) (a' : List ℕ) (r : Ran) → after k n a (more n' a' r) ≡ after (k + 1) (n + n') (a ++ a') r
unfolding after
after_more k n a n' a' r =
    let c : k + suc r.commands ≡ k + 1 + r.commands = omega arith in
    rw (c, add_assoc n n' r.read, append_assoc a a' r.bytes)

-- ---- what a step's result says of it

pub record WentOn (at p a b : ℕ) (x : Step) : Type 0 where
  pub size : ℕ
  pub answer : List ℕ
  pub store : Store
  pub is : x ≡ goes size answer store
  pub next_at : a ≡ at + size
  pub free : b ≡ p + length answer

went_on : (at p : ℕ) (d : Progress) (x : Step) → ResultOf at p x (Ok d) → WentOn at p d.read d.written x
went_on at p d (stops n) e = absurd e
went_on at p d (goes k l s) e = record { size = k; answer = l; store = s; is = refl; next_at = cc; free = cc }

was_stopped : (at p : ℕ) (r : Refusal) (x : Step) → ResultOf at p x (Err r) → x ≡ stops (refusal_code r)
was_stopped at p r (stops m) e = ap stops (sym e)
was_stopped at p r (goes k l s) e = let z : ◌≡◌ {A = ℕ} 0 1 = cc in absurd (omega arith)

-- a command reads at least its byte, and no more than is there
step_size : (s : Store) (t : List ℕ) (at room k : ℕ) (a : List ℕ) (s' : Store) → at < length t → step_at s t at room ≡ goes k a s' → (0 < k) × (at + k ≤ length t)
step_size s t at room k a s' h e =
    let z : StepFits (get_or t at 0) (drop (at + 1) t) room s k a = rw e at (step_lengths (get_or t at 0) (drop (at + 1) t) room s) in
    (omega (arith, z.read), omega (arith, z.whole, length-drop (at + 1) t))

step_kept : (s : Store) (t : List ℕ) (at room k : ℕ) (a : List ℕ) (s' : Store) → step_at s t at room ≡ goes k a s' → SameSettings s s'
step_kept s t at room k a s' e = rw e at (step_settings (get_or t at 0) (drop (at + 1) t) room s)

-- ---- between two commands: k are done, the tape is read up to `at`, the answers stand before p

pub record Going (w₀ t o₀ w o : List ℕ) (at p k : ℕ) : Type 0 where
  pub sound : Sound w
  pub becomes : Becomes w₀ w (meaning w)
  pub same : SameSettings (meaning w₀) (meaning w)
  pub same_out : length o ≡ length o₀
  pub read : at ≤ length t
  pub within : p ≤ length o
  pub few : k ≤ at
  pub beyond : drop p o ≡ drop p o₀
  pub so_far : run t (length o₀) (meaning w₀) ≡ after k at (take p o) (run_for (length t - k) (drop at t) (length o - p) (meaning w))
  pub trace : (w' : List ℕ) → Traced (length t - k) (drop at t) (length o - p) w w' → Traced (length t) t (length o₀) w₀ w'

pub start : {w t o : List ℕ} → Sound w → Going w t o w o 0 0 0
unfolding run
start {w} {t} {o} S =
    record {
      sound = S;
      becomes = stays S.arranged;
      same = refl;
      same_out = refl;
      read = omega arith;
      within = omega arith;
      few = omega arith;
      beyond = refl;
      so_far = rw (sub-zero (length t), sub-zero (length o)) (after_none (run_for (length t) t (length o) (meaning w)));
      trace = λ w' T. rw (sub-zero (length t), sub-zero (length o)) at T;
    }

-- the run has ended with stop number n, and leaves the words w₁, of the same meaning, and the bytes o
finished : {w₀ t o₀ w o : List ℕ} {at p k : ℕ} → Going w₀ t o₀ w o at p k → (n : ℕ) (w₁ o₁ : List ℕ)
    → run_for (length t - k) (drop at t) (length o - p) (meaning w) ≡ halt n (meaning w) → Sound w₁ → Becomes w w₁ (meaning w) → Traced (length t - k) (drop at t) (length o - p) w w₁ → o₁ ≡ o
    → Completed w₀ w₁ t o₀ o₁ (record { stop = n; commands = k; read = at; written = p }) (run t (length o₀) (meaning w₀))
unfolding after
finished {w = w} {o = o} {at = at} {p = p} {k = k} g n w₁ o₁ e S B T q =
    rw (g.so_far, e, append-nil (take p o))
    (record {
      sound = S;
      becomes = becomes_next (meaning w) (λ (s : Store). s) g.becomes g.same B;
      each = g.trace w₁ T;
      bytes = q ∙ rw (length-take-le p o g.within, ← g.beyond) (sym (take-append-drop p o));
      stop = refl;
      commands = omega arith;
      read = omega arith;
      written = sym (length-take-le p o g.within);
    })

module _ {w₀ t o₀ w o : List ℕ} {at p k : ℕ} (g : Going w₀ t o₀ w o at p k) where
  -- at the tape's end
  pub ended : length t ≤ at → Completed w₀ w t o₀ o (record { stop = 0; commands = k; read = at; written = p }) (run t (length o₀) (meaning w₀))
  ended h =
      let e : run_for (length t - k) (drop at t) (length o - p) (meaning w) ≡ halt 0 (meaning w) =
      rw (drop_of_length-le t h) (run_none (length t - k) (meaning w) (length o - p)) in
      finished g 0 w o e g.sound (stays g.sound.arranged) (traced_end (length t - k) t at (length o - p) w h) refl

  fuel : at < length t → length t - k ≡ suc (length t - (k + 1))
  fuel h = omega (arith, g.few)

  unrolled : at < length t → run_for (length t - k) (drop at t) (length o - p) (meaning w) ≡ next (step_at (meaning w) t at (length o - p)) (meaning w) (drop at t) (length o - p) (length t - (k + 1))
  unrolled h =
      rw (fuel h) (run_more (length t - (k + 1)) (meaning w) t at (length o - p) h)

module _ {w₀ t o₀ w o w₁ o₁ : List ℕ} {at p k : ℕ} (g : Going w₀ t o₀ w o at p k) (h : at < length t) where
  pub stops_here : (r : Refusal) → Stepped w w₁ t o o₁ at p (Err r) (step_at (meaning w) t at (length o - p))
      → Completed w₀ w₁ t o₀ o₁ (record { stop = refusal_code r; commands = k; read = at; written = p }) (run t (length o₀) (meaning w₀))
  stops_here r s =
      let n = refusal_code r in
      let x : step_at (meaning w) t at (length o - p) ≡ stops n = was_stopped at p r _ s.result in
      let e : run_for (length t - k) (drop at t) (length o - p) (meaning w) ≡ halt n (meaning w) = unrolled g h ∙ rw x in
      let T : Traced (length t - k) (drop at t) (length o - p) w w₁ =
      rw (fuel g h) (traced_stop (length t - (k + 1)) (length o - p) w w₁ t at h n x (rw x at s.kept)) in
      finished g n w₁ o₁ e s.sound (rw x at s.becomes) T (rw x at s.bytes)

  goes_by : (n : ℕ) (l : List ℕ) (s' : Store) (d : Progress) → step_at (meaning w) t at (length o - p) ≡ goes n l s' → d.read ≡ at + n → d.written ≡ p + length l
      → Stepped w w₁ t o o₁ at p (Ok d) (step_at (meaning w) t at (length o - p))
      → Going w₀ t o₀ w₁ o₁ d.read d.written (k + 1)
  goes_by n l s' d is next_at free s =
      let f : p + length l ≤ length o = rw is at s.within in
      let q : o₁ ≡ sets o p l = rw is at s.bytes in
      let B : Becomes w w₁ s' = rw is at s.becomes in
      let m : meaning w₁ ≡ s' = B.means in
      let z = step_size (meaning w) t at (length o - p) n l s' h is in
      let v : SameSettings (meaning w) s' = step_kept (meaning w) t at (length o - p) n l s' is in
      let r : run_for (length t - k) (drop at t) (length o - p) (meaning w) ≡ more n l (run_for (length t - (k + 1)) (drop n (drop at t)) (length o - p - length l) s') =
      unrolled g h ∙ rw is in
      let u : length o - (p + length l) ≡ length o - p - length l = omega arith in
      let C : Becomes w w₁ (meaning w₁) = rw m B in
      let R : Refused w w₁ (command_in (get_or t at 0) t (at + 1) (meaning w)) = rw is at s.kept in
      rw (next_at, free, q)
      (record {
        sound = s.sound;
        becomes = becomes_next (meaning w) (λ (x : Store). meaning w₁) g.becomes g.same C;
        same = rw m (v ∙ g.same);
        same_out = length-sets o p l ∙ g.same_out;
        read = z.1;
        within = rw (length-sets o p l) f;
        few = omega (arith, z.0, g.few);
        beyond = drop_sets o p l f ∙ sym (drop-drop (length l) p o) ∙ ap (drop (length l)) g.beyond ∙ drop-drop (length l) p o₀;
        so_far =
            g.so_far
            ∙ rw (r, take_sets o p l f, length-sets o p l, m, u, ← drop-drop n at t)
            (after_more k at (take p o) n l _);
        trace =
            λ w' T. g.trace w'
            (rw (fuel g h)
            (traced_more (length t - (k + 1)) (length o - p) w w' t at h w₁ n l s' is B R
            (rw (length-sets o p l, u, ← drop-drop n at t) at T)));
      })

  pub goes_on : (d : Progress) → Stepped w w₁ t o o₁ at p (Ok d) (step_at (meaning w) t at (length o - p)) → Going w₀ t o₀ w₁ o₁ d.read d.written (k + 1)
  goes_on d s =
      let v = went_on at p d (step_at (meaning w) t at (length o - p)) s.result in
      goes_by v.size v.answer v.store d v.is v.next_at v.free s

  -- the place moves on
  pub moves : (d : Progress) → Stepped w w₁ t o o₁ at p (Ok d) (step_at (meaning w) t at (length o - p)) → at < d.read
  moves d s =
      let v = went_on at p d (step_at (meaning w) t at (length o - p)) s.result in
      let z = step_size (meaning w) t at (length o - p) v.size v.answer v.store h v.is in
      omega (arith, z.0, v.next_at)
