-- Every run over sound words has a course: the model's run and the words' trace, read as 01 tells them. Assumes nothing.
use mathlib.Core.Path.{◌≡◌, refl, sym, ap, ◌∙◌, subst}
use mathlib.Core.Option.{Option, some, none}
use mathlib.Core.List.{List, [], ◌∷◌}
use Prim.Native.Nat.{ℕ, zero, suc, ◌-◌, ◌≤◌}
use native.Mathlib.Omega.{arith}
use lib.ListN.{length, drop, length-drop}
use Rattle.model.specs.Store.{Store, Bytes, counted, with_control}
use Rattle.model.specs.Commands.{operands_len, command_on, accepted}
use Rattle.model.specs.Refusals.{first_line, NoneHolds, First, before_lines, lines_of}
use Rattle.model.specs.Run.{Outcome, refuses, accepts, does, Step, stops, goes, step_of, step_if, step, Ran, halt, more, run_for, run}
use Rattle.model.specs.Sound as model
use Rattle.model.proofs.Lines.{none_to, refusal_exact, accepted_exact, stop_exact}
use Rattle.model.proofs.Sound.{bytes_drop, step_sound}
use Rattle.memory.specs.Meaning.{meaning, with_refusal}
use Rattle.memory.specs.Arranged.{Sound}
use Rattle.run.specs.Run.{Leaves, GoesOn, Traced}
use Rattle.store.specs.Course.{Course, CourseOf, ended, stopped, refused, done}

-- ---- a step that goes on: which line refused its command, or that none did

pub data Goes (b : ℕ) (t : List ℕ) (s : Store) (k : ℕ) (a : List ℕ) (s' : Store) : Type 0 where
  by_line : (n : ℕ) → First (lines_of (command_on b t s)) s n → does (command_on b t s) s ≡ refuses n → k ≡ suc (operands_len b s) → a ≡ n ∷ [] → s' ≡ with_control s (counted s.control) → Goes b t s k a s'
  by_effect : NoneHolds (lines_of (command_on b t s)) s → k ≡ suc (operands_len b s) → a ≡ 0 ∷ (accepted (command_on b t s) s).answer → s' ≡ (accepted (command_on b t s) s).store → Goes b t s k a s'

pub record WentOn (b : ℕ) (t : List ℕ) (room : ℕ) (s : Store) (k : ℕ) (a : List ℕ) (s' : Store) : Type 0 where
  pub passed : NoneHolds before_lines (record { byte = b; rest = t; room = room; store = s })
  pub by : Goes b t s k a s'

step_goes : (b : ℕ) (t : List ℕ) (room : ℕ) (s : Store) (k : ℕ) (a : List ℕ) (s' : Store) → step b t room s ≡ goes k a s' → WentOn b t room s k a s'
unfolding step
step_goes b t room s k a s' e = lines (first_line before_lines (record { byte = b; rest = t; room = room; store = s })) refl e
  where
    outcome : (x : Outcome) → does (command_on b t s) s ≡ x → step_of (suc (operands_len b s)) s x ≡ goes k a s' → Goes b t s k a s'
    outcome (refuses n) p q =
        let ek : k ≡ suc (operands_len b s) = cc in
        let ea : a ≡ n ∷ [] = cc in
        let es : s' ≡ with_control s (counted s.control) = cc in
        by_line n ((refusal_exact (command_on b t s) s n).0 p) p ek ea es
    outcome (accepts s₁ x) p q =
        let h = (accepted_exact (command_on b t s) s s₁ x).0 p in
        let ek : k ≡ suc (operands_len b s) = cc in
        let ea : a ≡ 0 ∷ x = cc in
        let es : s₁ ≡ s' = cc in
        by_effect h.0 ek (ea ∙ ap (λ (l : List ℕ). 0 ∷ l) (sym h.2)) (sym es ∙ sym h.1)

    lines : (r : Option ℕ) → first_line before_lines (record { byte = b; rest = t; room = room; store = s }) ≡ r → step_if r (step_of (suc (operands_len b s)) s (does (command_on b t s) s)) ≡ goes k a s' → WentOn b t room s k a s'
    lines (some n) p q = let z : ◌≡◌ {A = ℕ} 0 1 = cc in absurd (omega arith)
    lines none p q = record { passed = none_to before_lines (record { byte = b; rest = t; room = room; store = s }) p; by = outcome (does (command_on b t s) s) refl q }

-- ---- the course of a run

-- what the rest of the run is asked for
abbrev Rest : ℕ → List ℕ → Type 0
Rest fuel w' = (t : List ℕ) (room : ℕ) (w : List ℕ) → length t ≤ fuel → Bytes t → Sound w → Traced fuel t room w w' → CourseOf w t room w' (run_for fuel t room (meaning w))

module _ (fuel : ℕ) (w' : List ℕ) (rest : Rest fuel w') (b : ℕ) (t : List ℕ) (room : ℕ) (w : List ℕ) (fits : length t ≤ fuel) (bytes : Bytes t) (S : Sound w) where
  shorter : length (drop (operands_len b (meaning w)) t) ≤ fuel
  shorter = omega (arith, length-drop (operands_len b (meaning w)) t)

  -- a command that the run goes on after
  went : (k : ℕ) (a : List ℕ) (s : Store) → WentOn b t room (meaning w) k a s → model.StoreSound s → Leaves w (command_on b t (meaning w)) s (λ w₁. Traced fuel (drop k (b ∷ t)) (room - length a) w₁ w')
      → CourseOf w (b ∷ t) room w' (more k a (run_for fuel (drop k (b ∷ t)) (room - length a) s))
  went k a s G T L =
      let w₁ = L.words in
      let sound : Sound w₁ = record { arranged = L.becomes.arranged; means = rw L.becomes.means T } in
      elim G.by as (λ g. CourseOf w (b ∷ t) room w' (more k a (run_for fuel (drop k (b ∷ t)) (room - length a) s))) [
        | by_line n f d ek ea es ↦
            let tail : Traced fuel (drop (operands_len b (meaning w)) t) (room - 1) w₁ w' = rw (ek, ea) at L.rest in
            let more_of : CourseOf w₁ (drop (operands_len b (meaning w)) t) (room - 1) w' (run_for fuel (drop (operands_len b (meaning w)) t) (room - 1) (meaning w₁)) = rest (drop (operands_len b (meaning w)) t) (room - 1) w₁ shorter (bytes_drop (operands_len b (meaning w)) t bytes) sound tail in
            let is : w₁ ≡ with_refusal w = L.refused n d in
            rw (ek, ea)
            (refused w G.passed f (rw (← is, ← es) L.becomes) (rw (← is) sound)
            (subst (λ (v : List ℕ). CourseOf v (drop (operands_len b (meaning w)) t) (room - 1) w' (run_for fuel (drop (operands_len b (meaning w)) t) (room - 1) s)) is
            (subst (λ (x : Store). CourseOf w₁ (drop (operands_len b (meaning w)) t) (room - 1) w' (run_for fuel (drop (operands_len b (meaning w)) t) (room - 1) x)) L.becomes.means more_of)))
        | by_effect h ek ea es ↦
            let r : ℕ = room - suc (length (accepted (command_on b t (meaning w)) (meaning w)).answer) in
            let tail : Traced fuel (drop (operands_len b (meaning w)) t) r w₁ w' = rw (ek, ea) at L.rest in
            let more_of : CourseOf w₁ (drop (operands_len b (meaning w)) t) r w' (run_for fuel (drop (operands_len b (meaning w)) t) r (meaning w₁)) = rest (drop (operands_len b (meaning w)) t) r w₁ shorter (bytes_drop (operands_len b (meaning w)) t bytes) sound tail in
            rw (ek, ea)
            (done w w₁ G.passed h (rw es at L.becomes) sound
            (subst (λ (x : Store). CourseOf w₁ (drop (operands_len b (meaning w)) t) r w' (run_for fuel (drop (operands_len b (meaning w)) t) r x)) L.becomes.means more_of))
      ]

  at_step : (p : Step) → step b t room (meaning w) ≡ p → GoesOn p w w' (command_on b t (meaning w)) (λ k a w₁. Traced fuel (drop k (b ∷ t)) (room - length a) w₁ w')
      → CourseOf w (b ∷ t) room w' (elim p as (λ p. Ran) [ stops n ↦ halt n (meaning w) | goes k a s ↦ more k a (run_for fuel (drop k (b ∷ t)) (room - length a) s) ])
  at_step (stops n) e g =
      subst (λ (v : List ℕ). Course w (b ∷ t) room v n 0 0 []) (sym g)
      (stopped ((stop_exact b t room (meaning w) n).0 e))
  at_step (goes k a s) e g = went k a s (step_goes b t room (meaning w) k a s e) (rw e at (step_sound b t room (meaning w) bytes S.means)) g

course_for : (fuel : ℕ) (w' : List ℕ) → Rest fuel w'
unfolding run_for Traced
course_for zero w' [] room w h b S T = subst (λ (v : List ℕ). Course w [] room v 0 0 0 []) (sym T) ended
course_for zero w' (x ∷ t) room w h b S T = absurd (omega arith)
course_for (suc fuel) w' [] room w h b S T = subst (λ (v : List ℕ). Course w [] room v 0 0 0 []) (sym T) ended
course_for (suc fuel) w' (x ∷ t) room w h b S T =
    at_step fuel w' (course_for fuel w') x t room w (omega arith) b.1 S (step x t room (meaning w)) refl T

pub course_of : (t : List ℕ) (room : ℕ) (w w' : List ℕ) → Bytes t → Sound w → Traced (length t) t room w w' → CourseOf w t room w' (run t room (meaning w))
unfolding run
course_of t room w w' b S T = course_for (length t) w' t room w (omega arith) b S T
