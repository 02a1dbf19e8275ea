-- A run command by command, on the words: how it ends, and how a command goes before the rest. Assumes nothing.
use mathlib.Core.Path.{◌≡◌, refl}
use mathlib.Core.List.{List, [], ◌∷◌}
use Prim.Native.Nat.{ℕ, zero, suc, ◌+◌, ◌-◌, ◌≤◌, ◌<◌}
use lib.ListN.{length, get_or, drop, drop_of_length-le}
use Rattle.model.specs.Store.{Store}
use Rattle.model.specs.Commands.{Command, command_on}
use Rattle.model.specs.Run.{Step, stops, goes, step}
use Rattle.model.proofs.ListLaws.{drop_step}
use Rattle.memory.specs.Meaning.{meaning}
use Rattle.memory.specs.Arranged.{Becomes}
use Rattle.run_command.specs.Given.{command_in}
use Rattle.run.specs.Run.{Refused, GoesOn, Traced}
use Rattle.run.specs.Stepping.{step_at}

traced_none : (m room : ℕ) (w : List ℕ) → Traced m [] room w w
unfolding Traced
traced_none zero room w = refl
traced_none (suc m) room w = refl

pub traced_end : (m : ℕ) (t : List ℕ) (at room : ℕ) (w : List ℕ) → length t ≤ at → Traced m (drop at t) room w w
traced_end m t at room w h = rw (drop_of_length-le t h) (traced_none m room w)

stop_by : (w w' : List ℕ) (c : Command) (P : ℕ → List ℕ → List ℕ → Type 0) (n : ℕ) (x : Step) → x ≡ stops n → w' ≡ w → GoesOn x w w' c P
stop_by w w' c P n x e q = rw e q

go_by : (w w₁ w' : List ℕ) (c : Command) (P : ℕ → List ℕ → List ℕ → Type 0) (k : ℕ) (a : List ℕ) (s : Store) (x : Step) → x ≡ goes k a s
    → Becomes w w₁ s → Refused w w₁ c → P k a w₁ → GoesOn x w w' c P
go_by w w₁ w' c P k a s x e B R T = rw e (record { words = w₁; becomes = B; refused = R; rest = T })

module _ (m room : ℕ) (w w' : List ℕ) (b : ℕ) (l : List ℕ) where
  stop_first : (n : ℕ) → step b l room (meaning w) ≡ stops n → w' ≡ w → Traced (suc m) (b ∷ l) room w w'
  unfolding Traced
  stop_first n e q = stop_by w w' _ _ n (step b l room (meaning w)) e q

  go_first : (w₁ : List ℕ) (k : ℕ) (a : List ℕ) (s : Store) → step b l room (meaning w) ≡ goes k a s → Becomes w w₁ s → Refused w w₁ (command_on b l (meaning w))
      → Traced m (drop k (b ∷ l)) (room - length a) w₁ w' → Traced (suc m) (b ∷ l) room w w'
  unfolding Traced
  go_first w₁ k a s e B R T = go_by w w₁ w' _ _ k a s (step b l room (meaning w)) e B R T

module _ (m room : ℕ) (w w' t : List ℕ) (at : ℕ) (h : at < length t) where
  pub traced_stop : (n : ℕ) → step_at (meaning w) t at room ≡ stops n → w' ≡ w → Traced (suc m) (drop at t) room w w'
  traced_stop n e q = rw (drop_step t at 0 h) (stop_first m room w w' (get_or t at 0) (drop (at + 1) t) n e q)

  pub traced_more : (w₁ : List ℕ) (k : ℕ) (a : List ℕ) (s : Store) → step_at (meaning w) t at room ≡ goes k a s → Becomes w w₁ s → Refused w w₁ (command_in (get_or t at 0) t (at + 1) (meaning w))
      → Traced m (drop k (drop at t)) (room - length a) w₁ w' → Traced (suc m) (drop at t) room w w'
  traced_more w₁ k a s e B R T =
      let d = drop_step t at 0 h in
      let T' : Traced m (drop k (get_or t at 0 ∷ drop (at + 1) t)) (room - length a) w₁ w' = rw d at T in
      rw d (go_first m room w w' (get_or t at 0) (drop (at + 1) t) w₁ k a s e B R T')
