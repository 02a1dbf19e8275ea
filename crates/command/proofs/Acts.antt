-- What a command leaves, from what its function's callees leave. Assumes nothing.
use mathlib.Core.Path.{◌≡◌, subst, sym}
use mathlib.Core.List.{List, ◌∷◌}
use Prim.Native.Nat.{ℕ}
use native.Mathlib.Omega.{arith}
use Rattle.model.specs.Store.{Store, with_control, empty_staged}
use Rattle.model.specs.Sound as model_sound
use Rattle.model.specs.Commands.{Command}
use Rattle.model.specs.Run.{Outcome, refuses, accepts, does, store_after}
use Rattle.model.proofs.Sound.{does_sound, refused_sound}
use Rattle.model.specs.Theorems.{Fits, OutSound}
use Rattle.memory.specs.Meaning.{meaning}
use Rattle.memory.specs.Arranged.{Sound, Becomes}
use Rattle.command.specs.Acted.{Written, Acted}
use Rattle.model.specs.Theorems.{SameSettings}
use Rattle.memory.proofs.Becomes.{becomes_next}

-- refused by the number that the refusal converts to
pub refused_by_law : {w w' o o' : List ℕ} {at r n : ℕ} {x : Outcome} → x ≡ refuses n → (m : ℕ) × (m ≡ n) × Acted w w' o o' at r (refuses m) → Acted w w' o o' at r x
refused_by_law {w} {w'} {o} {o'} {at} {r} {x = x} e a = subst (λ m. Acted w w' o o' at r (refuses m) → Acted w w' o o' at r x) (sym a.1) (λ b. rw e b) a.2

clash : (s : Store) (a : List ℕ) (n : ℕ) → accepts s a ≡ refuses n → ⊥
clash s a n e = let z : ◌≡◌ {A = ℕ} 0 1 = cc in omega arith

pub accepted_by : {w w' o o' : List ℕ} {at r : ℕ} {x : Outcome} {s : Store} {a : List ℕ} → x ≡ accepts s a → Becomes w w' s → Written o o' at r (0 ∷ a) → Acted w w' o o' at r x
accepted_by {s = s} {a = a} e b v = rw e (record { becomes = b; written = v; refused = λ n q. absurd (clash s a n q) })

after_sound : (s : Store) (x : Outcome) → model_sound.StoreSound s → OutSound x → model_sound.StoreSound (store_after s x)
after_sound s (refuses n) S h = refused_sound s S
after_sound s (accepts s' a) S h = h

-- a command with operands of their widths keeps the words sound
pub acted_sound : {w w' o o' : List ℕ} {at r : ℕ} (c : Command) → Fits (meaning w).settings.value_bytes c → Sound w → Acted w w' o o' at r (does c (meaning w)) → Sound w'
acted_sound {w} c f S a =
    record {
      arranged = a.becomes.arranged;
      means = rw a.becomes.means (after_sound (meaning w) (does c (meaning w)) S.means (does_sound c (meaning w) f S.means));
    }

-- the staged list emptied after another change
pub emptied : {w₀ w w' : List ℕ} (s : Store) → Becomes w₀ w s → SameSettings (meaning w₀) s → Becomes w w' (with_control (meaning w) (empty_staged (meaning w).control)) → Becomes w₀ w' (with_control s (empty_staged s.control))
emptied s B z C = becomes_next s (λ (t : Store). with_control t (empty_staged t.control)) B z C
