-- A loop that checks place after place, `while j < e { if !check(.., j) { return false; } j += 1; } true`: what has passed when it starts, when it
-- goes on, and when it ends; and that all do not pass where it stops. Assumes nothing.
use mathlib.Core.Bool.{Bool, true, false, not}
use mathlib.Core.Path.{◌≡◌}
use Prim.Native.Nat.{ℕ, ◌+◌, ◌≤◌, ◌<◌, zero-le}
use native.Mathlib.Nat.{le_refl, not-le_of_lt, lt_of_lt_of_le}
use native.Mathlib.Omega.{arith}
use Rattle.model.proofs.BoolLaws.{by-eq}
use Rattle.words.specs.Decides.{Decides, Each}
use Rattle.words.proofs.Decides.{granted, denied}

-- the loop's invariant: from a up to j each place passes
pub record Passed (P : ℕ → Type 0) (a j : ℕ) : Type 0 where
  pub from : a ≤ j
  pub each : (i : ℕ) → a ≤ i → i < j → P i

module _ {P : ℕ → Type 0} where
  pub starts : (a : ℕ) → Passed P a a
  starts a = record { from = le_refl a; each = λ i h l. absurd (not-le_of_lt l h) }

  -- j passes too
  pub passes : {a j : ℕ} → Passed P a j → P j → Passed P a (j + 1)
  passes {j} p here = record { from = omega (arith, p.from); each = λ i h l. by-eq i j (λ q. rw q here) (λ n. p.each i h (omega arith)) }

  pub goes : {a j : ℕ} → Passed P a j → (b : Bool) → Decides b (P j) → not b ≡ false → Passed P a (j + 1)
  goes {j} p b d e = passes p (granted {P = P j} b d e)

  -- all passed: from a up to e, and below k
  pub ends : {a j e : ℕ} → Passed P a j → e ≤ j → (i : ℕ) → a ≤ i → i < e → P i
  ends p h i f l = p.each i f (lt_of_lt_of_le l h)

  pub ends_each : {j k : ℕ} → Passed P 0 j → k ≤ j → Each k P
  ends_each p h i l = p.each i zero-le (lt_of_lt_of_le l h)

  -- j does not pass
  pub stops : {a j e : ℕ} → Passed P a j → j < e → (b : Bool) → Decides b (P j) → not b ≡ true → ((i : ℕ) → a ≤ i → i < e → P i) → ⊥
  stops {j} p l b d n all = denied {P = P j} b d n (all j p.from l)

  pub stops_each : {j k : ℕ} → Passed P 0 j → j < k → (b : Bool) → Decides b (P j) → not b ≡ true → Each k P → ⊥
  stops_each {j} p l b d n all = denied {P = P j} b d n (all j l)
