-- Operands off the tape, and commands by their bytes. Assumes nothing.
use mathlib.Core.Path.{◌≡◌, ap, ap₂, sym, ◌∙◌, subst}
use mathlib.Core.List.{List}
use Prim.Native.Nat.{ℕ, ◌+◌, ◌*◌, ◌≤◌, ◌<◌}
use native.Mathlib.Omega.{arith}
use native.Mathlib.Nat.{add-zero}
use lib.ListN.{length, get_or, take, drop}
use lib.Seq.{get_or-take, get_or-drop, take-take}
use Rattle.model.specs.Model.{entity}
use Rattle.model.specs.Store.{number}
use Rattle.model.specs.Commands.{Command, HOLD, entity_of_bytes, operands_len}
use Rattle.model.specs.Run.{does}
use Rattle.model.proofs.ListLaws.{halves}
use Rattle.words.specs.declared.Shape.{Shape}
use Rattle.words.specs.Shape.{shape_of}
use Rattle.values.specs.declared.Value.{Value}
use Rattle.values.specs.Values.{value_of}
use Rattle.memory.specs.Meaning.{meaning}
use Rattle.memory.specs.Arranged.{Arranged}
use Rattle.memory.proofs.Becomes.{stride_bytes}
use Rattle.command.specs.Acted.{Acted}
use Rattle.run_command.specs.Given.{command_in}
use Rattle.model.specs.Numbers.{HOLD_BYTE}

-- ---- operands

module _ (t : List ℕ) (at : ℕ) where
  pub kind_operand : (n : ℕ) → 0 < n → get_or (take n (drop at t)) 0 0 ≡ get_or t at 0
  kind_operand n h = get_or-take n (drop at t) 0 0 h ∙ get_or-drop at t 0 0 ∙ ap (λ (i : ℕ). get_or t i 0) (add-zero at)

  pub entity_operand : at + 8 ≤ length t → entity_of_bytes (take 8 (drop at t)) ≡ entity (number (take 4 (drop at t))) (number (take 4 (drop (at + 4) t)))
  entity_operand h =
      let a : take 4 (take 8 (drop at t)) ≡ take 4 (drop at t) = take-take 4 8 (drop at t) (omega arith) in
      let b : drop 4 (take 8 (drop at t)) ≡ take 4 (drop (at + 4) t) = halves t at 4 4 (omega arith) in
      λ i. record { index = number (a i); version = number (b i) }

  pub entity_read : at + 8 ≤ length t → {i v : ℕ} → i ≡ number (take 4 (drop at t)) → v ≡ number (take 4 (drop (at + 4) t)) → entity i v ≡ entity_of_bytes (take 8 (drop at t))
  entity_read h e f = ap₂ entity e f ∙ sym (entity_operand h)

  -- of v bytes
  pub value_operand : (v : ℕ) → at + (1 + v) ≤ length t → number (drop 1 (take (1 + v) (drop at t))) ≡ number (take v (drop (at + 1) t))
  value_operand v h = ap number (halves t at 1 v (omega arith))

-- HOLD's: the kind, and the value by the store's width, read as the words of a shape
pub hold_operands : (w t : List ℕ) (at : ℕ) (z : Shape) (x : Value) → Arranged w → at + operands_len HOLD_BYTE (meaning w) ≤ length t → z ≡ shape_of w
    → value_of z.stride x ≡ number (take (4 * z.stride) (drop (at + 1) t)) → HOLD (get_or t at 0) (value_of (shape_of w).stride x) ≡ command_in HOLD_BYTE t at (meaning w)
hold_operands w t at z x A h e q =
    let v = (meaning w).settings.value_bytes in
    let read : value_of (shape_of w).stride x ≡ number (take (4 * (shape_of w).stride) (drop (at + 1) t)) =
    subst (λ (y : Shape). value_of y.stride x ≡ number (take (4 * y.stride) (drop (at + 1) t))) e q in
    ap₂ HOLD (sym (kind_operand t at (1 + v) (omega arith))) (read ∙ ap (λ (n : ℕ). number (take n (drop (at + 1) t))) (stride_bytes w A) ∙ sym (value_operand t at v h))

-- the same outcome of a command that is told otherwise
pub acts_by : {w w' o o' : List ℕ} {p r : ℕ} (c d : Command) → c ≡ d → Acted w w' o o' p r (does c (meaning w)) → Acted w w' o o' p r (does d (meaning w))
acts_by {w} {w'} {o} {o'} {p} {r} c d e a = subst (λ (x : Command). Acted w w' o o' p r (does x (meaning w))) e a
