-- The number of a refusal, and of none. Assumes nothing.
use mathlib.Core.Path.{◌≡◌, refl, ap}
use mathlib.Core.Bool.{true, false}
use Prim.Native.Nat.{ℕ, ◌≤◌}
use native.Mathlib.Omega.{arith}
use Rattle.std.specs.Prelude as std
use Rattle.columns.specs.Refused.{refusal_number}
use Rattle.model.specs.Codes.{refusal_code}
use Rattle.model.proofs.Codes.{code_injective}
use Rattle.model.specs.declared.refusals.Refusal.{Refusal}
use Rattle.model.specs.declared.refusals.Refusal.TheVariants as refusals

-- no refusal has the number of an accepted answer
pub code_least : (r : Refusal) → 1 ≤ refusal_code r
code_least refusals.Size = omega arith
code_least refusals.Short = omega arith
code_least refusals.Unsound = omega arith
code_least refusals.Unknown = omega arith
code_least refusals.Cut = omega arith
code_least refusals.NoRoom = omega arith
code_least refusals.Kind = omega arith
code_least refusals.Kinds = omega arith
code_least refusals.Again = omega arith
code_least refusals.Handful = omega arith
code_least refusals.Dead = omega arith
code_least refusals.Full = omega arith
code_least refusals.Clash = omega arith
code_least refusals.Many = omega arith
code_least refusals.Beyond = omega arith
code_least refusals.Caller = omega arith

-- a refusal's number is not 0
pub some_refused : (r : std.Option Refusal) → std.is_some r ≡ true → refusal_number r ≡ 0 → ⊥
some_refused std.None q = let z : ◌≡◌ {A = ℕ} 0 1 = cc in absurd (omega arith)
some_refused (std.Some e) q = λ z. omega (arith, z, code_least e)

-- that of none is
pub none_accepted : (r : std.Option Refusal) → std.is_some r ≡ false → refusal_number r ≡ 0
none_accepted std.None q = refl
none_accepted (std.Some e) q = let z : ◌≡◌ {A = ℕ} 0 1 = cc in absurd (omega arith)

-- the number says whether there is a refusal, and which
pub number_injective : (r q : std.Option Refusal) → refusal_number r ≡ refusal_number q → r ≡ q
number_injective std.None std.None e = refl
number_injective std.None (std.Some q) e = absurd (omega (arith, e, code_least q))
number_injective (std.Some r) std.None e = absurd (omega (arith, e, code_least r))
number_injective (std.Some r) (std.Some q) e = ap std.Some (code_injective r q e)
