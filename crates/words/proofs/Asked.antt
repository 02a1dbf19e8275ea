-- A loop that only asks, `(a..b).all(|i| check(.., i))`: its answer decides that each place from a on, below b, passes. The last two facts, of what a
-- call of the closure says, are both `λ x q k. search (rules, tests)`. Assumes nothing.
use Prim.Native.Nat.{ℕ, ◌+◌, ◌-◌, ◌≤◌, ◌<◌}
use denote.Param.Members.{Mut}
use Rattle.std.specs.declared.ops.Range.{Range}
use Rattle.std.proofs.Common.{◌≡◌, Bool, true, false, List, Option, length, subst, refl, arith}
use Rattle.std.proofs.lemmas.Iterator.{YieldsList-from_range, cases_from_all}
use Rattle.std.proofs.iter.Yields.{nat_range_steps}
use Rattle.std.proofs.lemmas.List.FromFn.{length-range_with_len, get_or-range_with_len}
use Rattle.std.specs.Bool.{MatchBool}
use Rattle.std.specs.Fn.{Called}
use Rattle.std.specs.Iterator.{YieldsThen}
use Rattle.std.specs.List.{range_with_len, FoldsTo, AllWithin, HoldsAt}
use Rattle.std.specs.Option.{MatchOption}
use Rattle.words.specs.Decides.{Decides, Each}

-- the n numbers from a on
each_from_cases : (P : ℕ → Type 0) (a n : ℕ) (r : Bool) → MatchBool r (AllWithin P (range_with_len a n) 0 (length (range_with_len a n))) ((i : ℕ) × (i < length (range_with_len a n)) × HoldsAt (λ x. P x → ⊥) (range_with_len a n) i) → Decides r ((j : ℕ) → a ≤ j → j < a + n → P j)
each_from_cases P a n true w = λ j from below.
    let l : j - a < n = omega arith in
    let e : a + (j - a) ≡ j = omega arith in
    subst P e (subst P (get_or-range_with_len a n (j - a) 0 l) (w (j - a) 0 (omega arith) (rw (length-range_with_len a n) l)))
each_from_cases P a n false w = λ all.
    let l : w.0 < n = subst (λ n. w.0 < n) (length-range_with_len a n) w.1 in
    subst (λ x. P x → ⊥) (get_or-range_with_len a n w.0 0 l) (w.2 0) (all (a + w.0) (omega arith) (omega arith))

-- the same place, counted from 0 and from a
span_of : (P : ℕ → Type 0) (a b : ℕ) (r : Bool) → Decides r ((j : ℕ) → a ≤ j → j < a + (b - a) → P j) → Decides r ((j : ℕ) → a ≤ j → j < b → P j)
span_of P a b true all = λ j from below. all j from (omega arith)
span_of P a b false none = λ all. none (λ j from below. all j from (omega arith))

below_of : (P : ℕ → Type 0) (k : ℕ) (r : Bool) → Decides r ((j : ℕ) → 0 ≤ j → j < k → P j) → Decides r (Each k P)
below_of P k true all = λ j below. all j (omega arith) below
below_of P k false none = λ all. none (λ j from below. all j below)

module _ {F : Type 0} {g : Mut F (ℕ × Unit {0}) Bool} {s : Range ℕ} where
  -- `(a..b).all(..)`
  pub span_from_all : (P : ℕ → Type 0) (a b : ℕ) (u : Range ℕ) (f : F) (r : Bool) → (xs : List ℕ) × (o : Option ℕ) × (j : F) × YieldsThen nat_range_steps s xs o u × FoldsTo (λ p x q. Called g p (x, tt) true q) f xs j × MatchOption o (r ≡ true) (λ x. (r ≡ false) × ((h : F) × Called g j (x, tt) false h)) → s ≡ record { start = a; end = b } → ((x : ℕ) (q : F) → Called g f (x, tt) true q → (q ≡ f) × P x) → ((x : ℕ) (q : F) → Called g f (x, tt) false q → P x → ⊥) → Decides r ((j : ℕ) → a ≤ j → j < b → P j)
  span_from_all P a b u f r ran e passes stops = span_of P a b r (each_from_cases P a (b - a) r (cases_from_all {v = λ x. x} u f r P (λ x. P x → ⊥) ran (YieldsList-from_range a b (b - a) e refl) passes stops))

  -- `(0..k).all(..)`
  pub each_from_all : (P : ℕ → Type 0) (k : ℕ) (u : Range ℕ) (f : F) (r : Bool) → (xs : List ℕ) × (o : Option ℕ) × (j : F) × YieldsThen nat_range_steps s xs o u × FoldsTo (λ p x q. Called g p (x, tt) true q) f xs j × MatchOption o (r ≡ true) (λ x. (r ≡ false) × ((h : F) × Called g j (x, tt) false h)) → s ≡ record { start = 0; end = k } → ((x : ℕ) (q : F) → Called g f (x, tt) true q → (q ≡ f) × P x) → ((x : ℕ) (q : F) → Called g f (x, tt) false q → P x → ⊥) → Decides r (Each k P)
  each_from_all P k u f r ran e passes stops = below_of P k r (span_from_all P 0 k u f r ran e passes stops)
