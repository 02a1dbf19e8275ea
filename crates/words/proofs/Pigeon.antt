-- The pigeonhole principle on numbers. Assumes nothing.
use mathlib.Core.Path.{◌≡◌, ap, ◌∙◌}
use mathlib.Core.Logic.{◌≢◌}
use mathlib.Core.List.{◌∷◌}
use Prim.Native.Nat.{ℕ, ◌≤◌, ◌<◌}
use native.Mathlib.Omega.{arith}
use borrow.Author.Tests.{eq-eqb, ne_eqb}
use lib.Dec.{eqb}
use Rattle.model.specs.Lists.{one, count_of}
use Rattle.model.proofs.BoolLaws.{by-eq, zero_of}
use Rattle.model.proofs.ListLaws.{few_below}
use Rattle.model.proofs.KindLists.{count_in}
use Rattle.words.specs.Table.{table}
use Rattle.words.proofs.Tables.{length_table, in_table, table_once}

-- k different numbers below n, of which x < n is none, are fewer than n
pub pigeon_free : (n k x : ℕ) (f : ℕ → ℕ) → x < n → ((i : ℕ) → i < k → f i < n) → ((i j : ℕ) → i < k → j < k → i ≢ j → f i ≢ f j) → ((i : ℕ) → i < k → f i ≢ x) → k < n
pigeon_free n k x f hx b d m = let le = few_below n (x ∷ table k f) all below in omega (arith, length_table k f)
  where
    found : (y : ℕ) → 1 ≤ count_of eqb y (table k f) → (i : ℕ) × (i < k) × (f i ≡ y)
    found y h = in_table k f y (count_in (table k f) y h)

    all : (y : ℕ) → count_of eqb y (x ∷ table k f) ≤ 1
    all y =
        by-eq y x
        (λ e. let none : count_of eqb y (table k f) ≡ 0 = zero_of (λ h. let q = found y h in m q.0 q.1 (q.2 ∙ e)) in omega (arith, ap one (eq-eqb y x e)))
        (λ ne. omega (arith, ap one (ne_eqb y x ne), table_once k f d y))

    below : (y : ℕ) → 1 ≤ count_of eqb y (x ∷ table k f) → y < n
    below y h =
        by-eq y x
        (λ e. omega arith)
        (λ ne. let q = found y (omega (arith, ap one (ne_eqb y x ne))) in omega (arith, b q.0 q.1, q.2))
