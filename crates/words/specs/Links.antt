-- The links of a sparse set (Briggs and Torczon): each row's entity and its index's slot point to each other. No words here: rows and slots are
-- functions. Assumes nothing.
use Rattle.std.specs.Prelude.{◌≡◌, ℕ, ◌≤◌, ◌<◌}

-- row i's entity and its index's slot agree: idx and ver are the rows' entities, place and held the slots
pub record Tied (n : ℕ) (idx ver place held : ℕ → ℕ) (i : ℕ) : Type 0 where
  pub below : idx i < n
  pub issued : 1 ≤ ver i
  pub placed : place (idx i) ≡ i
  pub agreed : held (idx i) ≡ ver i

-- all k rows and all slots agree
pub record Linked (n k : ℕ) (idx ver place held : ℕ → ℕ) : Type 0 where
  pub room : k ≤ n
  pub tied : (i : ℕ) → i < k → Tied n idx ver place held i
  pub inside : (x : ℕ) → x < n → 1 ≤ held x → place x < k
  pub back : (x : ℕ) → x < n → 1 ≤ held x → idx (place x) ≡ x
