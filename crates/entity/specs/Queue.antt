-- A queue of n places that holds c numbers from place h on, going round: the recycled numbers (01: waiting), longest recycled first. No words here:
-- idx and ver are the places' numbers, back each index's place plus one (0: does not wait), held each index's live version (0: not live).
-- Assumes nothing.
use Rattle.std.specs.Prelude.{◌≡◌, cond, ℕ, ◌+◌, ◌-◌, ◌≤◌, ◌<◌, ltb, leb}

-- the place k of the queue, k counted on past its end
unfoldable pub wrapped : ℕ → ℕ → ℕ
wrapped n k = cond (ltb k n) k (k - n)

-- how many places after h the place p comes
unfoldable pub since : ℕ → ℕ → ℕ → ℕ
since n h p = cond (leb h p) (p - h) (p + n - h)

-- the number at place p is issued, of version 1 or more, not live, and its index says where it waits: so it waits once
pub record Waits (issued : ℕ) (idx ver back held : ℕ → ℕ) (p : ℕ) : Type 0 where
  pub below : idx p < issued
  pub positive : 1 ≤ ver p
  pub pointed : back (idx p) ≡ p + 1
  pub free : held (idx p) ≡ 0

-- what index x says is a place in use, and the place has that index
pub record Queued (n h c : ℕ) (idx back : ℕ → ℕ) (x : ℕ) : Type 0 where
  pub inside : back x ≤ n
  pub used : since n h (back x - 1) < c
  pub found : idx (back x - 1) ≡ x

-- the c numbers from place h on wait, and no index says that it waits but theirs
pub record Queue (n issued h c : ℕ) (idx ver back held : ℕ → ℕ) : Type 0 where
  pub start : h < n
  pub few : c ≤ n
  pub waits : (j : ℕ) → j < c → Waits issued idx ver back held (wrapped n (h + j))
  pub listed : (x : ℕ) → x < n → 1 ≤ back x → Queued n h c idx back x
