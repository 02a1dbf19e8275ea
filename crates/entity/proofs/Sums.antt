-- Places of the entity part as numbers, n being the capacity and l the part's length: they stand in the part, and the sums up to them fit their
-- machine words. Laws over numbers alone, since omega inside a function reads every record before it. Assumes nothing.
use mathlib.Core.Path.{◌≡◌}
use Prim.Native.Nat.{ℕ, ◌+◌, ◌*◌, ◌-◌, ◌≤◌, ◌<◌}
use native.Mathlib.Omega.{arith}
use mir.Val.{Fits}
use mir.Syntax.{w32, w64}
use Rattle.model.specs.Numbers.{MAX_ENTITIES, ENTITY_LEN}
use Rattle.words.specs.Offsets.{ENTITIES, LIVE_LIST}

-- ---- the head

-- a word of the part's head
pub word_in : (i n l : ℕ) → i < LIVE_LIST → l ≡ ENTITY_LEN * n → 1 ≤ n → i < l
word_in i n l h e s = omega arith

-- a count that stands there
pub count_fits : (k n : ℕ) → n ≤ MAX_ENTITIES → k ≤ n → Fits w64 k
count_fits k n s h = omega arith

-- ---- the live list

-- the row at place p, and its words
pub row_sums : (n p : ℕ) → n ≤ MAX_ENTITIES → p < n
    → Fits w64 p × Fits w64 (2 * p) × Fits w64 (LIVE_LIST + 2 * p) × Fits w64 ((LIVE_LIST + 2 * p) * 4) × Fits w64 (LIVE_LIST + 2 * p + 1) × Fits w64 ((LIVE_LIST + 2 * p + 1) * 4)
row_sums n p s h = (omega arith, omega arith, omega arith, omega arith, omega arith, omega arith)

pub row_in : (n p l : ℕ) → l ≡ ENTITY_LEN * n → p < n → (LIVE_LIST + 2 * p < l) × (LIVE_LIST + 2 * p + 1 < l)
row_in n p l e h = (omega arith, omega arith)

-- a row p of k, and the last of them
pub last_row : (p k n : ℕ) → p < k → k ≤ n → (1 ≤ k) × (k - 1 < k) × (k - 1 < n) × (p < n)
last_row p k n h r = (omega arith, omega arith, omega arith, omega arith)

-- ---- the lookups

-- the lookup of index x, and its words
pub lookup_sums : (n x : ℕ) → n ≤ MAX_ENTITIES → x < n
    → Fits w64 (2 * n) × Fits w64 (LIVE_LIST + 2 * n) × Fits w64 (2 * x) × Fits w64 (LIVE_LIST + 2 * n + 2 * x) × Fits w64 ((LIVE_LIST + 2 * n + 2 * x) * 4) × Fits w64 (LIVE_LIST + 2 * n + 2 * x + 1) × Fits w64 ((LIVE_LIST + 2 * n + 2 * x + 1) * 4)
lookup_sums n x s h = (omega arith, omega arith, omega arith, omega arith, omega arith, omega arith, omega arith)

pub lookup_in : (n x l : ℕ) → l ≡ ENTITY_LEN * n → x < n → (LIVE_LIST + 2 * n + 2 * x < l) × (LIVE_LIST + 2 * n + 2 * x + 1 < l)
lookup_in n x l e h = (omega arith, omega arith)

-- ---- the queue

-- k places on from its head h
pub queue_sums : (n h k : ℕ) → n ≤ MAX_ENTITIES → h < n → k ≤ n → Fits w64 h × Fits w64 k × Fits w64 (h + k) × (h + k < n + n) × Fits w32 (k + 1)
queue_sums n h k s p q = (omega arith, omega arith, omega arith, omega arith, omega arith)

-- its place p, and the words there
pub place_sums : (n p : ℕ) → n ≤ MAX_ENTITIES → p < n
    → Fits w64 (4 * n) × Fits w64 (LIVE_LIST + 4 * n) × Fits w64 (2 * p) × Fits w64 (LIVE_LIST + 4 * n + 2 * p) × Fits w64 ((LIVE_LIST + 4 * n + 2 * p) * 4) × Fits w64 (LIVE_LIST + 4 * n + 2 * p + 1) × Fits w64 ((LIVE_LIST + 4 * n + 2 * p + 1) * 4) × Fits w64 (p + 1) × Fits w32 (p + 1)
place_sums n p s h = (omega arith, omega arith, omega arith, omega arith, omega arith, omega arith, omega arith, omega arith, omega arith)

pub place_in : (n p l : ℕ) → l ≡ ENTITY_LEN * n → p < n → (LIVE_LIST + 4 * n + 2 * p < l) × (LIVE_LIST + 4 * n + 2 * p + 1 < l)
place_in n p l e h = (omega arith, omega arith)

-- the word of index x's place in the queue
pub index_sums : (n x : ℕ) → n ≤ MAX_ENTITIES → x < n → Fits w64 (6 * n) × Fits w64 (LIVE_LIST + 6 * n) × Fits w64 (LIVE_LIST + 6 * n + x) × Fits w64 ((LIVE_LIST + 6 * n + x) * 4)
index_sums n x s h = (omega arith, omega arith, omega arith, omega arith)

pub index_in : (n x l : ℕ) → l ≡ ENTITY_LEN * n → x < n → LIVE_LIST + 6 * n + x < l
index_in n x l e h = omega arith

-- ---- the whole words

-- the part follows the header
pub part_sums : (n : ℕ) → n ≤ MAX_ENTITIES → Fits w64 (ENTITY_LEN * n) × Fits w64 (ENTITIES + ENTITY_LEN * n) × (ENTITIES ≤ ENTITIES + ENTITY_LEN * n)
part_sums n h = (omega arith, omega arith, omega arith)
