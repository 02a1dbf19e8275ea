-- A layout in a block of 320 words: kinds, arities, kind ends, group ends (docs/WORDS.md). The number of families and of groups stand elsewhere.
-- Assumes nothing.
use Rattle.std.specs.Prelude.{◌≡◌, List, ℕ, ◌+◌, ◌≤◌, ◌<◌, length, get_or}
use Rattle.words.specs.Offsets.{BLOCK_LEN}
use Rattle.layout.specs.Layout.{block_arrays, group_count, families_of, WellFormed}
use Rattle.layout.specs.ByValue.{arrays_of, Formed}
use Rattle.layout.specs.declared.group_layout.Layout.{Layout}

-- the block is such as commands can build (01, "sound"), for n families and g groups
pub record BlockFormed (w : List ℕ) (n g : ℕ) : Type 0 where
  pub size : length w ≡ BLOCK_LEN
  pub good : WellFormed (block_arrays w n)
  pub groups : g ≡ group_count (block_arrays w n)

-- the struct read from a block: the same families, with whatever counts
pub record ReadFrom (w : List ℕ) (n g : ℕ) (r : Layout) : Type 0 where
  pub formed : Formed r
  pub families : r.families ≡ n
  pub groups : r.groups ≡ g
  pub means : (counts : List ℕ) → families_of counts (arrays_of r) ≡ families_of counts (block_arrays w n)

-- the block that a struct was written to
pub record WrittenTo (l : Layout) (w : List ℕ) : Type 0 where
  pub formed : BlockFormed w l.families l.groups
  pub means : (counts : List ℕ) → families_of counts (block_arrays w l.families) ≡ families_of counts (arrays_of l)

-- ---- copies

pub record FetchAsk (d s : List ℕ) : Type 0 where
  pub room : length s ≤ length d
  pub small : (i : ℕ) → i < length s → get_or s i 0 < 256

-- d starts with s
pub record Fetched (d₀ s d : List ℕ) : Type 0 where
  pub size : length d ≡ length d₀
  pub front : (i : ℕ) → i < length s → get_or d i 0 ≡ get_or s i 0

-- d has s from at on, and is as it was elsewhere
pub record PutAt (d₀ : List ℕ) (at : ℕ) (s d : List ℕ) : Type 0 where
  pub size : length d ≡ length d₀
  pub before : (i : ℕ) → i < at → get_or d i 0 ≡ get_or d₀ i 0
  pub here : (i : ℕ) → i < length s → get_or d (at + i) 0 ≡ get_or s i 0
  pub after : (i : ℕ) → at + length s ≤ i → get_or d i 0 ≡ get_or d₀ i 0
