-- The parts of soundness that the checks decide one by one. Assumes nothing.
use Rattle.std.specs.Prelude.{◌≡◌, List, ℕ, ◌+◌, ◌≤◌, ◌<◌}
use Rattle.words.specs.Counted.{filled}
use Rattle.words.specs.Links.{Tied}
use Rattle.entity.specs.Queue.{Waits, wrapped}
use Rattle.entity.specs.Meaning.{len_of, issued_of, head_of, recycled_len, live_index_at, live_version_at, place_of, held_of, queue_index, queue_version, queue_slot}

-- the counts are within the capacity
pub record CountsFit (n : ℕ) (w : List ℕ) : Type 0 where
  pub issued : issued_of w ≤ n
  pub live : len_of w ≤ n
  pub head : head_of w < n
  pub recycled : recycled_len w ≤ n

-- the live list's place i and its index's lookup agree, and the index is issued
pub record LiveOk (n : ℕ) (w : List ℕ) (i : ℕ) : Type 0 where
  pub tied : Tied n (live_index_at w) (live_version_at w) (place_of n w) (held_of n w) i
  pub known : live_index_at w i < issued_of w

abbrev pub WaitsOk : ℕ → List ℕ → ℕ → Type 0
WaitsOk n w j = Waits (issued_of w) (queue_index n w) (queue_version n w) (queue_slot n w) (held_of n w) (wrapped n (head_of w + j))

-- as many lookups say live as the live list is long, and as many indexes say that they wait as the queue has numbers
pub record IndexesOk (n : ℕ) (w : List ℕ) : Type 0 where
  pub live : filled n (held_of n w) ≡ len_of w
  pub waiting : filled n (queue_slot n w) ≡ recycled_len w
