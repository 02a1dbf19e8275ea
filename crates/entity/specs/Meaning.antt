-- What the entity part means, and when it is sound. For a capacity of n (docs/WORDS.md) it has how many are live, how many numbers are issued, the
-- queue's head and how many are recycled; then, in 2 * n words each, the live list (index, version), the lookups by index (place, version; version
-- 0: not live) and the queue of recycled numbers (index, version); then for each index its place in the queue plus one, 0 where it does not wait.
-- Assumes nothing.
use Rattle.std.specs.Prelude.{◌≡◌, List, ℕ, ◌+◌, ◌*◌, ◌≤◌, ◌<◌, length, get_or}
use Rattle.model.specs.Numbers.{ENTITY_LEN, MAX_ENTITIES}
use Rattle.model.specs.Model.{Entity, Entities, entity}
use Rattle.words.specs.Table.{table}
use Rattle.words.specs.Links.{Linked}
use Rattle.entity.specs.Queue.{Queue, wrapped}
use Rattle.words.specs.Offsets.{ENTITIES, ISSUED, LIVE_LEN, LIVE_LIST, QUEUE_HEAD, RECYCLED_LEN}
use Rattle.words.specs.Part.{between}

abbrev pub len_of : List ℕ → ℕ
len_of w = get_or w LIVE_LEN 0

abbrev pub issued_of : List ℕ → ℕ
issued_of w = get_or w ISSUED 0

abbrev pub head_of : List ℕ → ℕ
head_of w = get_or w QUEUE_HEAD 0

abbrev pub recycled_len : List ℕ → ℕ
recycled_len w = get_or w RECYCLED_LEN 0

-- the live list's entity at place i
abbrev pub live_index_at : List ℕ → ℕ → ℕ
live_index_at w i = get_or w (LIVE_LIST + 2 * i) 0

abbrev pub live_version_at : List ℕ → ℕ → ℕ
live_version_at w i = get_or w (LIVE_LIST + 2 * i + 1) 0

-- the lookup of index x: its place in the live list, and its version, 0 where it is not live
abbrev pub place_of : ℕ → List ℕ → ℕ → ℕ
place_of n w x = get_or w (LIVE_LIST + 2 * n + 2 * x) 0

abbrev pub held_of : ℕ → List ℕ → ℕ → ℕ
held_of n w x = get_or w (LIVE_LIST + 2 * n + 2 * x + 1) 0

-- the number at the queue's place p
abbrev pub queue_index : ℕ → List ℕ → ℕ → ℕ
queue_index n w p = get_or w (LIVE_LIST + 4 * n + 2 * p) 0

abbrev pub queue_version : ℕ → List ℕ → ℕ → ℕ
queue_version n w p = get_or w (LIVE_LIST + 4 * n + 2 * p + 1) 0

-- index x's place in the queue plus one
abbrev pub queue_slot : ℕ → List ℕ → ℕ → ℕ
queue_slot n w x = get_or w (LIVE_LIST + 6 * n + x) 0

abbrev pub entity_at : List ℕ → ℕ → Entity
entity_at w i = entity (live_index_at w i) (live_version_at w i)

-- the number that waits behind j others
abbrev pub waiting_at : ℕ → List ℕ → ℕ → Entity
waiting_at n w j = entity (queue_index n w (wrapped n (head_of w + j))) (queue_version n w (wrapped n (head_of w + j)))

-- the model's entities, read off the part
unfoldable pub entities_of : ℕ → List ℕ → Entities
entities_of n w =
    record {
      live = table (len_of w) (entity_at w);
      recycled = table (recycled_len w) (waiting_at n w);
      issued = issued_of w;
    }

-- a part for n entities, whatever it holds
pub record EntityPartSized (n : ℕ) (w : List ℕ) : Type 0 where
  pub size : length w ≡ ENTITY_LEN * n
  pub some : 1 ≤ n
  pub small : n ≤ MAX_ENTITIES

-- 01, a sound store: live list and card lookups that agree; at most N issued numbers, from index 0 without gaps, every live or waiting index
-- among them; each issued number live, waiting once, or neither, with versions of 1 or more
pub record EntityPartSound (n : ℕ) (w : List ℕ) : Type 0 where
  pub sized : EntityPartSized n w
  pub few : issued_of w ≤ n
  pub linked : Linked n (len_of w) (live_index_at w) (live_version_at w) (place_of n w) (held_of n w)
  pub known : (i : ℕ) → i < len_of w → live_index_at w i < issued_of w
  pub queue : Queue n (issued_of w) (head_of w) (recycled_len w) (queue_index n w) (queue_version n w) (queue_slot n w) (held_of n w)

-- the part of the words that holds the entities
abbrev pub entity_part : ℕ → List ℕ → List ℕ
entity_part n w = between ENTITIES (ENTITIES + ENTITY_LEN * n) w

abbrev pub entities_in : ℕ → List ℕ → Entities
entities_in n w = entities_of n (entity_part n w)
