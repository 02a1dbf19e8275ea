-- Where a list of kinds stands in the words, and which list of the store it is. Assumes nothing.
use Rattle.std.specs.Prelude.{◌≡◌, List, ℕ, ◌+◌, ◌≤◌, ◌<◌, get_or}
use Rattle.model.specs.Numbers.{LIST_CAPACITY}
use Rattle.model.specs.Sound.{In, StoreSound}
use Rattle.model.specs.Store.{Store}
use Rattle.words.specs.Offsets.{ENTITIES}
use Rattle.words.specs.Part.{between}
use Rattle.memory.specs.Meaning.{meaning}
use Rattle.memory.specs.Arranged.{Arranged}

-- the word len counts the list's kinds, which stand one after another from the word first on; a sound store has registered them
pub record KeptAt (len first : ℕ) (kinds : Store → List ℕ) (count : Store → ℕ) : Type 0 where
  pub counted : (w : List ℕ) → Arranged w → count (meaning w) ≡ get_or w len 0
  pub few : (w : List ℕ) → Arranged w → get_or w len 0 ≤ LIST_CAPACITY
  pub read : (w : List ℕ) → Arranged w → kinds (meaning w) ≡ between first (first + get_or w len 0) w
  pub before : len < first
  pub inside : first + LIST_CAPACITY ≤ ENTITIES
  pub known : (s : Store) → StoreSound s → (k : ℕ) → In (kinds s) k → In s.kinds k
