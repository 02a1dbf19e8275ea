-- What RANGE and *column* show together, over the words: the answer's ten bytes, and the columns of the hand's kinds from the start to the end that those
-- bytes tell. Assumes nothing.
use Rattle.std.specs.Prelude.{◌≡◌, ◌↔◌, List, ℕ, ◌+◌, ◌*◌, ◌-◌, ◌≤◌, length, get_or, take, drop}
use Rattle.std.proofs.Math.Option.{some}
use Rattle.model.specs.Numbers.{stride_of}
use Rattle.model.specs.Model.{Entity, set_of}
use Rattle.model.specs.Store.{Store, staged_kinds, with_control, empty_both}
use Rattle.model.specs.Run as model
use Rattle.model.specs.Snapshot.{value_at}
use Rattle.model.specs.Entries.{entity_words, value_words, part}
use Rattle.values.specs.Values.{digits}
use Rattle.model.specs.Sound.{cnt, In, key}
use Rattle.model.specs.Shown.{AllAndNone, described, ShowsNewer, found_in, start_in, end_in, RangeAnswer, Hold}
use Rattle.memory.specs.Meaning.{meaning}
use Rattle.memory.specs.Arranged.{Sound}
use Rattle.run.specs.declared.Ran.{Ran}

-- RANGE at a tape's end, behind commands whose run is x: the words w' that it leaves, its answers in the bytes o, which it leaves as o'
pub record RangeRan (x : model.Ran) (w' o o' : List ℕ) (r : Ran) : Type 0 where
  pub commands : r.commands ≡ x.commands + 1
  pub read : r.read ≡ x.read + 1
  pub written : r.written ≡ length x.bytes + 10
  pub before : take (length x.bytes) o' ≡ x.bytes
  pub rest : drop r.written o' ≡ drop r.written o
  pub sound : Sound w'
  -- "03 to 06, 09 and 0C, when accepted, empty the hand; 0C also the bar", and nothing else is changed
  pub store : meaning w' ≡ with_control x.store (empty_both x.store.control)
  -- the last ten bytes written tell of the hand and the bar as they were, of the store that is left, which knows all kinds of that hand
  pub answer : RangeAnswer (staged_kinds x.store) x.store.control.excluded (meaning w') (take 10 (drop (r.written - 10) o'))
  pub known : (k : ℕ) → In (staged_kinds x.store) k → In (meaning w').kinds k

-- 02, No. 8: what RANGE's ten bytes tell of a store under the newer rule, for its hand and its bar: found "exactly where 01 does and the larger group's
-- ring is one kind", and then, from start to end in each sparse set of the hand, "exactly the cards with all of the hand and none of the barred"
pub record NewerTold (s : Store) (bytes : List ℕ) : Type 0 where
  pub found : (found_in bytes ≡ 1) ↔ ShowsNewer (staged_kinds s) s.control.excluded s.storage.layout
  pub there : found_in bytes ≡ 1 → (k : ℕ) → In (staged_kinds s) k → (x : Entity)
      → (1 ≤ cnt x (part (start_in bytes) (end_in bytes) (key s.storage.sets k))) ↔ AllAndNone s.storage.sets s.entities.live (staged_kinds s) s.control.excluded x

-- column of kind k from a to e over words that mean the store s, with number n: the entities there, and the values that these entities hold
pub record ColumnsShown (s : Store) (k a e n : ℕ) (entities values : List ℕ) : Type 0 where
  pub number : n ≡ 0
  pub entities_are : entities ≡ entity_words (part a e (key s.storage.sets k))
  pub held : List ℕ
  pub values_are : values ≡ value_words (stride_of s.settings.value_bytes) held
  pub hold : Hold (set_of s.storage.sets k) (part a e (key s.storage.sets k)) held

-- row i of the two parts is of the entity x, with the value of kind k that x holds in the store s
pub record RowOf (s : Store) (x : Entity) (k i : ℕ) (entities values : List ℕ) : Type 0 where
  pub index : get_or entities (2 * i) 0 ≡ x.index
  pub version : get_or entities (2 * i + 1) 0 ≡ x.version
  pub value : value_at x (set_of s.storage.sets k) ≡ some (digits (take (stride_of s.settings.value_bytes) (drop (stride_of s.settings.value_bytes * i) values)))

-- rows i of the parts of kinds j and k are of one entity, which hand h and bar b describe
pub record OneEntity (s : Store) (h b : List ℕ) (j k i : ℕ) (entities values entities' values' : List ℕ) : Type 0 where
  pub entity : Entity
  pub among : 1 ≤ cnt entity (described s.settings.newer h b s.storage.sets s.entities.live)
  pub first : RowOf s entity j i entities values
  pub second : RowOf s entity k i entities' values'
