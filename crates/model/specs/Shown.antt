-- What RANGE shows, said of the entities and not of the search, under either rule: which of them the hand and the bar describe, where there is none,
-- and what its answer's bytes tell. Assumes nothing.
use Rattle.std.specs.Prelude.{◌≡◌, ◌↔◌, ◌⊎◌, Bool, true, false, cond, List, [], ◌∷◌, ◌++◌, map, ℕ, suc, ◌+◌, ◌≤◌, ◌<◌, length, take, drop, get_or, replicate}
use Rattle.std.proofs.Math.Option.{Option, some}
use Rattle.model.specs.Model.{Entity, SparseSet, Family, any_of, same_set, set_of, held, all_held, kinds_of, new_group}
use Rattle.model.specs.Store.{Store, bytes_of, number}
use Rattle.model.specs.Snapshot.{value_at}
use Rattle.model.specs.Sound.{cnt, In, key, holders}

-- ---- the entities that a hand h and a bar b describe

-- the entities of the list that lack one or more kinds of b
abbrev pub lacking : List ℕ → List SparseSet → List Entity → List Entity
lacking b sets [] = []
lacking b sets (e ∷ es) = let r = lacking b sets es in cond (all_held e b sets) r (e ∷ r)

-- the entities of the list that hold none of the kinds of b
abbrev pub lacking_all : List ℕ → List SparseSet → List Entity → List Entity
lacking_all b sets [] = []
lacking_all b sets (e ∷ es) = let r = lacking_all b sets es in cond (any_of (λ k. held e (set_of sets k)) b) r (e ∷ r)

-- x is live, "with all of the hand and none of the barred"
pub record AllAndNone (sets : List SparseSet) (live : List Entity) (h b : List ℕ) (x : Entity) : Type 0 where
  pub alive : 1 ≤ cnt x live
  pub all_staged : all_held x h sets ≡ true
  pub none_excluded : any_of (λ k. held x (set_of sets k)) b ≡ false

-- with no bar, those with all kinds of the hand; with a bar, by the older rule those with all of the hand that lack one or more of the barred, and by the
-- newer "the cards with all of the hand and none of the barred"
abbrev pub described : Bool → List ℕ → List ℕ → List SparseSet → List Entity → List Entity
described newer h [] sets live = holders h sets live
described false h (k ∷ b) sets live = lacking (k ∷ b) sets (holders h sets live)
described true h (k ∷ b) sets live = lacking_all (k ∷ b) sets (holders h sets live)

-- the range from a to e shows them: in each sparse set of the hand the places from a to e hold exactly those, once each, the same at the same place
pub record Showing (newer : Bool) (sets : List SparseSet) (live : List Entity) (h b : List ℕ) (a e : ℕ) : Type 0 where
  pub start : a + length (described newer h b sets live) ≡ e
  pub end : e ≡ length (holders h sets live)
  pub places : (k : ℕ) → In h k → e ≤ length (key sets k)
  pub aligned : (j k : ℕ) → In h j → In h k → drop a (take e (key sets j)) ≡ drop a (take e (key sets k))
  pub exact : (k : ℕ) → In h k → (x : Entity) → cnt x (drop a (take e (key sets k))) ≡ cnt x (described newer h b sets live)
  pub once : (k : ℕ) → In h k → (x : Entity) → cnt x (drop a (take e (key sets k))) ≤ 1

-- ---- where a range is found; "None otherwise."

-- "a hand equal to a group": the group at a place of a family of the layout
pub record EqualGroup (h : List ℕ) (fs : List Family) : Type 0 where
  pub family : ℕ
  pub group : ℕ
  pub there : group < length (get_or fs family [])
  pub equal : same_set h (kinds_of (take (suc group) (get_or fs family []))) ≡ true

-- "a bar equal to the next larger group's ring"
pub record EqualNewKinds (b : List ℕ) (f : Family) (group : ℕ) : Type 0 where
  pub there : suc group < length f
  pub equal : same_set b (get_or f (suc group) (new_group [])).new_kinds ≡ true

-- the three cases of 01
pub data Shows (h b : List ℕ) (fs : List Family) : Type 0 where
  -- "bar empty: a hand of one kind"
  one_kind : length h ≡ 1 → length b ≡ 0 → Shows h b fs
  -- "a hand equal to a group"
  a_group : length b ≡ 0 → EqualGroup h fs → Shows h b fs
  -- "Bar not empty: a hand equal to a group and a bar equal to the next larger group's ring"
  two_groups : 1 ≤ length b → (g : EqualGroup h fs) → EqualNewKinds b (get_or fs g.family []) g.group → Shows h b fs

-- 02, No. 8: "and the larger group's ring is one kind", where there is a bar
abbrev pub OneNewKind : (h b : List ℕ) (fs : List Family) → Shows h b fs → Type 0
OneNewKind h b fs (one_kind p q) = Unit {0}
OneNewKind h b fs (a_group p g) = Unit {0}
OneNewKind h b fs (two_groups p g e) = length (get_or (get_or fs g.family []) (suc g.group) (new_group [])).new_kinds ≡ 1

-- "Under the newer, RANGE with a bar finds something exactly where 01 does and the larger group's ring is one kind"
pub record ShowsNewer (h b : List ℕ) (fs : List Family) : Type 0 where
  pub shows : Shows h b fs
  pub one : OneNewKind h b fs shows

-- "Stores under the older rule keep 01's reading"
abbrev pub ShowsUnder : Bool → List ℕ → List ℕ → List Family → Type 0
ShowsUnder false h b fs = Shows h b fs
ShowsUnder true h b fs = ShowsNewer h b fs

-- ---- the answer's ten bytes: "answer after a 0 byte", "1 byte found, start 4, end 4 (zeros if none)"

abbrev pub found_in : List ℕ → ℕ
found_in bytes = get_or bytes 1 0

abbrev pub start_in : List ℕ → ℕ
start_in bytes = number (take 4 (drop 2 bytes))

abbrev pub end_in : List ℕ → ℕ
end_in bytes = number (take 4 (drop 6 bytes))

-- with hand h and bar b: found, start and end, or ten zeros; found exactly where the store's rule says so, and then start and end are those of the
-- entities described
pub record RangeAnswer (h b : List ℕ) (s : Store) (bytes : List ℕ) : Type 0 where
  pub size : length bytes ≡ 10
  pub either : (bytes ≡ 0 ∷ 1 ∷ bytes_of 4 (start_in bytes) ++ bytes_of 4 (end_in bytes)) ⊎ (bytes ≡ replicate 10 0)
  pub found : (found_in bytes ≡ 1) ↔ ShowsUnder s.settings.newer h b s.storage.layout
  pub shows : found_in bytes ≡ 1 → Showing s.settings.newer s.storage.sets s.entities.live h b (start_in bytes) (end_in bytes)

-- ---- the values that entities hold

-- looked up by the entity, not by the place: each of these entities holds the value that stands at its place among vs
abbrev pub Hold : SparseSet → List Entity → List ℕ → Type 0
Hold rows es vs = map (λ (x : Entity). value_at x rows) es ≡ map {B = Option ℕ} some vs
