-- When a store of the model is sound: 01's paragraph "A sound store has ..", clause by clause. Assumes nothing.
-- Three clauses are of words alone ("enough words for them", "each with a column of its own", "lookups that agree") and stand where the words are read.
use Rattle.std.specs.Prelude.{◌≡◌, ◌⊎◌, true, false, cond, List, [], ◌∷◌, ◌++◌, map, ℕ, ◌+◌, ◌^◌, ◌≤◌, ◌<◌, eqb, length, take, drop, get_or}
use Rattle.model.specs.Numbers.{CALLERS, LAST_CALLER, LIST_CAPACITY, MAX_ENTITIES, MAX_GROUP_ARITY, MAX_GROUP_COUNT, MAX_KINDS, MAX_REFUSALS, VALUE_BYTES, LONG_VALUE_BYTES}
use Rattle.model.specs.Lists.{count_of}
use Rattle.model.specs.Model.{Entity, Entities, SparseSet, Component, Family, same_entity, no_row, mem, set_of, keys, kind_of, kinds_of, groups_of, all_held, last_version}
use Rattle.model.specs.Store.{Counts, Store}

-- ---- words for what follows

-- how often the entity stands in the list: 1 or more where it is in it, at most 1 where it is there once
abbrev pub cnt : Entity → List Entity → ℕ
cnt x l = count_of same_entity x l

-- an entity's index
abbrev pub index_of : Entity → ℕ
index_of e = e.index

-- how many entities of the list have index i
abbrev pub num : ℕ → List Entity → ℕ
num i l = count_of eqb i (map index_of l)

-- the kind is in the list
abbrev pub In : List ℕ → ℕ → Type 0
In ks k = mem k ks ≡ true

-- no kind stands twice in the list
abbrev pub Distinct : List ℕ → Type 0
Distinct ks = (k : ℕ) → count_of eqb k ks ≤ 1

-- the entities of kind k's sparse set, in order
abbrev pub key : List SparseSet → ℕ → List Entity
key sets k = keys (set_of sets k)

-- "A part is a card's value of one kind, eight bytes.", or sixteen: the value x is of v bytes
abbrev pub ValueFits : ℕ → ℕ → Type 0
ValueFits v x = x < 256 ^ v

-- what a lookup past the staged components gives
abbrev pub no_component : Component
no_component = record { kind = 0; value = 0 }

-- ---- "N and K within the limits of refusal 1": N from 1 to 4,096, K from 1 to 128. 02, No. 13: "part width 8 or 16, and a sound one has one of the two"

abbrev pub EightOrSixteen : ℕ → Type 0
EightOrSixteen v = (v ≡ VALUE_BYTES) ⊎ (v ≡ LONG_VALUE_BYTES)

pub record Limits (n k v : ℕ) : Type 0 where
  pub some : 1 ≤ n
  pub most : n ≤ MAX_ENTITIES
  pub some_kinds : 1 ≤ k
  pub most_kinds : k ≤ MAX_KINDS
  pub width : EightOrSixteen v

-- ---- "at most K registered kinds"; "A kind is a number 0 to 127."

pub record KindsSound (k : ℕ) (kinds : List ℕ) : Type 0 where
  pub few : length kinds ≤ k
  pub once : Distinct kinds
  pub small : (j : ℕ) → In kinds j → j < MAX_KINDS

-- ---- "at most N issued numbers, from index 0 without gaps, every live or waiting index among them; each issued number live, waiting once, or
-- neither, with versions of 1 or more". The last version is 4,294,967,295.

pub record EntitiesSound (n : ℕ) (c : Entities) : Type 0 where
  pub few : c.issued ≤ n
  pub below : (i : ℕ) → 1 ≤ num i c.live + num i c.recycled → i < c.issued
  pub single : (i : ℕ) → num i c.live + num i c.recycled ≤ 1
  pub positive : (x : Entity) → 1 ≤ cnt x c.live + cnt x c.recycled → 1 ≤ x.version
  pub small : (x : Entity) → 1 ≤ cnt x c.live + cnt x c.recycled → x.version ≤ last_version

-- ---- "columns holding live cards only, once each"; a kind that is not registered has no column, which is an empty one here; values are of v bytes

pub record SetsSound (v : ℕ) (kinds : List ℕ) (live : List Entity) (sets : List SparseSet) : Type 0 where
  pub wide : length sets ≡ MAX_KINDS
  pub bare : (k : ℕ) → mem k kinds ≡ false → set_of sets k ≡ []
  pub alive : (x : Entity) (k : ℕ) → 1 ≤ cnt x (key sets k) → 1 ≤ cnt x live
  pub once : (x : Entity) (k : ℕ) → cnt x (key sets k) ≤ 1
  pub values : (k j : ℕ) → ValueFits v (get_or (set_of sets k) j no_row).value

-- ---- "hand, bar .. of registered kinds, such as commands can build": "up to 16 distinct kinds with values", "up to 16 distinct kinds"

-- the staged components, with values of v bytes
pub record StagedSound (v : ℕ) (kinds : List ℕ) (staged : List Component) : Type 0 where
  pub few : length staged ≤ LIST_CAPACITY
  pub once : Distinct (map kind_of staged)
  pub known : (k : ℕ) → In (map kind_of staged) k → In kinds k
  pub values : (j : ℕ) → ValueFits v (get_or staged j no_component).value

-- the excluded kinds
pub record ExcludedSound (kinds excluded : List ℕ) : Type 0 where
  pub few : length excluded ≤ LIST_CAPACITY
  pub once : Distinct excluded
  pub known : (k : ℕ) → In excluded k → In kinds k

-- ---- 02, No. 7: "a sound one a caller of 0 to 15"; each of the sixteen counts "stays at 4,294,967,295"

pub record CountsSound (n : Counts) : Type 0 where
  pub caller : n.caller ≤ LAST_CALLER
  pub callers : length n.refusals ≡ CALLERS
  pub most : (c : ℕ) → get_or n.refusals c 0 ≤ MAX_REFUSALS

-- ---- "draft and layout of registered kinds, such as commands can build"

-- the kinds of all families, in order
abbrev pub layout_kinds : List Family → List ℕ
layout_kinds [] = []
layout_kinds (f ∷ fs) = kinds_of f ++ layout_kinds fs

-- each of these groups has a kind more than the group before: arities rise strictly
abbrev pub Rising : Family → Type 0
Rising [] = Unit {0}
Rising (r ∷ rs) = (1 ≤ length r.new_kinds) × Rising rs

-- a family's first group has two kinds or more, its last 16 or fewer
abbrev pub BuildableFamily : Family → Type 0
BuildableFamily [] = ⊥
BuildableFamily (r ∷ rs) = (2 ≤ length r.new_kinds) × Rising rs × (length (kinds_of (r ∷ rs)) ≤ MAX_GROUP_ARITY)

-- and each family is such
abbrev pub BuildableFamilies : List Family → Type 0
BuildableFamilies [] = Unit {0}
BuildableFamilies (f ∷ fs) = BuildableFamily f × BuildableFamilies fs

-- such families, "with no kind in common", "of registered kinds", and no more groups than refusal 15 lets in
pub record Buildable (kinds : List ℕ) (fs : List Family) : Type 0 where
  pub families : BuildableFamilies fs
  pub once : Distinct (layout_kinds fs)
  pub known : (k : ℕ) → In (layout_kinds fs) k → In kinds k
  pub few : groups_of fs ≤ MAX_GROUP_COUNT

-- a draft's groups count nothing yet
abbrev pub Uncounted : Family → Type 0
Uncounted [] = Unit {0}
Uncounted (r ∷ rs) = (r.count ≡ 0) × Uncounted rs

-- and so in each family
abbrev pub AllUncounted : List Family → Type 0
AllUncounted [] = Unit {0}
AllUncounted (f ∷ fs) = Uncounted f × AllUncounted fs

-- ---- "groups as demand 3 says"

-- the entities of the list that hold all kinds of g
abbrev pub holders : List ℕ → List SparseSet → List Entity → List Entity
holders g sets [] = []
holders g sets (e ∷ es) = let r = holders g sets es in cond (all_held e g sets) (e ∷ r) r

-- the group with kinds g and count c: c is the number of live entities that hold all its kinds, and the first c places of each of its sparse sets
-- hold exactly those entities, once each, the same entity at the same place
pub record Right (sets : List SparseSet) (live : List Entity) (g : List ℕ) (c : ℕ) : Type 0 where
  pub number : c ≡ length (holders g sets live)
  pub places : (k : ℕ) → In g k → c ≤ length (key sets k)
  pub aligned : (j k : ℕ) → In g j → In g k → take c (key sets j) ≡ take c (key sets k)
  pub exact : (k : ℕ) → In g k → (x : Entity) → cnt x (take c (key sets k)) ≡ cnt x (holders g sets live)
  pub once : (k : ℕ) → In g k → (x : Entity) → cnt x (take c (key sets k)) ≤ 1

-- of each group of a family, smallest first; acc are the kinds of the group before
abbrev pub RightFrom : List SparseSet → List Entity → List ℕ → Family → Type 0
RightFrom sets live acc [] = Unit {0}
RightFrom sets live acc (r ∷ rs) = Right sets live (acc ++ r.new_kinds) r.count × RightFrom sets live (acc ++ r.new_kinds) rs

-- of each group of each family
abbrev pub AllRight : List SparseSet → List Entity → List Family → Type 0
AllRight sets live [] = Unit {0}
AllRight sets live (f ∷ fs) = RightFrom sets live [] f × AllRight sets live fs

-- ---- the store

-- "A sound store", but for the three clauses of words
pub record StoreSound (s : Store) : Type 0 where
  pub limits : Limits s.settings.capacity s.settings.kind_capacity s.settings.value_bytes
  pub kinds : KindsSound s.settings.kind_capacity s.kinds
  pub entities : EntitiesSound s.settings.capacity s.entities
  pub sets : SetsSound s.settings.value_bytes s.kinds s.entities.live s.storage.sets
  pub staged : StagedSound s.settings.value_bytes s.kinds s.control.staged
  pub excluded : ExcludedSound s.kinds s.control.excluded
  pub draft : Buildable s.kinds s.control.draft
  pub uncounted : AllUncounted s.control.draft
  pub layout : Buildable s.kinds s.storage.layout
  pub groups : AllRight s.storage.sets s.entities.live s.storage.layout
  pub counts : CountsSound s.control.counts

-- ---- demand 3 of a store, for the theorems on runs

-- each group of the layout in force has the right count, and the right entities at the front of its sparse sets
abbrev pub GroupsRight : Store → Type 0
GroupsRight s = AllRight s.storage.sets s.entities.live s.storage.layout

-- a group of kinds g and count c, and the next larger of its family, with more besides and count d: its count is no smaller, and between the two
-- counts, in each of the smaller's sparse sets, stand exactly the entities with all kinds of the smaller that lack one or more of the larger
pub record Between (sets : List SparseSet) (live : List Entity) (g more : List ℕ) (c d : ℕ) : Type 0 where
  pub falls : d ≤ c
  pub exact : (k : ℕ) → In g k → (x : Entity) → cnt x (drop d (take c (key sets k))) + cnt x (holders (g ++ more) sets live) ≡ cnt x (holders g sets live)

-- of each two neighbours in a family; acc are the kinds of the group before
abbrev pub BetweenFrom : List SparseSet → List Entity → List ℕ → Family → Type 0
BetweenFrom sets live acc [] = Unit {0}
BetweenFrom sets live acc (r ∷ []) = Unit {0}
BetweenFrom sets live acc (r ∷ q ∷ rs) = Between sets live (acc ++ r.new_kinds) q.new_kinds r.count q.count × BetweenFrom sets live (acc ++ r.new_kinds) (q ∷ rs)

-- in each family
abbrev pub AllBetween : List SparseSet → List Entity → List Family → Type 0
AllBetween sets live [] = Unit {0}
AllBetween sets live (f ∷ fs) = BetweenFrom sets live [] f × AllBetween sets live fs

-- and in the layout in force
abbrev pub GroupsBetween : Store → Type 0
GroupsBetween s = AllBetween s.storage.sets s.entities.live s.storage.layout
