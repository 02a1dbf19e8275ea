-- The store's model: entities, sparse sets, families, and the operations on them as functions that compute. Assumes nothing.
-- A comment quotes the sentence of document 01 that its definition is; under GROUP also of 02's No. 1, under TRAY of its No. 4.
use Rattle.std.specs.Prelude.{Bool, true, false, cond, not, ◌&&◌, ◌||◌, List, [], ◌∷◌, ◌++◌, map, ℕ, zero, suc, ◌+◌, ◌-◌, eqb, leb, ltb, length, get_or, set, drop}
use Rattle.model.specs.Lists.{swap, place, cut_at}

-- ---- entities, rows, components, groups

-- "A card is an index and a version, 32 bits each."
pub record Entity : Type 0 where
  pub index : ℕ
  pub version : ℕ

abbrev pub entity : ℕ → ℕ → Entity
entity x v = record { index = x; version = v }

-- "A lookup finds a card only with equal version."
abbrev pub same_entity : Entity → Entity → Bool
same_entity a b = eqb a.index b.index && eqb a.version b.version

-- what a lookup past a list's end gives
abbrev pub no_entity : Entity
no_entity = record { index = 0; version = 0 }

-- one row of a column: "A column is a kind's dense list of cards with their values."
pub record Row : Type 0 where
  pub entity : Entity
  pub value : ℕ

abbrev pub no_row : Row
no_row = record { entity = no_entity; value = 0 }

-- "A part is a card's value of one kind, eight bytes."
pub record Component : Type 0 where
  pub kind : ℕ
  pub value : ℕ

-- "A group's ring is its kinds that the next smaller group lacks; for the smallest, all its kinds." new_kinds is the ring, count the group's count.
pub record Group : Type 0 where
  pub new_kinds : List ℕ
  pub count : ℕ

-- "a family is a chain of groups, each holding the one before": smallest group first. A group's kinds are its new kinds and those of the groups
-- before it, so that each holds the one before by construction.
abbrev pub Family : Type 0
Family = List Group

-- "A column is a kind's dense list of cards with their values. Places count from 0."
abbrev pub SparseSet : Type 0
SparseSet = List Row

-- ---- sets of kinds, as lists whose order says nothing

-- the kind is in the list
abbrev pub mem : ℕ → List ℕ → Bool
mem k [] = false
mem k (j ∷ ks) = eqb k j || mem k ks

-- p holds of each kind of the list
abbrev pub all_of : (ℕ → Bool) → List ℕ → Bool
all_of p [] = true
all_of p (k ∷ ks) = p k && all_of p ks

-- p holds of a kind of the list
abbrev pub any_of : (ℕ → Bool) → List ℕ → Bool
any_of p [] = false
any_of p (k ∷ ks) = p k || any_of p ks

-- ks has no kind that js lacks
abbrev pub within : List ℕ → List ℕ → Bool
within ks js = all_of (λ k. mem k js) ks

-- ks and js have a kind in common
abbrev pub meets : List ℕ → List ℕ → Bool
meets ks js = any_of (λ k. mem k js) ks

-- ks and js have the same kinds
abbrev pub same_set : List ℕ → List ℕ → Bool
same_set ks js = within ks js && within js ks

-- the kinds of ks that js lacks
abbrev pub without : List ℕ → List ℕ → List ℕ
without [] js = []
without (k ∷ ks) js = let r = without ks js in cond (mem k js) r (k ∷ r)

-- the kinds of ks that js has
abbrev pub common : List ℕ → List ℕ → List ℕ
common [] js = []
common (k ∷ ks) js = let r = common ks js in cond (mem k js) (k ∷ r) r

-- ---- sparse sets. The list of sparse sets has one for each of the 128 kinds, at the kind's place; an unregistered kind's is empty.

-- kind k's sparse set
abbrev pub set_of : List SparseSet → ℕ → SparseSet
set_of sets k = get_or sets k []

abbrev pub entity_of : Row → Entity
entity_of r = r.entity

-- the entities of a sparse set, in order
abbrev pub keys : SparseSet → List Entity
keys rows = map entity_of rows

-- the entity's place in the sparse set ("Places count from 0"), or the length where it has none
abbrev pub at : Entity → SparseSet → ℕ
at e rows = place same_entity e (keys rows)

-- the entity holds a component of the sparse set's kind
abbrev pub held : Entity → SparseSet → Bool
held e rows = ltb (at e rows) (length rows)

-- "Inserting a held kind replaces its value where it is, else appends."
abbrev pub insert_row : Entity → ℕ → SparseSet → SparseSet
insert_row e v rows =
    let replaced = set rows (at e rows) (record { entity = e; value = v }) in
    let appended = rows ++ (record { entity = e; value = v } ∷ []) in
    cond (held e rows) replaced appended

-- "Removal puts the last row in the gap."
abbrev pub remove_row : Entity → SparseSet → SparseSet
remove_row e rows =
    let gone = cut_at no_row (at e rows) rows in
    cond (held e rows) gone rows

-- "swapped to the place": the entity's row and that at place c change places
abbrev pub swap_to : Entity → ℕ → SparseSet → SparseSet
swap_to e c rows = swap no_row (at e rows) c rows

-- f at each sparse set whose kind is in ks; i is the kind of the list's first sparse set
abbrev pub map_on : List ℕ → (SparseSet → SparseSet) → ℕ → List SparseSet → List SparseSet
map_on ks f i [] = []
map_on ks f i (c ∷ cs) = let d = f c in cond (mem i ks) d c ∷ map_on ks f (suc i) cs

-- f at the sparse set of each kind of ks: "in every column of the group"
abbrev pub on_kinds : List ℕ → (SparseSet → SparseSet) → List SparseSet → List SparseSet
on_kinds ks f sets = map_on ks f 0 sets

-- ---- the group walks, of insertion and of removal

-- a family after a walk, and the sparse sets
pub record Walked : Type 0 where
  pub sets : List SparseSet
  pub groups : Family

-- one group after its step, and the sparse sets
pub record GroupStep : Type 0 where
  pub sets : List SparseSet
  pub group : Group

-- the first kind of the list
abbrev pub head_kind : List ℕ → ℕ
head_kind [] = 0
head_kind (k ∷ ks) = k

-- "a card inside": its place, in the sparse set of the group's first new kind, is below the count
abbrev pub is_grouped : Entity → Group → List SparseSet → Bool
is_grouped e r sets = ltb (at e (set_of sets (head_kind r.new_kinds))) r.count

-- the entity holds every kind of ks; where it does not, a kind is "missing"
abbrev pub all_held : Entity → List ℕ → List SparseSet → Bool
all_held e ks sets = all_of (λ k. held e (set_of sets k)) ks

-- "a card not yet inside is swapped to the place equal to the count, in every column of the group, and the count grows"; ks are the group's kinds
unfoldable pub group_components : Entity → List ℕ → Group → List SparseSet → GroupStep
group_components e ks r sets =
    let same : GroupStep = record { sets = sets; group = r } in
    let moved : GroupStep = record { sets = on_kinds ks (swap_to e r.count) sets; group = record { new_kinds = r.new_kinds; count = suc r.count } } in
    cond (is_grouped e r sets) same moved

-- "a card inside is swapped to the last counted place and the count falls"; ks are the group's kinds
unfoldable pub ungroup_components : Entity → List ℕ → Group → List SparseSet → GroupStep
ungroup_components e ks r sets =
    let same : GroupStep = record { sets = sets; group = r } in
    let moved : GroupStep = record { sets = on_kinds ks (swap_to e (r.count - 1)) sets; group = record { new_kinds = r.new_kinds; count = r.count - 1 } } in
    cond (is_grouped e r sets) moved same

-- Insertion: "the touched families' groups are walked upward. At the first group with a ring kind missing, the rest of that family is skipped."
-- acc are the kinds of the group before.
unfoldable pub group_family : Entity → List ℕ → List SparseSet → Family → Walked
group_family e acc sets [] = record { sets = sets; groups = [] }
group_family e acc sets (r ∷ rs) =
    let s = group_components e (acc ++ r.new_kinds) r sets in
    let w = group_family e (acc ++ r.new_kinds) s.sets rs in
    let on : Walked = record { sets = w.sets; groups = s.group ∷ w.groups } in
    let stop : Walked = record { sets = sets; groups = r ∷ rs } in
    cond (all_held e r.new_kinds sets) on stop

-- Removal: "the groups from each removed kind's own (the one whose ring has it ..) to the family's largest are walked downward, each group once".
-- Those are the groups that have a kind of gone, largest first; acc are the kinds of the group before.
unfoldable pub ungroup_family : Entity → List ℕ → List ℕ → List SparseSet → Family → Walked
ungroup_family e gone acc sets [] = record { sets = sets; groups = [] }
ungroup_family e gone acc sets (r ∷ rs) =
    let w = ungroup_family e gone (acc ++ r.new_kinds) sets rs in
    let s = ungroup_components e (acc ++ r.new_kinds) r w.sets in
    let left : Walked = record { sets = s.sets; groups = s.group ∷ w.groups } in
    let kept : Walked = record { sets = w.sets; groups = r ∷ w.groups } in
    cond (meets gone (acc ++ r.new_kinds)) left kept

-- the kinds of a family, which are those of its largest group
abbrev pub kinds_of : Family → List ℕ
kinds_of [] = []
kinds_of (r ∷ rs) = r.new_kinds ++ kinds_of rs

-- ---- components: the sparse sets and the layout

-- the sparse sets, and the layout in force: "A layout is families with no kind in common"
pub record Storage : Type 0 where
  pub sets : List SparseSet
  pub layout : List Family

-- "the touched families' groups are walked upward": each family that has a kind of ks
unfoldable pub group_touched : Entity → List ℕ → List SparseSet → List Family → Storage
group_touched e ks sets [] = record { sets = sets; layout = [] }
group_touched e ks sets (f ∷ fs) =
    let w = group_family e [] sets f in
    let p = group_touched e ks w.sets fs in
    let q = group_touched e ks sets fs in
    let on : Storage = record { sets = p.sets; layout = w.groups ∷ p.layout } in
    let off : Storage = record { sets = q.sets; layout = f ∷ q.layout } in
    cond (meets ks (kinds_of f)) on off

-- every family is walked downward; a family without a kind of gone has no group to leave
unfoldable pub ungroup : Entity → List ℕ → List SparseSet → List Family → Storage
ungroup e gone sets [] = record { sets = sets; layout = [] }
ungroup e gone sets (f ∷ fs) =
    let w = ungroup_family e gone [] sets f in
    let p = ungroup e gone w.sets fs in
    record { sets = p.sets; layout = w.groups ∷ p.layout }

-- "all parts go in"
abbrev pub insert_all : Entity → List Component → List SparseSet → List SparseSet
insert_all e [] sets = sets
insert_all e (p ∷ ps) sets = insert_all e ps (set sets p.kind (insert_row e p.value (set_of sets p.kind)))

-- a component's kind
abbrev pub kind_of : Component → ℕ
kind_of p = p.kind

-- "Insertion: all parts go in, then the touched families' groups are walked upward."
unfoldable pub insert_components : Entity → List Component → Storage → Storage
insert_components e staged s = group_touched e (map kind_of staged) (insert_all e staged s.sets) s.layout

-- "Removal: before any part goes, the groups .. are walked downward", then the parts of the kinds of gone go
unfoldable pub remove : Entity → List ℕ → Storage → Storage
remove e gone s =
    let p = ungroup e gone s.sets s.layout in
    record { sets = on_kinds gone (remove_row e) p.sets; layout = p.layout }

-- the group with no entity in it
abbrev pub zero_count : Group → Group
zero_count r = record { new_kinds = r.new_kinds; count = 0 }

-- WIPE: "all parts go, cards live on"; so no group has an entity left
unfoldable pub clear_all : Storage → Storage
clear_all s = record { sets = map (λ (c : SparseSet). []) s.sets; layout = map (map zero_count) s.layout }

-- every family is walked upward for one entity
unfoldable pub group_all : Entity → List SparseSet → List Family → Storage
group_all e sets [] = record { sets = sets; layout = [] }
group_all e sets (f ∷ fs) =
    let w = group_family e [] sets f in
    let p = group_all e w.sets fs in
    record { sets = p.sets; layout = w.groups ∷ p.layout }

-- "walks live cards in live-list order"
unfoldable pub regroup : List Entity → Storage → Storage
regroup [] s = s
regroup (e ∷ es) s = regroup es (group_all e s.sets s.layout)

-- "Applying a layout keeps every column's order, starts counts at 0 and walks live cards in live-list order."
unfoldable pub set_layout : List Entity → List Family → Storage → Storage
set_layout live draft s = regroup live (record { sets = s.sets; layout = map (map zero_count) draft })

-- ---- RANGE

-- a range found, from its start to its end ("Ends are excluded."), or none
pub data Range : Type 0 where
  none : Range
  found : ℕ → ℕ → Range

-- the first range found
abbrev pub first_range : Range → Range → Range
first_range none q = q
first_range (found a b) q = found a b

-- at the group that the hand is equal to, with count n and the larger groups rs: "a hand equal to a group gives 0 to its count"; "Bar not empty: a hand
-- equal to a group and a bar equal to the next larger group's ring give the larger's count to the hand's."
abbrev pub range_at : List ℕ → ℕ → Family → Range
range_at [] n rs = found 0 n
range_at (b ∷ bs) n [] = none
range_at (b ∷ bs) n (r ∷ rs) = cond (same_set (b ∷ bs) r.new_kinds) (found r.count n) none

-- "a hand equal to a group": looked for in a family; acc are the kinds of the group before
abbrev pub range_in : List ℕ → List ℕ → List ℕ → Family → Range
range_in staged excluded acc [] = none
range_in staged excluded acc (r ∷ rs) =
    let here = range_at excluded r.count rs in
    let later = range_in staged excluded (acc ++ r.new_kinds) rs in
    cond (same_set staged (acc ++ r.new_kinds)) here later

-- and in all families; "None otherwise."
abbrev pub range_all : List ℕ → List ℕ → List Family → Range
range_all staged excluded [] = none
range_all staged excluded (f ∷ fs) = first_range (range_in staged excluded [] f) (range_all staged excluded fs)

-- "bar empty: a hand of one kind"
abbrev pub single : List ℕ → List ℕ → Bool
single staged excluded = eqb (length staged) 1 && eqb (length excluded) 0

-- "RANGE, bar empty: a hand of one kind gives 0 to that column's length"; else by the groups
unfoldable pub range_for : List ℕ → List ℕ → Storage → Range
range_for staged excluded s =
    let one = found 0 (length (set_of s.sets (head_kind staged))) in
    let many = range_all staged excluded s.layout in
    cond (single staged excluded) one many

-- 02, No. 8: under the newer rule "RANGE with a bar finds something exactly where 01 does and the larger group's ring is one kind". 01 finds where the bar
-- is equal to that ring, and so it is one kind where the bar is (under_none in proofs/Rules.antt has the sentence)
abbrev pub range_under : Bool → List ℕ → List ℕ → Storage → Range
range_under newer staged excluded s = cond (newer && ltb 1 (length excluded)) none (range_for staged excluded s)

-- ---- GROUP: the draft layout

-- how many groups the layout has
abbrev pub groups_of : List Family → ℕ
groups_of [] = 0
groups_of (f ∷ fs) = length f + groups_of fs

-- ks is equal to a group of the family; acc are the kinds of the group before
abbrev pub is_group : List ℕ → List ℕ → Family → Bool
is_group ks acc [] = false
is_group ks acc (r ∷ rs) = same_set ks (acc ++ r.new_kinds) || is_group ks (acc ++ r.new_kinds) rs

-- "equal to one present"
abbrev pub present : List ℕ → List Family → Bool
present ks [] = false
present ks (f ∷ fs) = is_group ks [] f || present ks fs

-- how many families share a kind with ks: "shares kinds with one family at most" is 0 or 1
abbrev pub touched : List ℕ → List Family → ℕ
touched ks [] = 0
touched ks (f ∷ fs) = cond (meets ks (kinds_of f)) (suc (touched ks fs)) (touched ks fs)

-- one of the two holds the other
abbrev pub nested : List ℕ → List ℕ → Bool
nested ks js = within ks js || within js ks

-- "all groups of that family, with it, are a chain"; acc are the kinds of the group before
abbrev pub chains : List ℕ → List ℕ → Family → Bool
chains ks acc [] = true
chains ks acc (r ∷ rs) = nested (acc ++ r.new_kinds) ks && chains ks (acc ++ r.new_kinds) rs

-- and so for each family that it shares a kind with
abbrev pub chained : List ℕ → List Family → Bool
chained ks [] = true
chained ks (f ∷ fs) = (not (meets ks (kinds_of f)) || chains ks [] f) && chained ks fs

-- a group of no entity yet, with ks for its ring
abbrev pub new_group : List ℕ → Group
new_group ks = record { new_kinds = ks; count = 0 }

-- "it may go below, between or above": behind the groups that it holds, before those that hold it. Its ring is its kinds that the group before lacks, and
-- in the ring of the group after it stay the kinds that it lacks; acc are the kinds of the group before
abbrev pub family_with : List ℕ → List ℕ → Family → Family
family_with ks acc [] = new_group (without ks acc) ∷ []
family_with ks acc (r ∷ rs) =
    let further = r ∷ family_with ks (acc ++ r.new_kinds) rs in
    let here = new_group (common r.new_kinds ks) ∷ record { new_kinds = without r.new_kinds ks; count = r.count } ∷ rs in
    cond (within (acc ++ r.new_kinds) ks) further here

-- each family that ks shares a kind with gets the group
abbrev pub families_with : List ℕ → List Family → List Family
families_with ks [] = []
families_with ks (f ∷ fs) = cond (meets ks (kinds_of f)) (family_with ks [] f) f ∷ families_with ks fs

-- "A new group of fewer than two kinds, or equal to one present, adds nothing."
abbrev pub adds_nothing : List ℕ → List Family → Bool
adds_nothing ks fs = ltb (length ks) 2 || present ks fs

-- 02, No. 1: "A group is to be added whenever it shares kinds with one family at most and all groups of that family, with it, are a chain"
abbrev pub joins : List ℕ → List Family → Bool
joins ks fs = leb (touched ks fs) 1 && chained ks fs

-- the draft with the group added: a family of its own, or in its place in the family that it shares kinds with
abbrev pub with_group : List ℕ → List Family → List Family
with_group ks fs =
    let own = fs ++ ((new_group ks ∷ []) ∷ []) in
    let joined = families_with ks fs in
    cond (eqb (touched ks fs) 0) own joined

-- ---- entities

-- the live list, the waiting numbers (longest waiting first), and how many numbers are issued ("from index 0 without gaps")
pub record Entities : Type 0 where
  pub live : List Entity
  pub recycled : List Entity
  pub issued : ℕ

-- "no number issued"
abbrev pub no_entities : Entities
no_entities = record { live = []; recycled = []; issued = 0 }

-- a new entity, and the entities with it
pub record Created : Type 0 where
  pub entity : Entity
  pub entities : Entities

-- "4,294,967,295 has no next."
abbrev pub last_version : ℕ
last_version = 4294967295

-- "A new card takes the longest waiting number, else the next index at version 1, and joins the live list at its end"
abbrev pub create_with : List Entity → Entities → Created
create_with [] s =
    let e : Entity = record { index = s.issued; version = 1 } in
    record { entity = e; entities = record { live = s.live ++ (e ∷ []); recycled = []; issued = suc s.issued } }
create_with (e ∷ es) s = record { entity = e; entities = record { live = s.live ++ (e ∷ []); recycled = es; issued = s.issued } }

-- the same, by the store's own waiting numbers
unfoldable pub create : Entities → Created
create s = create_with s.recycled s

-- where there is no number for a new entity, FULL: "none waiting, N issued"
abbrev pub is_full : ℕ → Entities → Bool
is_full n s = eqb (length s.recycled) 0 && leb n s.issued

-- the entity is in the live list; where it is not, DEAD
abbrev pub is_live : Entity → Entities → Bool
is_live e s = ltb (place same_entity e s.live) (length s.live)

-- "when a card is destroyed, the list's last takes its place there. A destroyed one waits with its version plus one, or is retired if there is none."
unfoldable pub destroy : Entity → Entities → Entities
destroy e s =
    let next = s.recycled ++ (record { index = e.index; version = suc e.version } ∷ []) in
    record { live = cut_at no_entity (place same_entity e s.live) s.live; recycled = cond (ltb e.version last_version) next s.recycled; issued = s.issued }

-- ---- TRAY: many new entities

-- "the numbers waiting and those not yet issued .. together"; a retired one is neither
abbrev pub free_numbers : ℕ → Entities → ℕ
free_numbers n s = length s.recycled + (n - s.issued)

-- entities and components, once new ones have come
pub record Extended : Type 0 where
  pub entities : Entities
  pub storage : Storage

-- "all insertions first": n new entities, each with the staged components, and no group is walked
unfoldable pub create_each : ℕ → List Component → Entities → Storage → Extended
create_each zero staged s p = record { entities = s; storage = p }
create_each (suc n) staged s p =
    let c = create s in
    create_each n staged c.entities (record { sets = insert_all c.entity staged p.sets; layout = p.layout })

-- "then grouping": the entities in their order; ks are the kinds that went in
unfoldable pub group_each : List Entity → List ℕ → Storage → Storage
group_each [] ks p = p
group_each (e ∷ es) ks p = group_each es ks (group_touched e ks p.sets p.layout)

-- "creates that many cards with the hand's parts, as `extend` does: all insertions first, then grouping". The new ones are the last of the live list.
unfoldable pub extend : ℕ → List Component → Entities → Storage → Extended
extend n staged s p =
    let x = create_each n staged s p in
    record { entities = x.entities; storage = group_each (drop (length s.live) x.entities.live) (map kind_of staged) x.storage }
