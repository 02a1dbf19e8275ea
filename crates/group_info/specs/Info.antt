-- What the functions on group infos do, by their numbers and the positions of their masks. Assumes nothing.
use Rattle.std.specs.Prelude.{◌≡◌, ◌≢◌, List, [], ◌∷◌, ℕ, ◌+◌, ◌-◌, ◌≤◌, ◌<◌, max, length, get_or, Option, Some, None}
use Rattle.model.specs.Numbers.{MAX_GROUP_ARITY, MAX_GROUP_COUNT}
use Rattle.words.specs.Offsets.{GROUP_PLACES}
use Rattle.masks.specs.Masks.{bits_of, up_from, union_of}
use Rattle.group_info.specs.declared.GroupInfo.{GroupInfo}
use Rattle.group_info.specs.declared.ViewGroupInfo.{ViewGroupInfo}
use Rattle.group_info.specs.declared.QueryGroupInfo.{QueryGroupInfo}
use Rattle.group_info.specs.declared.QueryGroupInfo.TheVariants as query
use Rattle.group_info.specs.declared.GroupRange.{GroupRange}

-- the places of its kinds in their family
abbrev pub places_of : GroupInfo → List ℕ
places_of i = bits_of 16 i.storage_mask.0

-- the info of one kind: its family's first group, its own group, its place
pub record KindInfo (start own place : ℕ) (r : GroupInfo) : Type 0 where
  pub first : r.group_start ≡ start
  pub last : r.group_end ≡ own + 1
  pub places : places_of r ≡ place ∷ []

-- ---- two infos together

-- both are of one family; r reaches up to the larger of their groups and has the places of both
pub record Joined (i j r : GroupInfo) : Type 0 where
  pub same : i.group_start ≡ j.group_start
  pub first : r.group_start ≡ i.group_start
  pub last : r.group_end ≡ max i.group_end j.group_end
  pub places : places_of r ≡ union_of 16 (places_of i) (places_of j)

-- none where they are of different families
abbrev pub JoinedBy : GroupInfo → GroupInfo → Option GroupInfo → Type 0
JoinedBy i j (Some r) = Joined i j r
JoinedBy i j None = i.group_start ≢ j.group_start

-- ---- a view more

-- the info of a query, if it has one
abbrev pub info_of : QueryGroupInfo → Option GroupInfo
info_of query.Empty = None
info_of (query.One v) = v.info
info_of (query.Many i) = Some i

-- both views have an info, and r is the two together
pub record Both (a b : Option GroupInfo) (r : GroupInfo) : Type 0 where
  pub left : GroupInfo
  pub right : GroupInfo
  pub is_left : a ≡ Some left
  pub is_right : b ≡ Some right
  pub joined : Joined left right r

-- a query of two views or more has the info of all; none where one view has none, or where two are of different families
abbrev pub BothAdded : Option GroupInfo → Option GroupInfo → Option QueryGroupInfo → Type 0
BothAdded a b (Some query.Empty) = ⊥
BothAdded a b (Some (query.One v)) = ⊥
BothAdded a b (Some (query.Many r)) = Both a b r
BothAdded a b None = (i j : GroupInfo) → a ≡ Some i → b ≡ Some j → i.group_start ≢ j.group_start

-- what a query is with the view v added
abbrev pub ViewAdded : QueryGroupInfo → ViewGroupInfo → Option QueryGroupInfo → Type 0
ViewAdded query.Empty v r = r ≡ Some (query.One v)
ViewAdded (query.One w) v r = BothAdded w.info v.info r
ViewAdded (query.Many i) v r = BothAdded (Some i) v.info r

-- ---- the range of an info

-- its groups stand in the arrays
pub record GroupsInside (ars : List ℕ) (i : GroupInfo) : Type 0 where
  pub low : i.group_start < i.group_end
  pub high : i.group_end ≤ MAX_GROUP_COUNT
  pub small : (g : ℕ) → i.group_start ≤ g → g < i.group_end → get_or ars g 0 ≤ MAX_GROUP_ARITY
  pub rising : (g : ℕ) → i.group_start < g → g < i.group_end → get_or ars (g - 1) 0 ≤ get_or ars g 0

-- so where there is an info
abbrev pub InsideFound : List ℕ → Option GroupInfo → Type 0
InsideFound ars (Some i) = GroupsInside ars i
InsideFound ars None = Unit {0}

-- the arrays of arities and counts, a number for each of 64 groups
pub record Tables (ars counts : List ℕ) : Type 0 where
  pub arities : length ars ≡ GROUP_PLACES
  pub counts_size : length counts ≡ GROUP_PLACES

-- the group that the info reaches up to: its arity and its count
pub record WholeGroup (ars counts : List ℕ) (i : GroupInfo) (a b : ℕ) : Type 0 where
  pub from : a ≡ 0
  pub to : b ≡ get_or counts (i.group_end - 1) 0
  pub places : places_of i ≡ up_from 0 (get_or ars (i.group_end - 1) 0)

-- "a hand equal to a group gives 0 to its count"; none where i is not equal to the group that it reaches up to
abbrev pub IncludeSays : List ℕ → List ℕ → GroupInfo → Option GroupRange → Type 0
IncludeSays ars counts i (Some r) = WholeGroup ars counts i r.start r.end
IncludeSays ars counts i None = places_of i ≡ up_from 0 (get_or ars (i.group_end - 1) 0) → ⊥

-- the largest group of the two infos
abbrev pub top_of : GroupInfo → GroupInfo → ℕ
top_of i e = max i.group_end e.group_end - 1

-- it is not its family's first; i has the places of the group before, and e those of its new kinds
pub record NextGroup (ars : List ℕ) (i e : GroupInfo) : Type 0 where
  pub same : i.group_start ≡ e.group_start
  pub later : i.group_start < top_of i e
  pub included : places_of i ≡ up_from 0 (get_or ars (top_of i e - 1) 0)
  pub excluded : places_of e ≡ up_from (get_or ars (top_of i e - 1) 0) (get_or ars (top_of i e) 0 - get_or ars (top_of i e - 1) 0)

-- "a hand equal to a group and a bar equal to the next larger group's ring give the larger's count to the hand's"
pub record NextGroupRange (ars counts : List ℕ) (i e : GroupInfo) (a b : ℕ) : Type 0 where
  pub next : NextGroup ars i e
  pub from : a ≡ get_or counts (top_of i e) 0
  pub to : b ≡ get_or counts (top_of i e - 1) 0

-- none otherwise
abbrev pub ExcludeSays : List ℕ → List ℕ → GroupInfo → GroupInfo → Option GroupRange → Type 0
ExcludeSays ars counts i e (Some r) = NextGroupRange ars counts i e r.start r.end
ExcludeSays ars counts i e None = NextGroup ars i e → ⊥

-- none too where the staged kinds or the excluded ones have no info
abbrev pub ExcludedSays : List ℕ → List ℕ → Option GroupInfo → Option GroupInfo → Option GroupRange → Type 0
ExcludedSays ars counts (Some i) (Some e) r = ExcludeSays ars counts i e r
ExcludedSays ars counts (Some i) None r = r ≡ None
ExcludedSays ars counts None e r = r ≡ None

-- "RANGE, bar empty": none for an empty hand, "0 to that column's length" for one kind, and by the groups for more
abbrev pub IncludedSays : List ℕ → List ℕ → QueryGroupInfo → Option GroupRange → Type 0
IncludedSays ars counts query.Empty r = r ≡ None
IncludedSays ars counts (query.One v) r = r ≡ Some (record { start = 0; end = v.len })
IncludedSays ars counts (query.Many i) r = IncludeSays ars counts i r

-- RANGE: q is the query of the staged kinds, and beside it stands that of the excluded ones
abbrev pub RangeBy : List ℕ → List ℕ → QueryGroupInfo → QueryGroupInfo → Option GroupRange → Type 0
RangeBy ars counts q query.Empty r = IncludedSays ars counts q r
RangeBy ars counts q (query.One v) r = ExcludedSays ars counts (info_of q) v.info r
RangeBy ars counts q (query.Many e) r = ExcludedSays ars counts (info_of q) (Some e) r
