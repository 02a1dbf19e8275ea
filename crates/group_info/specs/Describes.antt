-- What a query info says of a list of kinds, over a well-formed layout, and that the range found is the model's RANGE. Assumes nothing.
use Rattle.std.specs.Prelude.{◌≡◌, true, false, ◌&&◌, List, [], ◌∷◌, ℕ, ◌+◌, ◌≤◌, ◌<◌, ltb, length, get_or, take, Option, Some, None}
use Rattle.model.specs.Model.{Storage, Range, none, found, mem, within, set_of, range_for}
use Rattle.masks.specs.Masks.{has}
use Rattle.layout.specs.Layout.{Arrays, start_of, kinds_at, arities_at, families_of, WellFormed}
use Rattle.layout.specs.ByValue.{ArraysSized}
use Rattle.group_info.specs.declared.GroupInfo.{GroupInfo}
use Rattle.group_info.specs.declared.ViewGroupInfo.{ViewGroupInfo}
use Rattle.group_info.specs.declared.QueryGroupInfo.{QueryGroupInfo}
use Rattle.group_info.specs.declared.QueryGroupInfo.TheVariants as query
use Rattle.group_info.specs.declared.GroupRange.{GroupRange}
use Rattle.group_info.specs.Info.{places_of}

-- kind k is at a place of family f, among the new kinds of the family's group number own
pub record Placed (a : Arrays) (k f own place : ℕ) : Type 0 where
  pub inside : f < a.families
  pub group : own < length (arities_at a f)
  pub before : start_of (arities_at a f) own ≤ place
  pub below : place < get_or (arities_at a f) own 0
  pub kind : get_or (kinds_at a f) place 0 ≡ k

-- the info of kinds of family f: own is the largest of their own groups, counted in the family, and top a kind of that group
pub record InfoOfKinds (a : Arrays) (f : ℕ) (hs : List ℕ) (i : GroupInfo) : Type 0 where
  pub own : ℕ
  pub top : ℕ
  pub inside : f < a.families
  pub group : own < length (arities_at a f)
  pub first : i.group_start ≡ start_of a.ends f
  pub last : i.group_end ≡ start_of a.ends f + own + 1
  pub below : (k : ℕ) → mem k hs ≡ true → mem k (take (get_or (arities_at a f) own 0) (kinds_at a f)) ≡ true
  pub top_in : mem top hs ≡ true
  pub top_new : mem top (take (start_of (arities_at a f) own) (kinds_at a f)) ≡ false
  pub places : (p : ℕ) → p < 16 → has p (places_of i) ≡ (ltb p (length (kinds_at a f)) && mem (get_or (kinds_at a f) p 0) hs)

pub record GroupedKinds (a : Arrays) (hs : List ℕ) (i : GroupInfo) : Type 0 where
  pub family : ℕ
  pub kinds : InfoOfKinds a family hs i

-- no family has the kind
abbrev pub Ungrouped : Arrays → ℕ → Type 0
Ungrouped a k = (f : ℕ) → f < a.families → mem k (kinds_at a f) ≡ false

abbrev pub InfoOfKind : Arrays → ℕ → Option GroupInfo → Type 0
InfoOfKind a k (Some i) = GroupedKinds a (k ∷ []) i
InfoOfKind a k None = Ungrouped a k

-- the view of a kind: the length of its sparse set, and its group info
pub record ViewOf (a : Arrays) (s : Storage) (k : ℕ) (v : ViewGroupInfo) : Type 0 where
  pub long : v.len ≡ length (set_of s.sets k)
  pub grouping : InfoOfKind a k v.info

pub record OneKind (a : Arrays) (s : Storage) (hs : List ℕ) (v : ViewGroupInfo) : Type 0 where
  pub kind : ℕ
  pub alone : hs ≡ kind ∷ []
  pub view : ViewOf a s kind v

pub record ManyKinds (a : Arrays) (hs : List ℕ) (i : GroupInfo) : Type 0 where
  pub many : 2 ≤ length hs
  pub grouped : GroupedKinds a hs i

abbrev pub DescribesQuery : Arrays → Storage → List ℕ → QueryGroupInfo → Type 0
DescribesQuery a s hs query.Empty = hs ≡ []
DescribesQuery a s hs (query.One v) = OneKind a s hs v
DescribesQuery a s hs (query.Many i) = ManyKinds a hs i

-- two kinds or more that no family holds: where adding a view answers nothing
pub record Scattered (a : Arrays) (hs : List ℕ) : Type 0 where
  pub many : 2 ≤ length hs
  pub nowhere : (f : ℕ) → f < a.families → within hs (kinds_at a f) ≡ false

-- the model's range for the answer (01: 1 byte found, start, end; zeros if none)
abbrev pub range_of : Option GroupRange → Range
range_of (Some r) = found r.start r.end
range_of None = none

-- a layout in force with its arities and counts, and queries that describe hand and bar
pub record RangeQuery (ars counts : List ℕ) (include exclude : QueryGroupInfo) : Type 0 where
  pub arrays : Arrays
  pub storage : Storage
  pub staged : List ℕ
  pub excluded : List ℕ
  pub good : WellFormed arrays
  pub sized : ArraysSized arrays
  pub arities : arrays.arities ≡ ars
  pub layout : storage.layout ≡ families_of counts arrays
  pub included : DescribesQuery arrays storage staged include
  pub excludes : DescribesQuery arrays storage excluded exclude

abbrev pub RangeSays : List ℕ → List ℕ → QueryGroupInfo → QueryGroupInfo → Option GroupRange → Type 0
RangeSays ars counts include exclude r = (q : RangeQuery ars counts include exclude) → range_of r ≡ range_for q.staged q.excluded q.storage
