-- What a group's metadata says of the layout in force. Assumes nothing.
use Rattle.std.specs.Prelude.{◌≡◌, List, ℕ, ◌≤◌, ◌<◌, length}
use Rattle.model.specs.Numbers.{MAX_GROUP_COUNT}
use Rattle.model.specs.Model.{groups_of}
use Rattle.model.specs.Sound.{In, layout_kinds}
use Rattle.model.specs.Store.{Store}
use Rattle.words.specs.Part.{between}
use Rattle.layout.specs.declared.group_metadata.GroupMetadata.{GroupMetadata}
use Rattle.group.specs.Flat.{located}

-- the kinds of the layout in force, one family after another: the places of a group's metadata count in it
abbrev pub order_of : Store → List ℕ
order_of m = layout_kinds m.storage.layout

-- the places from start to end are there, and their kinds are registered
pub record PlacesKnown (m : Store) (start end : ℕ) : Type 0 where
  pub rising : start ≤ end
  pub within : end ≤ length (order_of m)
  pub known : (k : ℕ) → In (between start end (order_of m)) k → In m.kinds k

-- where group g's kinds and its new kinds (01: its ring) stand, and where its family's groups begin and end
pub record Describes (m : Store) (g : ℕ) (d : GroupMetadata) : Type 0 where
  pub kinds : between d.storage_start d.storage_end (order_of m) ≡ (located m.storage.layout g).kinds
  pub new_kinds : between d.new_storage_start d.storage_end (order_of m) ≡ (located m.storage.layout g).new_kinds
  pub first : d.first ≡ (located m.storage.layout g).first
  pub top : d.top ≡ (located m.storage.layout g).top
  pub low : d.storage_start ≤ d.new_storage_start
  pub some : d.new_storage_start < d.storage_end
  pub listed : PlacesKnown m d.storage_start d.storage_end
  pub few : d.top ≤ MAX_GROUP_COUNT

-- the metadata and the count of group g, as they were read
pub record Stands (m : Store) (g : ℕ) (d : GroupMetadata) (len : ℕ) : Type 0 where
  pub below : g < groups_of m.storage.layout
  pub metadata : Describes m g d
  pub counted : len ≡ (located m.storage.layout g).count
