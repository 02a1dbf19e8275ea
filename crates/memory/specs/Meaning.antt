-- The model's store, read off the lent words (docs/WORDS.md). Assumes nothing.
use Rattle.std.specs.Prelude.{cond, List, [], ℕ, ◌+◌, ltb, get_or, set}
use Rattle.model.specs.Numbers.{CALLERS, MAX_KINDS}
use Rattle.words.specs.Offsets.{COLUMN_KIND, DRAFT, ENTITIES, GROUP_COUNTS, GROUP_FAMILIES, LAYOUT, OWN_GROUP, PLACE_IN_FAMILY, REFUSALS}
use Rattle.model.specs.Model.{Component, SparseSet, Family, Storage}
use Rattle.model.specs.Store.{Counts, Control, Settings, Store, one_more}
use Rattle.words.specs.Table.{table}
use Rattle.words.specs.Part.{between}
use Rattle.words.specs.Shape.{shape_of}
use Rattle.component.specs.Columns.{column_of, rows_of}
use Rattle.entity.specs.Meaning.{entities_in}
use Rattle.layout.specs.Layout.{Arrays, block_arrays, families_of}
use Rattle.memory.specs.Header.{capacity_of, kind_capacity_of, registered_of, staged_len, excluded_len, draft_families, layout_families, caller_of, refusals_at, newer_of, value_bytes_of, slot_of, staged_kind_at, staged_value_at, excluded_at}

-- ---- kinds and their columns

-- the head of the column in slot s: its kind; its own group plus one, 0 where it is in none; its place among its family's kinds
abbrev pub kind_at : List ℕ → ℕ → ℕ
kind_at w s = get_or (column_of (shape_of w) s w) COLUMN_KIND 0

abbrev pub own_at : List ℕ → ℕ → ℕ
own_at w s = get_or (column_of (shape_of w) s w) OWN_GROUP 0

abbrev pub local_at : List ℕ → ℕ → ℕ
local_at w s = get_or (column_of (shape_of w) s w) PLACE_IN_FAMILY 0

-- the registered kinds, in the order of their slots
unfoldable pub kinds_in : List ℕ → List ℕ
kinds_in w = table (registered_of w) (kind_at w)

-- kind k's sparse set: the rows of its column, none where it is not registered
abbrev pub set_at : List ℕ → ℕ → SparseSet
set_at w k = cond (ltb (slot_of w k) (registered_of w)) (rows_of (shape_of w) (slot_of w k) w) []

unfoldable pub sets_in : List ℕ → List SparseSet
sets_in w = table MAX_KINDS (set_at w)

-- ---- layouts: a block of 320 words, and the counts of the groups in force

abbrev pub draft_arrays : List ℕ → Arrays
draft_arrays w = block_arrays (between DRAFT LAYOUT w) (draft_families w)

abbrev pub layout_arrays : List ℕ → Arrays
layout_arrays w = block_arrays (between LAYOUT GROUP_FAMILIES w) (layout_families w)

unfoldable pub draft_in : List ℕ → List Family
draft_in w = families_of [] (draft_arrays w)

unfoldable pub layout_in : List ℕ → List Family
layout_in w = families_of (between GROUP_COUNTS ENTITIES w) (layout_arrays w)

abbrev pub storage_in : List ℕ → Storage
storage_in w = record { sets = sets_in w; layout = layout_in w }

-- ---- what a run keeps besides

abbrev pub staged_at : List ℕ → ℕ → Component
staged_at w i = record { kind = staged_kind_at w i; value = staged_value_at w i }

unfoldable pub staged_in : List ℕ → List Component
staged_in w = table (staged_len w) (staged_at w)

unfoldable pub excluded_in : List ℕ → List ℕ
excluded_in w = table (excluded_len w) (excluded_at w)

-- of word 9, and of words 16 to 31
abbrev pub counts_in : List ℕ → Counts
counts_in w = record { caller = caller_of w; refusals = table CALLERS (refusals_at w) }

abbrev pub control_in : List ℕ → Control
control_in w = record { staged = staged_in w; excluded = excluded_in w; draft = draft_in w; counts = counts_in w }

-- ---- the store

-- of words 0, 1, 10 and 11
abbrev pub settings_of : List ℕ → Settings
settings_of w = record { capacity = capacity_of w; kind_capacity = kind_capacity_of w; value_bytes = value_bytes_of w; newer = newer_of w }

unfoldable pub meaning : List ℕ → Store
meaning w =
    record {
      settings = settings_of w;
      kinds = kinds_in w;
      entities = entities_in (capacity_of w) w;
      storage = storage_in w;
      control = control_in w;
    }

-- ---- "7 to 15 in a run .. add to the tally, change no other word", and so 19: the words with a refusal more of the caller

abbrev pub with_refusal : List ℕ → List ℕ
with_refusal w = set w (REFUSALS + caller_of w) (one_more (refusals_at w (caller_of w)))
