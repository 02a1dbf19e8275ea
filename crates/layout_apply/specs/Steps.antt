-- What the steps leave that make the draft the layout in force. Assumes nothing.
use Rattle.std.specs.Prelude.{◌≡◌, List, [], ◌∷◌, ℕ, ◌+◌, ◌≤◌, ◌<◌, length, get_or, drop}
use Rattle.words.specs.Offsets.{BLOCK_LEN, CALLER, DRAFT, DRAFT_FAMILIES, DRAFT_GROUPS, ENTITIES, GROUP_COUNTS, GROUP_FAMILIES, GROUP_PLACES, LAYOUT, LAYOUT_ENDS, LAYOUT_FAMILIES, LAYOUT_GROUPS}
use Rattle.model.specs.Model.{set_layout}
use Rattle.model.specs.Store.{Store, with_draft, with_storage, with_control, with_layout}
use Rattle.words.specs.Stores.{stores}
use Rattle.layout.specs.Layout.{start_of}
use Rattle.layout.specs.Group.{InFamily}
use Rattle.memory.specs.Header.{draft_families, draft_groups, layout_families, layout_groups, group_family_at, count_at}
use Rattle.memory.specs.Meaning.{draft_arrays}

-- APPLY, before the live entities are walked: "draft becomes layout, draft emptied". A draft's counts are 0.
abbrev pub installed : Store → Store
installed m = with_control (with_storage m (with_layout m.storage m.control.draft)) (with_draft m.control [])

-- APPLY: "Applying a layout keeps every column's order, starts counts at 0 and walks live cards in live-list order."
abbrev pub applied : Store → Store
applied m = with_control (with_storage m (set_layout m.entities.live m.control.draft m.storage)) (with_draft m.control [])

-- ---- the header

-- v from a to e, and the other words as they were
pub record Filled (w : List ℕ) (a e v : ℕ) (w' : List ℕ) : Type 0 where
  pub size : length w' ≡ length w
  pub here : (i : ℕ) → a ≤ i → i < e → get_or w' i 0 ≡ v
  pub before : (i : ℕ) → i < a → get_or w' i 0 ≡ get_or w i 0
  pub after : (i : ℕ) → e ≤ i → get_or w' i 0 ≡ get_or w i 0

-- the first n words of the draft's block are the layout's
pub record Copied (w : List ℕ) (n : ℕ) (w' : List ℕ) : Type 0 where
  pub size : length w' ≡ length w
  pub here : (i : ℕ) → i < n → get_or w' (LAYOUT + i) 0 ≡ get_or w (DRAFT + i) 0
  pub before : (i : ℕ) → i < LAYOUT → get_or w' i 0 ≡ get_or w i 0
  pub after : (i : ℕ) → LAYOUT + n ≤ i → get_or w' i 0 ≡ get_or w i 0

-- the ends of the first n families' groups, as the layout's block has them, are no more than 64
pub record FamilyEndsAsk (w : List ℕ) (n : ℕ) : Type 0 where
  pub long : ENTITIES ≤ length w
  pub few : n ≤ GROUP_PLACES
  pub rising : (f : ℕ) → f < n → start_of (drop LAYOUT_ENDS w) f ≤ get_or w (LAYOUT_ENDS + f) 0
  pub most : (f : ℕ) → f < n → get_or w (LAYOUT_ENDS + f) 0 ≤ GROUP_PLACES

-- each group of the first n families has its family's number
pub record Numbered (w : List ℕ) (n : ℕ) (w' : List ℕ) : Type 0 where
  pub size : length w' ≡ length w
  pub here : (f g : ℕ) → f < n → start_of (drop LAYOUT_ENDS w) f ≤ g → g < get_or w (LAYOUT_ENDS + f) 0 → group_family_at w' g ≡ f
  pub before : (i : ℕ) → i < GROUP_FAMILIES → get_or w' i 0 ≡ get_or w i 0
  pub after : (i : ℕ) → GROUP_COUNTS ≤ i → get_or w' i 0 ≡ get_or w i 0

-- the draft's numbers of families and groups are the layout's, and those of the draft 0
abbrev pub switched : List ℕ → List ℕ
switched w = stores w ((LAYOUT_FAMILIES, get_or w DRAFT_FAMILIES 0) ∷ (LAYOUT_GROUPS, get_or w DRAFT_GROUPS 0) ∷ (DRAFT_FAMILIES, 0) ∷ (DRAFT_GROUPS, 0) ∷ [])

-- the draft is in the place of the layout in force, with its groups' families and no counts, and no draft is left; the other words are as they were
pub record Prepared (w w' : List ℕ) : Type 0 where
  pub size : length w' ≡ length w
  pub block : (i : ℕ) → i < BLOCK_LEN → get_or w' (LAYOUT + i) 0 ≡ get_or w (DRAFT + i) 0
  pub families : layout_families w' ≡ draft_families w
  pub groups : layout_groups w' ≡ draft_groups w
  pub family : (f g : ℕ) → InFamily (draft_arrays w) f g → group_family_at w' g ≡ f
  pub counts : (g : ℕ) → g < GROUP_PLACES → count_at w' g ≡ 0
  pub none : draft_families w' ≡ 0
  pub no_groups : draft_groups w' ≡ 0
  pub low : (i : ℕ) → i < DRAFT_FAMILIES → get_or w' i 0 ≡ get_or w i 0
  pub lists : (i : ℕ) → CALLER ≤ i → i < LAYOUT → get_or w' i 0 ≡ get_or w i 0
  pub rest : drop ENTITIES w' ≡ drop ENTITIES w
