-- What a change of one column, of the entity part, or of the header does to the meaning. Assumes nothing.
use mathlib.Core.Path.{◌≡◌, sym, ap, ◌∙◌, subst}
use mathlib.Core.List.{List, []}
use Prim.Native.Nat.{ℕ, ◌+◌, ◌*◌, ◌≤◌, ◌<◌}
use native.Mathlib.Omega.{arith}
use lib.Dec.{eqb}
use lib.ListN.{length, get_or, take, drop}
use Rattle.model.specs.Numbers.{CALLERS, LIST_CAPACITY, stride_of}
use Rattle.model.specs.Store.{Store}
use Rattle.memory.proofs.LayoutWords.{words_sized}
use Rattle.words.specs.Offsets.{BLOCK_LEN, CALLER, CAPACITY, DRAFT, DRAFT_FAMILIES, DRAFT_GROUPS, ENTITIES, EXCLUDED_KINDS, EXCLUDED_LEN, GROUP_COUNTS, GROUP_FAMILIES, KIND_CAPACITY, LAYOUT, LAYOUT_FAMILIES, LAYOUT_GROUPS, MORE_SETTINGS, NEWER, REFUSALS, REGISTERED, RULE, ROWS, STAGED_KINDS, STAGED_LEN, STAGED_VALUE_LEN, STAGED_VALUES, TABLE, VALUE_WIDTH}
use Rattle.words.proofs.Offsets.{column_start_mono, column_start_first}
use Rattle.words.specs.Part.{between}
use Rattle.values.proofs.Places.{run_same}
use Rattle.words.proofs.Part.{between_same}
use Rattle.words.specs.Table.{table}
use Rattle.words.proofs.Tables.{table_same}
use Rattle.words.specs.Shape.{shape_of}
use Rattle.values.specs.Values.{digits}
use Rattle.component.specs.Columns.{column_of}
use Rattle.entity.specs.Meaning.{entities_in}
use Rattle.layout.specs.Layout.{block_arrays, WellFormed, group_count, families_of}
use Rattle.layout.specs.ByValue.{ArraysSized}
use Rattle.memory.specs.Header.{capacity_of, kind_capacity_of, staged_len, excluded_len, draft_groups, refusals_at, value_bytes_of, excluded_at}
use Rattle.memory.specs.Meaning.{kinds_in, sets_in, draft_arrays, layout_arrays, draft_in, layout_in, staged_at, staged_in, excluded_in, counts_in, control_in, settings_of, meaning}
use Rattle.memory.specs.Arranged.{Arranged}
use Rattle.memory.proofs.Kept.{Kept}

-- ---- parts of the meaning, from the words that they are read from

module _ (w w' : List ℕ) (size : length w' ≡ length w) where
  pub part_same : (a e : ℕ) → e ≤ length w → ((i : ℕ) → a ≤ i → i < e → get_or w' i 0 ≡ get_or w i 0) → between a e w' ≡ between a e w
  part_same a e le same = between_same a e w w' le (omega arith) same

  block_same : (a f : ℕ) → a + BLOCK_LEN ≤ length w → get_or w' f 0 ≡ get_or w f 0 → ((i : ℕ) → a ≤ i → i < a + BLOCK_LEN → get_or w' i 0 ≡ get_or w i 0)
      → block_arrays (between a (a + BLOCK_LEN) w') (get_or w' f 0) ≡ block_arrays (between a (a + BLOCK_LEN) w) (get_or w f 0)
  block_same a f le e same = ap (λ (b : List ℕ). block_arrays b (get_or w' f 0)) (part_same a (a + BLOCK_LEN) le same) ∙ ap (block_arrays (between a (a + BLOCK_LEN) w)) e

  module _ (long : ENTITIES ≤ length w) where
    pub draft_arrays_same : get_or w' DRAFT_FAMILIES 0 ≡ get_or w DRAFT_FAMILIES 0 → ((i : ℕ) → DRAFT ≤ i → i < LAYOUT → get_or w' i 0 ≡ get_or w i 0) → draft_arrays w' ≡ draft_arrays w
    draft_arrays_same e same = block_same DRAFT DRAFT_FAMILIES (omega arith) e same

    pub layout_arrays_same : get_or w' LAYOUT_FAMILIES 0 ≡ get_or w LAYOUT_FAMILIES 0 → ((i : ℕ) → LAYOUT ≤ i → i < GROUP_FAMILIES → get_or w' i 0 ≡ get_or w i 0) → layout_arrays w' ≡ layout_arrays w
    layout_arrays_same e same = block_same LAYOUT LAYOUT_FAMILIES (omega arith) e same

    pub counts_same : ((i : ℕ) → GROUP_COUNTS ≤ i → i < ENTITIES → get_or w' i 0 ≡ get_or w i 0) → between GROUP_COUNTS ENTITIES w' ≡ between GROUP_COUNTS ENTITIES w
    counts_same same = part_same GROUP_COUNTS ENTITIES long same

  pub staged_same : Arranged w → value_bytes_of w' ≡ value_bytes_of w → get_or w' STAGED_LEN 0 ≡ get_or w STAGED_LEN 0 → ((i : ℕ) → STAGED_KINDS ≤ i → i < EXCLUDED_KINDS → get_or w' i 0 ≡ get_or w i 0)
      → staged_in w' ≡ staged_in w
  unfolding staged_in
  staged_same A width e same =
      let few = A.staged in
      let narrow = A.columns.shaped.words.most in
      ap (λ (n : ℕ). table n (staged_at w')) e
      ∙ table_same (record { kind = 0; value = 0 }) (staged_len w) (staged_at w) (staged_at w')
      (λ i h.
      let k = same (STAGED_KINDS + i) (omega arith) (omega arith) in
      let p = STAGED_VALUES + STAGED_VALUE_LEN * i in
      let v =
      ap (λ (d : ℕ). digits (take (stride_of d) (drop p w'))) width
      ∙ ap digits (run_same w w' p (shape_of w).stride size (λ j a b. same j (omega arith) (omega arith))) in
      λ t. record { kind = k t; value = v t })

  pub excluded_same : excluded_len w ≤ LIST_CAPACITY → get_or w' EXCLUDED_LEN 0 ≡ get_or w EXCLUDED_LEN 0 → ((i : ℕ) → EXCLUDED_KINDS ≤ i → i < DRAFT → get_or w' i 0 ≡ get_or w i 0) → excluded_in w' ≡ excluded_in w
  unfolding excluded_in
  excluded_same few e same =
      ap (λ (n : ℕ). table n (excluded_at w')) e
      ∙ table_same 0 (excluded_len w) (excluded_at w) (excluded_at w') (λ i h. same (EXCLUDED_KINDS + i) (omega arith) (omega arith))

-- the settings stay if their words do, and those that are kept for more of them
pub settings_kept : (w w' : List ℕ) → ((i : ℕ) → i < REGISTERED → get_or w' i 0 ≡ get_or w i 0) → ((i : ℕ) → MORE_SETTINGS ≤ i → i < REFUSALS → get_or w' i 0 ≡ get_or w i 0) → settings_of w' ≡ settings_of w
settings_kept w w' size more = λ j. record { capacity = size CAPACITY (omega arith) j; kind_capacity = size KIND_CAPACITY (omega arith) j; value_bytes = more VALUE_WIDTH (omega arith) (omega arith) j; newer = eqb (more RULE (omega arith) (omega arith) j) NEWER }

-- the counts stay if the words from the caller to the table of kinds do
pub counts_kept : (w w' : List ℕ) → ((i : ℕ) → CALLER ≤ i → i < TABLE → get_or w' i 0 ≡ get_or w i 0) → counts_in w' ≡ counts_in w
counts_kept w w' same =
    let c = same CALLER (omega arith) (omega arith) in
    let r = table_same 0 CALLERS (refusals_at w) (refusals_at w') (λ i h. same (REFUSALS + i) (omega arith) (omega arith)) in
    λ j. record { caller = c j; refusals = r j }

-- well-arranged words have a header
pub long : (w : List ℕ) → Arranged w → ENTITIES ≤ length w
long w A =
    omega (
      arith,
      A.enough,
      column_start_first (shape_of w),
      column_start_mono (shape_of w) 0 (kind_capacity_of w) (omega arith),
    )

pub layout_sized : (w : List ℕ) → Arranged w → ArraysSized (layout_arrays w)
layout_sized w A = words_sized w (long w A)

-- ---- the header below the counts as it was

pub control_parts : (w w' : List ℕ) → Arranged w → length w' ≡ length w → ((i : ℕ) → i < GROUP_COUNTS → get_or w' i 0 ≡ get_or w i 0) → control_in w' ≡ control_in w
unfolding draft_in
control_parts w w' A size same =
    let s = staged_same w w' size A (same VALUE_WIDTH (omega arith)) (same STAGED_LEN (omega arith)) (λ i a b. same i (omega arith)) in
    let e = excluded_same w w' size A.excluded (same EXCLUDED_LEN (omega arith)) (λ i a b. same i (omega arith)) in
    let d : draft_in w' ≡ draft_in w = ap (families_of []) (draft_arrays_same w w' size (long w A) (same DRAFT_FAMILIES (omega arith)) (λ i a b. same i (omega arith))) in
    let c = counts_kept w w' (λ i a b. same i (omega arith)) in
    λ i. record { staged = s i; excluded = e i; draft = d i; counts = c i }

-- ---- all of the header as it was

module _ (w w' : List ℕ) (A : Arranged w) (size : length w' ≡ length w) (same : (i : ℕ) → i < ENTITIES → get_or w' i 0 ≡ get_or w i 0) where
  pub control_same : control_in w' ≡ control_in w
  control_same = control_parts w w' A size (λ i h. same i (omega arith))

  pub layout_same : layout_in w' ≡ layout_in w
  unfolding layout_in
  layout_same =
      ap (λ (c : List ℕ). families_of c (layout_arrays w')) (counts_same w w' size (long w A) (λ i a b. same i (omega arith)))
      ∙ ap (families_of (between GROUP_COUNTS ENTITIES w)) (layout_arrays_same w w' size (long w A) (same LAYOUT_FAMILIES (omega arith)) (λ i a b. same i (omega arith)))

  pub header_kept : ((s : ℕ) → s < kind_capacity_of w → (i : ℕ) → 1 ≤ i → i < ROWS → get_or (column_of (shape_of w) s w') i 0 ≡ get_or (column_of (shape_of w) s w) i 0) → Kept w w'
  header_kept heads =
      record {
        size = size;
        settings = settings_kept w w' (λ i h. same i (omega arith)) (λ i a b. same i (omega arith));
        rule = same RULE (omega arith);
        registered = same REGISTERED (omega arith);
        slots = λ k h. same (TABLE + k) (omega arith);
        heads = heads;
        layout = layout_arrays_same w w' size (long w A) (same LAYOUT_FAMILIES (omega arith)) (λ i a b. same i (omega arith));
        groups = same LAYOUT_GROUPS (omega arith);
        families = λ g h. same (GROUP_FAMILIES + g) (omega arith);
      }

  pub draft_formed : WellFormed (draft_arrays w') × (draft_groups w' ≡ group_count (draft_arrays w'))
  draft_formed =
      let e : draft_arrays w ≡ draft_arrays w' = sym (draft_arrays_same w w' size (long w A) (same DRAFT_FAMILIES (omega arith)) (λ i a b. same i (omega arith))) in
      (subst WellFormed e A.draft, same DRAFT_GROUPS (omega arith) ∙ A.draft_count ∙ ap group_count e)

-- ---- what the words mean, part by part

-- each part of w reads as s has it; the entities, at the capacity of s
pub record Reads (w : List ℕ) (s : Store) : Type 0 where
  pub settings : settings_of w ≡ s.settings
  pub kinds : kinds_in w ≡ s.kinds
  pub entities : entities_in s.settings.capacity w ≡ s.entities
  pub sets : sets_in w ≡ s.storage.sets
  pub layout : layout_in w ≡ s.storage.layout
  pub control : control_in w ≡ s.control

pub reads_means : {w : List ℕ} {s : Store} → Reads w s → meaning w ≡ s
unfolding meaning
reads_means {w} {s} R =
    let settings = R.settings in
    let kinds = R.kinds in
    let entities : entities_in (capacity_of w) w ≡ s.entities = ap (λ (c : ℕ). entities_in c w) (λ i. (settings i).capacity) ∙ R.entities in
    let sets = R.sets in
    let layout = R.layout in
    let control = R.control in
    λ i. record { settings = settings i; kinds = kinds i; entities = entities i; storage = record { sets = sets i; layout = layout i }; control = control i }
