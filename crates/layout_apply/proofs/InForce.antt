-- The words as the steps leave them are well arranged, and mean the store with the draft in force. Assumes nothing.
use mathlib.Core.Path.{◌≡◌, refl, sym, ap, ◌∙◌, subst}
use mathlib.Core.Logic.{◌≢◌}
use mathlib.Core.List.{List, []}
use Prim.Native.Nat.{ℕ, ◌+◌, ◌*◌, ◌≤◌, ◌<◌}
use native.Mathlib.Omega.{arith}
use native.Mathlib.Decide.{dec_lt}
use borrow.Author.Tests.{ltb-true}
use lib.Dec.{ltb}
use lib.ListN.{length, get_or, drop, get_or-eq_default}
use lib.Seq.{ext_get_or}
use Rattle.model.specs.Numbers.{ENTITY_LEN, MAX_KINDS}
use Rattle.model.specs.Sound.{In, StoreSound}
use Rattle.model.proofs.BoolLaws.{bool_cases}
use Rattle.words.specs.Offsets.{BLOCK_LEN, CALLER, CAPACITY, COLUMN_KIND, DRAFT, DRAFT_FAMILIES, DRAFT_GROUPS, ENTITIES, EXCLUDED_LEN, GROUP_COUNTS, GROUP_FAMILIES, GROUP_PLACES, KIND_CAPACITY, LAYOUT, LAYOUT_FAMILIES, LAYOUT_GROUPS, OWN_GROUP, REGISTERED, RULE, STAGED_LEN, TABLE, UNREGISTERED, VALUE_WIDTH}
use Rattle.words.proofs.Offsets.{column_start_mono, column_start_first}
use Rattle.words.specs.Part.{between}
use Rattle.words.proofs.Part.{between_front, between_rest, length_between, get_d_between}
use Rattle.words.specs.Table.{table}
use Rattle.words.proofs.Tables.{table_same, table_none}
use Rattle.words.specs.Shape.{column_start, shape_of, shape}
use Rattle.words.specs.declared.Shape.{Shape}
use Rattle.component.specs.SparseSet.{rows}
use Rattle.component.specs.Columns.{column_of, rows_of, Columns}
use Rattle.component.proofs.Frames.{front_column, front_columns}
use Rattle.entity.specs.Meaning.{entity_part}
use Rattle.layout.specs.Layout.{Arrays, block_arrays, WellFormed, start_of, width_of, group_count, kinds_at, arities_at, family_at, families_of}
use Rattle.layout.specs.ByValue.{ArraysSized}
use Rattle.layout.specs.Group.{InFamily, arity_of}
use Rattle.layout.proofs.Arrays.{none_formed, layout_kinds_law, block_sized}
use Rattle.layout.proofs.Family.{groups_same}
use Rattle.layout.proofs.Groups.{spot}
use Rattle.memory.specs.Header.{capacity_of, kind_capacity_of, registered_of, layout_groups, slot_of, group_family_at, value_bytes_of}
use Rattle.memory.specs.Meaning.{kind_at, kinds_in, set_at, sets_in, draft_arrays, layout_arrays, draft_in, layout_in, meaning}
use Rattle.memory.specs.Arranged.{TableSound, GroupSound, LayoutSound, Arranged, Becomes}
use Rattle.memory.proofs.Frames.{staged_same, excluded_same, settings_kept, counts_kept, long, reads_means}
use Rattle.model.proofs.ListLaws.{drop_later}
use Rattle.kinds.proofs.Slot.{known_slot, known_small}
use Rattle.kinds.proofs.Clear.{fewer}
use Rattle.layout_apply.specs.Steps.{installed, Prepared}
use Rattle.layout_apply.specs.Heads.{Reheaded, Heads, ClearsHeads, Slotted, HeadsReady, place_no, Upto, HeadedUpto}
use Rattle.layout_apply.proofs.Arities.{kind_among, place_in}
use Rattle.layout_apply.proofs.HeadSteps.{word_same, registered_same, arrays_same, head_same, ready_kept, heads_then, upto_none}
use Rattle.entity.specs.Meaning as entity

-- ---- layouts without counts, and without families

uncounted : (counts : List ℕ) (a : Arrays) → ((g : ℕ) → get_or counts g 0 ≡ 0) → families_of counts a ≡ families_of [] a
uncounted counts a z =
    table_same [] a.families (family_at [] a) (family_at counts a) (λ f h. groups_same [] counts (start_of a.ends f) (kinds_at a f) 0 (arities_at a f) (λ g l u. z g))

-- ---- the header done

module _ (w₀ w₁ : List ℕ) (A : Arranged w₀) (M : StoreSound (meaning w₀)) (P : Prepared w₀ w₁) where
  abbrev n : ℕ
  n = capacity_of w₀

  abbrev z : Shape
  z = shape_of w₀

  abbrev k : ℕ
  k = kind_capacity_of w₀

  abbrev d : Arrays
  d = draft_arrays w₀

  shape₁ : shape_of w₁ ≡ z
  shape₁ = λ i. shape (P.low CAPACITY (omega arith) i) (P.lists VALUE_WIDTH (omega arith) (omega arith) i)

  kcap₁ : kind_capacity_of w₁ ≡ k
  kcap₁ = P.low KIND_CAPACITY (omega arith)

  reg₁ : registered_of w₁ ≡ registered_of w₀
  reg₁ = P.low REGISTERED (omega arith)

  slot₁ : (j : ℕ) → j < MAX_KINDS → slot_of w₁ j ≡ slot_of w₀ j
  slot₁ j h = P.lists (TABLE + j) (omega arith) (omega arith)

  rest₁ : drop (column_start z 0) w₁ ≡ drop (column_start z 0) w₀
  rest₁ = drop_later ENTITIES (column_start z 0) w₀ w₁ (omega (arith, column_start_first z)) P.rest

  column₁ : (s : ℕ) → column_of z s w₁ ≡ column_of z s w₀
  column₁ s = front_column z w₀ w₁ rest₁ s

  kind₁ : (s : ℕ) → kind_at w₁ s ≡ kind_at w₀ s
  kind₁ s = ap (λ (c : Shape). get_or (column_of c s w₁) COLUMN_KIND 0) shape₁ ∙ ap (λ (u : List ℕ). get_or u COLUMN_KIND 0) (column₁ s)

  block₁ : between LAYOUT GROUP_FAMILIES w₁ ≡ between DRAFT LAYOUT w₀
  block₁ =
      let l₁ : length (between LAYOUT GROUP_FAMILIES w₁) ≡ BLOCK_LEN = length_between LAYOUT GROUP_FAMILIES w₁ (omega (arith, P.size, long w₀ A)) in
      let l₀ : length (between DRAFT LAYOUT w₀) ≡ BLOCK_LEN = length_between DRAFT LAYOUT w₀ (omega (arith, long w₀ A)) in
      ext_get_or 0 (between LAYOUT GROUP_FAMILIES w₁) (between DRAFT LAYOUT w₀) (l₁ ∙ sym l₀)
      (λ i h. get_d_between LAYOUT GROUP_FAMILIES i w₁ 0 (omega arith) ∙ P.block i (omega arith) ∙ sym (get_d_between DRAFT LAYOUT i w₀ 0 (omega arith)))

  arrays₁ : layout_arrays w₁ ≡ d
  arrays₁ = ap (λ (b : List ℕ). block_arrays b (get_or w₁ LAYOUT_FAMILIES 0)) block₁ ∙ ap (block_arrays (between DRAFT LAYOUT w₀)) P.families

  sized₀ : ArraysSized d
  sized₀ = block_sized (between DRAFT LAYOUT w₀) (get_or w₀ DRAFT_FAMILIES 0) (length_between DRAFT LAYOUT w₀ (omega (arith, long w₀ A)))

  -- the draft's kinds are registered
  registered₀ : (p : ℕ) → p < width_of d → In (meaning w₀).kinds (get_or d.kinds p 0)
  unfolding meaning draft_in
  registered₀ p h =
      M.draft.known (get_or d.kinds p 0)
      (subst (λ (l : List ℕ). In l (get_or d.kinds p 0)) (sym (layout_kinds_law [] d A.draft sized₀)) (kind_among d A.draft sized₀ p h))

  slotted₁ : (p : ℕ) → p < width_of d → Slotted w₁ (get_or d.kinds p 0)
  slotted₁ p h =
      let j = get_or d.kinds p 0 in
      let i = registered₀ p h in
      let S = known_slot w₀ A j i in
      let small : j < MAX_KINDS = known_small w₀ A j i in
      record {
        small = small;
        slot = rw (slot₁ j small, reg₁) S.real;
        back = ap (kind_at w₁) (slot₁ j small) ∙ kind₁ (slot_of w₀ j) ∙ S.kind;
      }

  pub ready₁ : HeadsReady w₁
  ready₁ =
      record {
        long = omega (arith, P.size, long w₀ A);
        columns = rw (shape₁, kcap₁) (front_columns z w₀ w₁ rest₁ k P.size A.columns);
        few = rw (reg₁, kcap₁) A.table.few;
        formed = subst WellFormed (sym arrays₁) A.draft;
        known = subst (λ (a : Arrays). (p : ℕ) → p < width_of a → Slotted w₁ (get_or a.kinds p 0)) (sym arrays₁) slotted₁;
      }

  -- ---- the heads cleared

  module _ (c : Shape) (m : ℕ) (ec : c ≡ shape_of w₁) (em : m ≡ registered_of w₁) where
    pub clear_asks : Columns c m w₁
    clear_asks = rw (ec, em) (fewer (shape_of w₁) (registered_of w₁) (kind_capacity_of w₁) ready₁.few w₁ w₁ ready₁.columns)

    pub cleared : (w₂ : List ℕ) → ClearsHeads c m w₁ w₂ → ClearsHeads (shape_of w₁) (registered_of w₁) w₁ w₂
    cleared w₂ C = rw (ec, em) at C

  module _ (w₂ : List ℕ) (C : ClearsHeads (shape_of w₁) (registered_of w₁) w₁ w₂) where
    pub heads₂ : Heads w₁ w₂
    heads₂ = (C (kind_capacity_of w₁) ready₁.few ready₁.columns).heads

    pub ready₂ : HeadsReady w₂
    ready₂ = ready_kept w₁ w₂ ready₁ heads₂

    pub upto₂ : Upto w₂ 0
    upto₂ =
        upto_none w₂
        (λ s h. head_same w₁ w₂ ready₁ heads₂ s OWN_GROUP ∙ (C (kind_capacity_of w₁) ready₁.few ready₁.columns).none s (rw (registered_same w₁ w₂ ready₁ heads₂) at h))

  -- ---- the heads set

  module _ (w : List ℕ) (H : Heads w₁ w) (U : Upto w (width_of (layout_arrays w))) where
    ready : HeadsReady w
    ready = ready_kept w₁ w ready₁ H

    changed : Reheaded z k w₁ w
    changed = rw (shape₁, kcap₁) at H

    same : (i : ℕ) → i < ENTITIES → get_or w i 0 ≡ get_or w₁ i 0
    same i h = word_same w₁ w ready₁ H i h

    low : (i : ℕ) → i < DRAFT_FAMILIES → get_or w i 0 ≡ get_or w₀ i 0
    low i h = same i (omega arith) ∙ P.low i h

    lists : (i : ℕ) → CALLER ≤ i → i < LAYOUT → get_or w i 0 ≡ get_or w₀ i 0
    lists i a b = same i (omega arith) ∙ P.lists i a b

    size : length w ≡ length w₀
    size = H.size ∙ P.size

    cap : capacity_of w ≡ n
    cap = low CAPACITY (omega arith)

    width : value_bytes_of w ≡ value_bytes_of w₀
    width = lists VALUE_WIDTH (omega arith) (omega arith)

    shaped : shape_of w ≡ z
    shaped = λ i. shape (cap i) (width i)

    kcap : kind_capacity_of w ≡ k
    kcap = low KIND_CAPACITY (omega arith)

    reg : registered_of w ≡ registered_of w₀
    reg = low REGISTERED (omega arith)

    slot : (j : ℕ) → j < MAX_KINDS → slot_of w j ≡ slot_of w₀ j
    slot j h = lists (TABLE + j) (omega arith) (omega arith)

    kind : (s : ℕ) → s < registered_of w₀ → kind_at w s ≡ kind_at w₀ s
    kind s h =
        ap (λ (c : Shape). get_or (column_of c s w) COLUMN_KIND 0) shaped ∙ changed.kinds s (omega (arith, A.table.few)) ∙ ap (λ (u : List ℕ). get_or u COLUMN_KIND 0) (column₁ s)

    row : (s : ℕ) → s < k → rows_of z s w ≡ rows_of z s w₀
    row s h = changed.rows s h ∙ ap (rows z) (column₁ s)

    arrays : layout_arrays w ≡ d
    arrays = arrays_same w₁ w ready₁ H ∙ arrays₁

    sized : ArraysSized (layout_arrays w)
    sized = subst ArraysSized (sym arrays) sized₀

    table_sound : TableSound w
    table_sound =
        let T = A.table in
        record {
          few = ready.few;
          slot = λ j h ne. rw (slot j h, reg) (T.slot j h (λ e. ne (slot j h ∙ e)));
          back =
              λ j h ne.
              let ne₀ : slot_of w₀ j ≢ UNREGISTERED = λ e. ne (slot j h ∙ e) in
              ap (kind_at w) (slot j h) ∙ kind (slot_of w₀ j) (T.slot j h ne₀) ∙ T.back j h ne₀;
          small = λ s h. let h₀ : s < registered_of w₀ = rw reg at h in rw (kind s h₀) (T.small s h₀);
          own =
              λ s h.
              let h₀ : s < registered_of w₀ = rw reg at h in
              ap (slot_of w) (kind s h₀) ∙ slot (kind_at w₀ s) (T.small s h₀) ∙ T.own s h₀;
        }

    -- group g of family f
    group_sound : (f g : ℕ) → InFamily (layout_arrays w) f g → GroupSound w (layout_arrays w) g f
    group_sound f g G =
        let a = layout_arrays w in
        let inside : (j : ℕ) → j < arity_of a g → place_no a f j < width_of a = λ j h. place_in a ready.formed sized f g G j h in
        record {
          group = G;
          known = λ j h. let S = ready.known (place_no a f j) (inside j h) in record { small = S.small; slot = S.slot };
          own = λ j l h. (U.right f g j (record { group = G; from = l; to = h }) (inside j h)).own;
          local = λ j l h. (U.right f g j (record { group = G; from = l; to = h }) (inside j h)).local;
        }

    count : layout_groups w ≡ group_count (layout_arrays w)
    count = same LAYOUT_GROUPS (omega arith) ∙ P.groups ∙ A.draft_count ∙ sym (ap group_count arrays)

    groups : (g : ℕ) → g < layout_groups w → GroupSound w (layout_arrays w) g (group_family_at w g)
    groups g h =
        let a = layout_arrays w in
        let F = spot a.ends a.families g (omega (arith, count)) in
        let G : InFamily a F.number g = record { family = F.below; low = F.low; high = F.high } in
        let few : g < GROUP_PLACES = omega (arith, count, ready.formed.many) in
        let e : group_family_at w g ≡ F.number = same (GROUP_FAMILIES + g) (omega arith) ∙ P.family F.number g (subst (λ (b : Arrays). InFamily b F.number g) arrays G) in
        subst (GroupSound w a g) (sym e) (group_sound F.number g G)

    layout_sound : LayoutSound w
    layout_sound = record { formed = ready.formed; count = count; groups = groups; none = U.none }

    no_draft : get_or w DRAFT_FAMILIES 0 ≡ 0
    no_draft = same DRAFT_FAMILIES (omega arith) ∙ P.none

    entity_part_law : entity_part n w ≡ entity_part n w₀
    entity_part_law =
        between_front (column_start z 0) ENTITIES (ENTITIES + ENTITY_LEN * n) w₁ w (omega (arith, column_start_first z)) changed.front
        ∙ between_rest ENTITIES ENTITIES (ENTITIES + ENTITY_LEN * n) w₀ w₁ (omega arith) P.rest

    arranged : Arranged w
    arranged =
        record {
          limits = rw (cap, kcap, width) A.limits;
          enough = rw (shaped, kcap, size) A.enough;
          table = table_sound;
          entities = rw cap (subst (entity.EntityPartSound n) (sym entity_part_law) A.entities);
          columns = ready.columns;
          vacant =
              λ s l h.
              let l₀ : registered_of w₀ ≤ s = rw reg at l in
              let h₀ : s < k = rw kcap at h in
              rw shaped (row s h₀ ∙ A.vacant s l₀ h₀);
          staged = rw (low STAGED_LEN (omega arith)) A.staged;
          excluded = rw (low EXCLUDED_LEN (omega arith)) A.excluded;
          caller = rw (lists CALLER (omega arith) (omega arith)) A.caller;
          rule = rw (lists RULE (omega arith) (omega arith)) A.rule;
          draft = subst (λ (m : ℕ). WellFormed (block_arrays (between DRAFT LAYOUT w) m)) (sym no_draft) (none_formed (between DRAFT LAYOUT w));
          draft_count = same DRAFT_GROUPS (omega arith) ∙ P.no_groups ∙ sym (ap (λ (m : ℕ). group_count (block_arrays (between DRAFT LAYOUT w) m)) no_draft);
          layout = layout_sound;
        }

    -- ---- what the words mean

    kinds_same : kinds_in w ≡ kinds_in w₀
    unfolding kinds_in
    kinds_same = ap (λ (m : ℕ). table m (kind_at w)) reg ∙ table_same 0 (registered_of w₀) (kind_at w₀) (kind_at w) kind

    set_same : (j : ℕ) → j < MAX_KINDS → set_at w j ≡ set_at w₀ j
    set_same j h =
        rw (slot j h, reg, shaped)
        (bool_cases (ltb (slot_of w₀ j) (registered_of w₀))
        (λ t. rw (t, row (slot_of w₀ j) (omega (arith, ltb-true (slot_of w₀ j) (registered_of w₀) t, A.table.few))))
        (λ t. rw t))

    sets_same : sets_in w ≡ sets_in w₀
    unfolding sets_in
    sets_same = table_same [] MAX_KINDS (set_at w₀) (set_at w) set_same

    counts_none : (g : ℕ) → get_or (between GROUP_COUNTS ENTITIES w) g 0 ≡ 0
    counts_none g =
        elim (dec_lt g GROUP_PLACES) [
          | yes h ↦ get_d_between GROUP_COUNTS ENTITIES g w 0 (omega arith) ∙ same (GROUP_COUNTS + g) (omega arith) ∙ P.counts g h
          | no h ↦ get_or-eq_default (between GROUP_COUNTS ENTITIES w) 0 (omega (arith, length_between GROUP_COUNTS ENTITIES w (omega (arith, size, long w₀ A))))
        ]

    layout_is : layout_in w ≡ draft_in w₀
    unfolding layout_in draft_in
    layout_is = ap (families_of (between GROUP_COUNTS ENTITIES w)) arrays ∙ uncounted (between GROUP_COUNTS ENTITIES w) d counts_none

    draft_is : draft_in w ≡ []
    unfolding draft_in
    draft_is = ap (λ (m : ℕ). families_of [] (block_arrays (between DRAFT LAYOUT w) m)) no_draft ∙ table_none 0 (family_at [] (block_arrays (between DRAFT LAYOUT w) 0)) refl

    pub installed_becomes : Becomes w₀ w (installed (meaning w₀))
    unfolding meaning
    installed_becomes =
        let ds = draft_is in
        let st = staged_same w₀ w size A width (low STAGED_LEN (omega arith)) (λ i a b. lists i (omega arith) (omega arith)) in
        let ex = excluded_same w₀ w size A.excluded (low EXCLUDED_LEN (omega arith)) (λ i a b. lists i (omega arith) (omega arith)) in
        let cs = counts_kept w₀ w (λ i a b. lists i a (omega arith)) in
        record {
          arranged = arranged;
          means =
              reads_means
              (record {
                settings = settings_kept w₀ w (λ i h. low i (omega arith)) (λ i a b. lists i (omega arith) (omega arith));
                kinds = kinds_same;
                entities = ap (entity.entities_of n) entity_part_law;
                sets = sets_same;
                layout = layout_is;
                control = λ i. record { staged = st i; excluded = ex i; draft = ds i; counts = cs i };
              });
          size = size;
          past =
              changed.past
              ∙ drop_later ENTITIES (column_start z k) w₀ w₁ (omega (arith, column_start_first z, column_start_mono z 0 k (omega arith))) P.rest;
        }

  -- ---- all of it

  pub heads_set : (w₂ w : List ℕ) → ClearsHeads (shape_of w₁) (registered_of w₁) w₁ w₂ → HeadedUpto w₂ w (width_of (layout_arrays w₂)) → Becomes w₀ w (installed (meaning w₀))
  heads_set w₂ w C D =
      let H₂ = heads₂ w₂ C in
      let H = heads_then w₁ w₂ ready₁ H₂ w D.heads in
      let e : layout_arrays w₂ ≡ layout_arrays w = sym (arrays_same w₂ w (ready₂ w₂ C) D.heads) in
      installed_becomes w H (subst (λ (a : Arrays). Upto w (width_of a)) e D.upto)
