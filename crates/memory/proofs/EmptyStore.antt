-- Cleared words with a free table, N, K, the bytes of a value and the rule are the empty store. Assumes nothing.
use mathlib.Core.Path.{◌≡◌, refl, sym, ap, ◌∙◌, subst}
use mathlib.Core.Bool.{Bool, true, false}
use mathlib.Core.List.{List, [], ◌∷◌}
use Prim.Native.Nat.{ℕ, ◌+◌, ◌*◌, ◌≤◌, ◌<◌}
use native.Mathlib.Omega.{arith}
use mir.Val.{bool_byte}
use lib.Dec.{eqb}
use lib.ListN.{length, get_or, replicate, length-replicate, get_or-replicate}
use Rattle.model.specs.Numbers.{CALLERS, ENTITY_LEN, MAX_KINDS}
use Rattle.model.specs.Model.{Entities, SparseSet, no_entities}
use Rattle.model.specs.Store.{told, empty_with}
use Rattle.model.specs.Sound.{Limits}
use Rattle.words.specs.Offsets.{CALLER, CAPACITY, DRAFT, DRAFT_FAMILIES, DRAFT_GROUPS, ENTITIES, EXCLUDED_LEN, GROUP_COUNTS, GROUP_FAMILIES, KIND_CAPACITY, LAYOUT, LAYOUT_FAMILIES, LAYOUT_GROUPS, MORE_SETTINGS, NEWER, REFUSALS, REGISTERED, RULE, STAGED_KINDS, STAGED_LEN, TABLE, UNREGISTERED, VALUE_WIDTH}
use Rattle.words.proofs.Offsets.{column_start_mono, column_start_apart, shaped_of, column_start_first}
use Rattle.words.specs.Part.{between}
use Rattle.words.proofs.Part.{length_between, get_d_between}
use Rattle.words.specs.Table.{table}
use Rattle.words.proofs.Tables.{is_table, table_none}
use Rattle.words.specs.Stores.{stores}
use Rattle.words.proofs.Stores.{length_stores, miss, hit, drop_stores}
use Rattle.words.specs.declared.Shape.{Shape}
use Rattle.words.specs.Shape.{column_start, column_len, shape, shape_of, lookup_place}
use Rattle.component.specs.Columns.{Columns}
use Rattle.component.proofs.Fresh.{fresh_columns, fresh_rows}
use Rattle.entity.specs.Change.{EntitiesChanged}
use Rattle.entity.specs.Meaning.{entity_part}
use Rattle.entity.proofs.Zeros.{zeros_changed}
use Rattle.layout.specs.Layout.{block_arrays, WellFormed, group_count, families_of}
use Rattle.layout.proofs.Arrays.{none_formed}
use Rattle.memory.specs.Header.{capacity_of, kind_capacity_of, registered_of, caller_of, refusals_at, rule_of, newer_of, value_bytes_of, slot_of}
use Rattle.memory.specs.Meaning.{kind_at, kinds_in, set_at, sets_in, draft_in, layout_in, staged_at, staged_in, excluded_in, meaning}
use Rattle.memory.specs.Arranged.{TableSound, LayoutSound, Arranged}
use Rattle.memory.proofs.Frames.{reads_means}
use Rattle.model.proofs.ListLaws.{drop_later, word_rest}
use Rattle.memory.specs.Fresh.{Cleared, TableCleared, Made}

formed : (b : List ℕ) (n : ℕ) → n ≡ 0 → WellFormed (block_arrays b n)
formed b n e = subst (λ (k : ℕ). WellFormed (block_arrays b k)) (sym e) (none_formed b)

none_count : (b : List ℕ) (n : ℕ) → n ≡ 0 → group_count (block_arrays b n) ≡ 0
none_count b n e = ap (λ (k : ℕ). group_count (block_arrays b k)) e

no_families : (c b : List ℕ) (n : ℕ) → n ≡ 0 → families_of c (block_arrays b n) ≡ []
no_families c b n e = table_none n _ e

-- the rule's word: one of the two, and the rule that was told
few : (newer : Bool) → bool_byte newer ≤ NEWER
few true = omega arith
few false = omega arith

as_told : (newer : Bool) → eqb (bool_byte newer) NEWER ≡ newer
as_told true = refl
as_told false = refl

module _ (n k v : ℕ) (newer : Bool) (w w₁ w₂ : List ℕ) (L : Limits n k v) (enough : column_start (shape n v) k ≤ length w) (C : Cleared w (column_start (shape n v) k) w₁)
    (T : TableCleared w₁ MAX_KINDS w₂) where
  -- what a start is told, as its words
  abbrev settings : List (ℕ × ℕ)
  settings = (CAPACITY, n) ∷ (KIND_CAPACITY, k) ∷ (RULE, bool_byte newer) ∷ (VALUE_WIDTH, v) ∷ []

  abbrev w' : List ℕ
  w' = stores w₂ settings

  abbrev z : Shape
  z = shape n v

  abbrev end : ℕ
  end = column_start z k

  past_header : ENTITIES + ENTITY_LEN * n ≤ end
  past_header = omega (arith, column_start_first z, column_start_mono z 0 k (omega arith))

  size : length w' ≡ length w
  size = length_stores w₂ settings ∙ T.size ∙ C.size

  header : ENTITIES ≤ length w₂
  header = omega (arith, T.size, C.size, past_header, enough)

  low : (i : ℕ) → REGISTERED ≤ i → i < MORE_SETTINGS → get_or w' i 0 ≡ 0
  low i a b = miss w₂ settings i (omega arith) ∙ T.low i (omega arith) ∙ C.zero i (omega (arith, past_header))

  counts : (i : ℕ) → REFUSALS ≤ i → i < TABLE → get_or w' i 0 ≡ 0
  counts i a b = miss w₂ settings i (omega arith) ∙ T.low i b ∙ C.zero i (omega (arith, past_header))

  high : (i : ℕ) → STAGED_KINDS ≤ i → i < end → get_or w' i 0 ≡ 0
  high i a b = miss w₂ settings i (omega arith) ∙ word_rest STAGED_KINDS w₁ w₂ T.rest i a ∙ C.zero i b

  free : (j : ℕ) → j < MAX_KINDS → slot_of w' j ≡ UNREGISTERED
  free j h = miss w₂ settings (TABLE + j) (omega arith) ∙ T.free j h

  cap : capacity_of w' ≡ n
  cap = hit w₂ settings 0 CAPACITY n (omega arith) (omega (arith, header))

  kcap : kind_capacity_of w' ≡ k
  kcap = hit w₂ settings 1 KIND_CAPACITY k (omega arith) (omega (arith, header))

  rule : rule_of w' ≡ bool_byte newer
  rule = hit w₂ settings 2 RULE (bool_byte newer) (omega arith) (omega (arith, header))

  width : value_bytes_of w' ≡ v
  width = hit w₂ settings 3 VALUE_WIDTH v (omega arith) (omega (arith, header))

  shaped : shape_of w' ≡ z
  shaped = λ i. shape (cap i) (width i)

  none : registered_of w' ≡ 0
  none = low REGISTERED (omega arith) (omega arith)

  long : end ≤ length w'
  long = omega (arith, size, enough)

  entities : EntitiesChanged n (λ (s : Entities). no_entities) (entity_part n w') (entity_part n w')
  entities =
      let l : length (entity_part n w') ≡ ENTITY_LEN * n = length_between ENTITIES (ENTITIES + ENTITY_LEN * n) w' (omega (arith, long, past_header)) ∙ omega arith in
      zeros_changed n (entity_part n w') (entity_part n w')
      (record { size = l; some = L.some; small = L.most }) refl
      (λ i h. get_d_between ENTITIES (ENTITIES + ENTITY_LEN * n) i w' 0 (omega arith) ∙ high (ENTITIES + i) (omega arith) (omega (arith, past_header)))

  column_zero : (s : ℕ) → s < k → (i : ℕ) → i < column_len z → get_or w' (column_start z s + i) 0 ≡ 0
  column_zero s h i b = high (column_start z s + i) (omega (arith, column_start_first z, column_start_mono z 0 s (omega arith))) (omega (arith, column_start_apart z s k h))

  column_head : (s : ℕ) → s < k → get_or w' (column_start z s) 0 ≡ 0
  column_head s h = high (column_start z s) (omega (arith, column_start_first z, column_start_mono z 0 s (omega arith))) (omega (arith, column_start_apart z s k h))

  columns : Columns z k w'
  columns = fresh_columns z k w' (shaped_of n v L.most L.width) L.most_kinds long column_head (λ s x h hx. column_zero s h (lookup_place z x + 1) (omega arith))

  tables : TableSound w'
  tables =
      record {
        few = omega (arith, none);
        slot = λ j h ne. absurd (ne (free j h));
        back = λ j h ne. absurd (ne (free j h));
        small = λ s h. absurd (omega (arith, none));
        own = λ s h. absurd (omega (arith, none));
      }

  layouts : LayoutSound w'
  layouts =
      let f : get_or w' LAYOUT_FAMILIES 0 ≡ 0 = low LAYOUT_FAMILIES (omega arith) (omega arith) in
      let g : get_or w' LAYOUT_GROUPS 0 ≡ 0 = low LAYOUT_GROUPS (omega arith) (omega arith) in
      record {
        formed = formed (between LAYOUT GROUP_FAMILIES w') (get_or w' LAYOUT_FAMILIES 0) f;
        count = g ∙ sym (none_count (between LAYOUT GROUP_FAMILIES w') (get_or w' LAYOUT_FAMILIES 0) f);
        groups = λ j h. absurd (omega (arith, g));
        none = λ s h o. absurd (omega (arith, none));
      }

  arranged : Arranged w'
  arranged =
      let f : get_or w' DRAFT_FAMILIES 0 ≡ 0 = low DRAFT_FAMILIES (omega arith) (omega arith) in
      record {
        limits = rw (cap, kcap, width) L;
        enough = rw (shaped, kcap) long;
        table = tables;
        entities = rw cap entities.sound;
        columns = rw (shaped, kcap) columns;
        vacant = λ s r h. rw shaped (fresh_rows z s w' (column_head s (rw kcap at h)));
        staged = omega (arith, low STAGED_LEN (omega arith) (omega arith));
        excluded = omega (arith, low EXCLUDED_LEN (omega arith) (omega arith));
        caller = omega (arith, low CALLER (omega arith) (omega arith));
        rule = rw rule (few newer);
        draft = formed (between DRAFT LAYOUT w') (get_or w' DRAFT_FAMILIES 0) f;
        draft_count = low DRAFT_GROUPS (omega arith) (omega arith) ∙ sym (none_count (between DRAFT LAYOUT w') (get_or w' DRAFT_FAMILIES 0) f);
        layout = layouts;
      }

  sets : sets_in w' ≡ replicate MAX_KINDS []
  unfolding sets_in
  sets =
      is_table {A = SparseSet} [] MAX_KINDS (set_at w') (replicate MAX_KINDS []) (length-replicate {A = SparseSet} MAX_KINDS [])
      (λ j h. rw (free j h, none) (sym (get_or-replicate {A = SparseSet} MAX_KINDS j [] [] h)))

  means : meaning w' ≡ empty_with (told n k v newer)
  unfolding meaning kinds_in staged_in excluded_in draft_in layout_in empty_with
  means =
      let st : staged_in w' ≡ [] = table_none (get_or w' STAGED_LEN 0) (staged_at w') (low STAGED_LEN (omega arith) (omega arith)) in
      let ex : excluded_in w' ≡ [] = table_none (get_or w' EXCLUDED_LEN 0) _ (low EXCLUDED_LEN (omega arith) (omega arith)) in
      let dr : draft_in w' ≡ [] = no_families [] (between DRAFT LAYOUT w') (get_or w' DRAFT_FAMILIES 0) (low DRAFT_FAMILIES (omega arith) (omega arith)) in
      let ca : caller_of w' ≡ 0 = low CALLER (omega arith) (omega arith) in
      let re : table CALLERS (refusals_at w') ≡ replicate CALLERS 0 =
      is_table 0 CALLERS (refusals_at w') (replicate CALLERS 0) (length-replicate {A = ℕ} CALLERS 0) (λ c h. counts (REFUSALS + c) (omega arith) (omega arith) ∙ sym (get_or-replicate {A = ℕ} CALLERS c 0 0 h)) in
      let ru : newer_of w' ≡ newer = ap (λ (x : ℕ). eqb x NEWER) rule ∙ as_told newer in
      reads_means
      (record {
        settings = λ i. record { capacity = cap i; kind_capacity = kcap i; value_bytes = width i; newer = ru i };
        kinds = table_none (registered_of w') (kind_at w') none;
        entities = entities.becomes;
        sets = sets;
        layout = no_families (between GROUP_COUNTS ENTITIES w') (between LAYOUT GROUP_FAMILIES w') (get_or w' LAYOUT_FAMILIES 0) (low LAYOUT_FAMILIES (omega arith) (omega arith));
        control = λ i. record { staged = st i; excluded = ex i; draft = dr i; counts = record { caller = ca i; refusals = re i } };
      })

  pub made : Made (told n k v newer) w w'
  made =
      record {
        arranged = arranged;
        means = means;
        size = size;
        past =
            drop_stores end w₂ settings (omega (arith, past_header), (omega (arith, past_header), (omega (arith, past_header), (omega (arith, past_header), tt))))
            ∙ drop_later STAGED_KINDS end w₁ w₂ (omega (arith, past_header)) T.rest ∙ C.rest;
      }
