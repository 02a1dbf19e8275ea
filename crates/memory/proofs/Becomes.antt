-- A change of one column, of the entity part, of the control words or of a group's count, as a change of the model's store. Assumes nothing.
use mathlib.Core.Path.{◌≡◌, refl, sym, ap, ◌∙◌, subst}
use mathlib.Core.Logic.{◌≢◌}
use mathlib.Core.List.{List, []}
use Prim.Native.Nat.{ℕ, ◌+◌, ◌*◌, ◌≤◌, ◌<◌}
use native.Mathlib.Omega.{arith}
use borrow.Author.Tests.{lt-ltb, ltb-true}
use lib.Dec.{ltb}
use lib.ListN.{length, get_or, set, drop, length-set}
use lib.Seq.{get_or-set_same, get_or-set_other, drop-set-lt, ext_get_or}
use Rattle.model.specs.Numbers.{ENTITY_LEN, LAST_CALLER, LIST_CAPACITY, MAX_KINDS}
use Rattle.model.specs.Model.{Entities, SparseSet, Storage, set_of}
use Rattle.model.specs.Store.{on_set, with_entities, on_storage, with_layout, Settings, Store, with_control}
use Rattle.model.specs.Theorems.{SameSettings}
use Rattle.words.specs.Offsets.{CALLER, DRAFT_FAMILIES, DRAFT_GROUPS, ENTITIES, EXCLUDED_LEN, GROUP_COUNTS, GROUP_FAMILIES, GROUP_PLACES, LAYOUT, LAYOUT_FAMILIES, LAYOUT_GROUPS, MORE_SETTINGS, REFUSALS, REGISTERED, RULE, STAGED_KINDS, STAGED_LEN, TABLE, UNREGISTERED}
use Rattle.words.proofs.Offsets.{column_start_mono, column_start_first}
use Rattle.words.specs.Part.{between}
use Rattle.words.proofs.Part.{between_rest, length_between, get_d_between}
use Rattle.words.proofs.Tables.{table_same, table_set, get_d_table, length_table}
use Rattle.words.specs.Shape.{column_start, column_len, shape_of, shape}
use Rattle.words.specs.declared.Shape.{Shape}
use Rattle.model.proofs.BoolLaws.{by-eq, bool_cases}
use Rattle.model.proofs.Widths.{width_words}
use Rattle.component.specs.SparseSet.{rows, ColumnSound}
use Rattle.component.specs.Columns.{column_of, rows_of, Columns}
use Rattle.component.specs.Changes.{One}
use Rattle.entity.specs.Change.{EntityChange}
use Rattle.entity.specs.Meaning.{entity_part}
use Rattle.layout.specs.Layout.{WellFormed, group_count, families_of}
use Rattle.memory.specs.Header.{capacity_of, kind_capacity_of, registered_of, staged_len, excluded_len, draft_groups, caller_of, value_bytes_of, slot_of}
use Rattle.memory.specs.Meaning.{kind_at, set_at, sets_in, draft_arrays, layout_arrays, layout_in, control_in, settings_of, meaning, kinds_in}
use Rattle.memory.specs.Arranged.{Arranged, Becomes}
use Rattle.memory.proofs.Kept.{Kept, shape_kept, kinds_kept, arranged_kept}
use Rattle.memory.proofs.Frames.{part_same, draft_arrays_same, layout_arrays_same, long, control_parts, control_same, layout_same, header_kept, draft_formed, settings_kept, reads_means}
use Rattle.model.proofs.ListLaws.{drop_later, word_front}
use Rattle.entity.specs.Meaning as entity

-- ---- reading a registered kind's sparse set

module _ (w : List ℕ) (A : Arranged w) where
  kinds_few : kind_capacity_of w ≤ MAX_KINDS
  kinds_few = A.limits.most_kinds

  -- slot s's rows are its kind's sparse set
  pub set_at_law : (s : ℕ) → s < registered_of w → set_at w (kind_at w s) ≡ rows_of (shape_of w) s w
  set_at_law s h = rw (A.table.own s h, lt-ltb s (registered_of w) h)

  pub set_in_law : (k : ℕ) → k < MAX_KINDS → set_of (sets_in w) k ≡ set_at w k
  unfolding sets_in
  set_in_law k h = get_d_table MAX_KINDS (set_at w) k [] h

  -- a slot below the registered number is no 255
  pub slot_real : (k : ℕ) → slot_of w k < registered_of w → slot_of w k ≢ UNREGISTERED
  slot_real k h = omega (arith, A.table.few, kinds_few)

-- the sparse sets, from the registered columns
module _ (w w' : List ℕ) (K : Kept w w') where
  set_same : (k : ℕ) → k < MAX_KINDS → (slot_of w k < registered_of w → rows_of (shape_of w) (slot_of w k) w' ≡ rows_of (shape_of w) (slot_of w k) w) → set_at w' k ≡ set_at w k
  set_same k h r =
      rw (K.slots k h, K.registered, shape_kept K)
      (bool_cases (ltb (slot_of w k) (registered_of w)) (λ t. rw (t, r (ltb-true (slot_of w k) (registered_of w) t))) (λ t. rw t))

  pub sets_same : ((s : ℕ) → s < registered_of w → rows_of (shape_of w) s w' ≡ rows_of (shape_of w) s w) → sets_in w' ≡ sets_in w
  unfolding sets_in
  sets_same r = table_same [] MAX_KINDS (set_at w) (set_at w') (λ k h. set_same k h (r (slot_of w k)))

-- ---- one column

module _ (w w' : List ℕ) (A : Arranged w) (s : ℕ) (hs : s < registered_of w) (f : SparseSet → SparseSet) (o : One (shape_of w) (kind_capacity_of w) s f w w') where
  abbrev n : ℕ
  n = capacity_of w

  abbrev z : Shape
  z = shape_of w

  abbrev k : ℕ
  k = kind_at w s

  few : registered_of w ≤ kind_capacity_of w
  few = A.table.few

  same : (i : ℕ) → i < ENTITIES → get_or w' i 0 ≡ get_or w i 0
  same i h = word_front (column_start z 0) w w' o.front i (omega (arith, column_start_first z))

  one_kept : Kept w w'
  one_kept =
      header_kept w w' A o.size same
      (λ j hj i a b. by-eq j s (λ e. rw e (o.head i a b)) (λ ne. ap (λ (u : List ℕ). get_or u i 0) (o.others j hj ne)))

  rows_other : (j : ℕ) → j < kind_capacity_of w → j ≢ s → rows_of z j w' ≡ rows_of z j w
  rows_other j h ne = ap (rows z) (o.others j h ne)

  one_sets : sets_in w' ≡ set (sets_in w) k (f (set_of (sets_in w) k))
  unfolding sets_in
  one_sets =
      let hk : k < MAX_KINDS = A.table.small s hs in
      let was : set_of (sets_in w) k ≡ rows_of z s w = set_in_law w A k hk ∙ set_at_law w A s hs in
      let sl : slot_of w' k ≡ s = one_kept.slots k hk ∙ A.table.own s hs in
      let here : set_at w' k ≡ f (set_of (sets_in w) k) =
      rw (sl, one_kept.registered, shape_kept one_kept, lt-ltb s (registered_of w) hs) (o.becomes ∙ ap f (sym was)) in
      table_set [] (f (set_of (sets_in w) k)) MAX_KINDS (set_at w) (set_at w') k hk here
      (λ j h ne.
      set_same w w' one_kept j h
      (λ l. rows_other (slot_of w j) (omega arith) (λ e. ne (sym (A.table.back j h (slot_real w A j l)) ∙ ap (kind_at w) e))))

  one_entities : entity_part n w' ≡ entity_part n w
  one_entities = part_same w w' o.size ENTITIES (ENTITIES + ENTITY_LEN * n) enough (λ i a b. word_front (column_start z 0) w w' o.front i (omega (arith, column_start_first z)))
    where
      enough : ENTITIES + ENTITY_LEN * n ≤ length w
      enough = omega (arith, A.enough, column_start_first z, column_start_mono z 0 (kind_capacity_of w) (omega arith))

  pub one_becomes : Becomes w w' (on_storage (on_set k f) (meaning w))
  unfolding meaning
  one_becomes =
      let K = one_kept in
      let D = draft_formed w w' A o.size same in
      record {
        arranged =
            arranged_kept A K (subst (entity.EntityPartSound n) (sym one_entities) A.entities) o.columns
            (λ j l h. rows_other j h (omega arith) ∙ A.vacant j l h)
            (rw (same STAGED_LEN (omega arith)) A.staged) (rw (same EXCLUDED_LEN (omega arith)) A.excluded) (rw (same CALLER (omega arith)) A.caller) D.0 D.1;
        means =
            reads_means
            (record {
              settings = K.settings;
              kinds = kinds_kept A K;
              entities = ap (entity.entities_of n) one_entities;
              sets = one_sets;
              layout = layout_same w w' A o.size same;
              control = control_same w w' A o.size same;
            });
        size = o.size;
        past = o.past;
      }

-- ---- words from 1,024 + 16 * N on as they were

module _ (w w' : List ℕ) (A : Arranged w) (size : length w' ≡ length w) (m : ℕ) (le : m ≤ ENTITIES + ENTITY_LEN * capacity_of w) (rest : drop m w' ≡ drop m w) where
  pub column_rest : (s : ℕ) → column_of (shape_of w) s w' ≡ column_of (shape_of w) s w
  unfolding column_of
  column_rest s =
      between_rest m (column_start (shape_of w) s) (column_start (shape_of w) s + column_len (shape_of w)) w w'
      (omega (arith, column_start_first (shape_of w), column_start_mono (shape_of w) 0 s (omega arith))) rest

  rows_rest : (s : ℕ) → rows_of (shape_of w) s w' ≡ rows_of (shape_of w) s w
  rows_rest s = ap (rows (shape_of w)) (column_rest s)

  pub columns_rest : Columns (shape_of w) (kind_capacity_of w) w'
  columns_rest =
      record {
        shaped = A.columns.shaped;
        few = A.columns.few;
        size = omega (arith, A.columns.size);
        columns = λ s h. subst (ColumnSound (shape_of w)) (sym (column_rest s)) (A.columns.columns s h);
      }

  vacant_rest : (s : ℕ) → registered_of w ≤ s → s < kind_capacity_of w → rows_of (shape_of w) s w' ≡ []
  vacant_rest s l h = rows_rest s ∙ A.vacant s l h

  past_rest : drop (column_start (shape_of w) (kind_capacity_of w)) w' ≡ drop (column_start (shape_of w) (kind_capacity_of w)) w
  past_rest =
      drop_later m (column_start (shape_of w) (kind_capacity_of w)) w w'
      (omega (arith, column_start_first (shape_of w), column_start_mono (shape_of w) 0 (kind_capacity_of w) (omega arith))) rest

-- ---- the entities

module _ (w w' : List ℕ) (A : Arranged w) (f : Entities → Entities) (o : EntityChange (capacity_of w) f w w') where
  entity_word : (i : ℕ) → i < ENTITIES → get_or w' i 0 ≡ get_or w i 0
  entity_word i h = word_front ENTITIES w w' o.front i h

  pub entities_become : Becomes w w' (with_entities (meaning w) (f (meaning w).entities))
  unfolding meaning
  entities_become =
      let e = ENTITIES + ENTITY_LEN * capacity_of w in
      let le : e ≤ ENTITIES + ENTITY_LEN * capacity_of w = omega arith in
      let K = header_kept w w' A o.size entity_word (λ s h i a b. ap (λ (u : List ℕ). get_or u i 0) (column_rest w w' A o.size e le o.rest s)) in
      let D = draft_formed w w' A o.size entity_word in
      record {
        arranged =
            arranged_kept A K o.sound (columns_rest w w' A o.size e le o.rest) (vacant_rest w w' A o.size e le o.rest)
            (rw (entity_word STAGED_LEN (omega arith)) A.staged) (rw (entity_word EXCLUDED_LEN (omega arith)) A.excluded) (rw (entity_word CALLER (omega arith)) A.caller) D.0 D.1;
        means =
            reads_means
            (record {
              settings = K.settings;
              kinds = kinds_kept A K;
              entities = o.becomes;
              sets = sets_same w w' K (λ s h. rows_rest w w' A o.size e le o.rest s);
              layout = layout_same w w' A o.size entity_word;
              control = control_same w w' A o.size entity_word;
            });
        size = o.size;
        past = past_rest w w' A o.size e le o.rest;
      }

-- ---- the header's other words

-- the settings, the tables, the layout in force and all past the header are as they were
pub record Static (w w' : List ℕ) : Type 0 where
  pub size : length w' ≡ length w
  pub limits : (i : ℕ) → i < STAGED_LEN → get_or w' i 0 ≡ get_or w i 0
  pub force : (i : ℕ) → LAYOUT_FAMILIES ≤ i → i < CALLER → get_or w' i 0 ≡ get_or w i 0
  pub told : (i : ℕ) → MORE_SETTINGS ≤ i → i < REFUSALS → get_or w' i 0 ≡ get_or w i 0
  pub table : (i : ℕ) → TABLE ≤ i → i < STAGED_KINDS → get_or w' i 0 ≡ get_or w i 0
  pub layout : (i : ℕ) → LAYOUT ≤ i → i < GROUP_COUNTS → get_or w' i 0 ≡ get_or w i 0
  pub rest : drop ENTITIES w' ≡ drop ENTITIES w

module _ (w w' : List ℕ) (A : Arranged w) (S : Static w w') where
  static_le : ENTITIES ≤ ENTITIES + ENTITY_LEN * capacity_of w
  static_le = omega arith

  pub static_kept : Kept w w'
  static_kept =
      record {
        size = S.size;
        settings = settings_kept w w' (λ i h. S.limits i (omega arith)) S.told;
        rule = S.told RULE (omega arith) (omega arith);
        registered = S.limits REGISTERED (omega arith);
        slots = λ k h. S.table (TABLE + k) (omega arith) (omega arith);
        heads = λ s h i a b. ap (λ (u : List ℕ). get_or u i 0) (column_rest w w' A S.size ENTITIES static_le S.rest s);
        layout = layout_arrays_same w w' S.size (long w A) (S.force LAYOUT_FAMILIES (omega arith) (omega arith)) (λ i a b. S.layout i a (omega arith));
        groups = S.force LAYOUT_GROUPS (omega arith) (omega arith);
        families = λ g h. S.layout (GROUP_FAMILIES + g) (omega arith) (omega arith);
      }

  static_entities : entity_part (capacity_of w) w' ≡ entity_part (capacity_of w) w
  static_entities = between_rest ENTITIES ENTITIES (ENTITIES + ENTITY_LEN * capacity_of w) w w' (omega arith) S.rest

  -- a change of the control and of the counts
  static_becomes : (c : List ℕ) → between GROUP_COUNTS ENTITIES w' ≡ c → staged_len w' ≤ LIST_CAPACITY → excluded_len w' ≤ LIST_CAPACITY → caller_of w' ≤ LAST_CALLER → WellFormed (draft_arrays w') → draft_groups w' ≡ group_count (draft_arrays w')
      → Becomes w w' (with_control (on_storage (λ (s : Storage). with_layout s (families_of c (layout_arrays w))) (meaning w)) (control_in w'))
  unfolding meaning layout_in
  static_becomes c counts st ex ca d g =
      let K = static_kept in
      record {
        arranged =
            arranged_kept A K (subst (entity.EntityPartSound (capacity_of w)) (sym static_entities) A.entities) (columns_rest w w' A S.size ENTITIES static_le S.rest)
            (vacant_rest w w' A S.size ENTITIES static_le S.rest) st ex ca d g;
        means =
            reads_means
            (record {
              settings = K.settings;
              kinds = kinds_kept A K;
              entities = ap (entity.entities_of (capacity_of w)) static_entities;
              sets = sets_same w w' K (λ s h. rows_rest w w' A S.size ENTITIES static_le S.rest s);
              layout = ap (λ (l : List ℕ). families_of l (layout_arrays w')) counts ∙ ap (families_of c) K.layout;
              control = refl;
            });
        size = S.size;
        past = past_rest w w' A S.size ENTITIES static_le S.rest;
      }

  -- a change of the control alone
  pub control_becomes : ((i : ℕ) → GROUP_COUNTS ≤ i → i < ENTITIES → get_or w' i 0 ≡ get_or w i 0) → staged_len w' ≤ LIST_CAPACITY → excluded_len w' ≤ LIST_CAPACITY → caller_of w' ≤ LAST_CALLER → WellFormed (draft_arrays w') → draft_groups w' ≡ group_count (draft_arrays w')
      → Becomes w w' (with_control (meaning w) (control_in w'))
  unfolding meaning layout_in
  control_becomes counts st ex ca d g = static_becomes (between GROUP_COUNTS ENTITIES w) (part_same w w' S.size GROUP_COUNTS ENTITIES (long w A) counts) st ex ca d g

-- a group's count
module _ (w : List ℕ) (A : Arranged w) (g c : ℕ) (hg : g < GROUP_PLACES) where
  abbrev w' : List ℕ
  w' = set w (GROUP_COUNTS + g) c

  set_other : (i : ℕ) → i < GROUP_COUNTS → get_or w' i 0 ≡ get_or w i 0
  set_other i h = get_or-set_other w (GROUP_COUNTS + g) i c 0 (omega arith)

  count_static : Static w w'
  count_static =
      record {
        size = length-set w (GROUP_COUNTS + g) c;
        limits = λ i h. set_other i (omega arith);
        force = λ i a b. set_other i (omega arith);
        told = λ i a b. set_other i (omega arith);
        table = λ i a b. set_other i (omega arith);
        layout = λ i a b. set_other i b;
        rest = drop-set-lt ENTITIES w (GROUP_COUNTS + g) c (omega arith);
      }

  counts_set : between GROUP_COUNTS ENTITIES w' ≡ set (between GROUP_COUNTS ENTITIES w) g c
  counts_set =
      let l : length (between GROUP_COUNTS ENTITIES w) ≡ GROUP_PLACES = length_between GROUP_COUNTS ENTITIES w (long w A) in
      let l' : length (between GROUP_COUNTS ENTITIES w') ≡ GROUP_PLACES = length_between GROUP_COUNTS ENTITIES w' (omega (arith, length-set w (GROUP_COUNTS + g) c, long w A)) in
      ext_get_or 0 (between GROUP_COUNTS ENTITIES w') (set (between GROUP_COUNTS ENTITIES w) g c) (l' ∙ sym (length-set (between GROUP_COUNTS ENTITIES w) g c ∙ l))
      (λ i h.
      let hi : i < GROUP_PLACES = omega arith in
      get_d_between GROUP_COUNTS ENTITIES i w' 0 (omega arith)
      ∙ by-eq i g
      (λ e. rw e (get_or-set_same w (GROUP_COUNTS + g) c 0 (omega (arith, long w A)) ∙ sym (get_or-set_same (between GROUP_COUNTS ENTITIES w) g c 0 (omega arith))))
      (λ ne. get_or-set_other w (GROUP_COUNTS + g) (GROUP_COUNTS + i) c 0 (omega arith) ∙ sym (get_d_between GROUP_COUNTS ENTITIES i w 0 (omega arith)) ∙ sym (get_or-set_other (between GROUP_COUNTS ENTITIES w) g i c 0 ne)))

  pub count_becomes : Becomes w w' (on_storage (λ (s : Storage). with_layout s (families_of (set (between GROUP_COUNTS ENTITIES w) g c) (layout_arrays w))) (meaning w))
  unfolding meaning layout_in
  count_becomes =
      let D = draft_arrays_same w w' count_static.size (long w A) (set_other DRAFT_FAMILIES (omega arith)) (λ i a b. set_other i (omega arith)) in
      let B = static_becomes w w' A count_static (set (between GROUP_COUNTS ENTITIES w) g c) counts_set (rw (set_other STAGED_LEN (omega arith)) A.staged) (rw (set_other EXCLUDED_LEN (omega arith)) A.excluded)
      (rw (set_other CALLER (omega arith)) A.caller)
      (subst WellFormed (sym D) A.draft) (set_other DRAFT_GROUPS (omega arith) ∙ A.draft_count ∙ sym (ap group_count D)) in
      let k : control_in w' ≡ control_in w = count_control in
      record { arranged = B.arranged; means = B.means ∙ ap (with_control (on_storage (λ (s : Storage). with_layout s (families_of (set (between GROUP_COUNTS ENTITIES w) g c) (layout_arrays w))) (meaning w))) k; size = B.size; past = B.past }
    where
      count_control : control_in w' ≡ control_in w
      count_control = control_parts w w' A (length-set w (GROUP_COUNTS + g) c) set_other

-- ---- one change after another

-- words that no one changed
pub stays : {w : List ℕ} → Arranged w → Becomes w w (meaning w)
stays A = record { arranged = A; means = refl; size = refl; past = refl }

pub capacity_means : (w : List ℕ) → (meaning w).settings.capacity ≡ capacity_of w
unfolding meaning
capacity_means w = refl

pub shape_means : (w : List ℕ) → shape (meaning w).settings.capacity (meaning w).settings.value_bytes ≡ shape_of w
unfolding meaning
shape_means w = refl

-- a value's words have its bytes, four each
pub stride_bytes : (w : List ℕ) → Arranged w → 4 * (shape_of w).stride ≡ (meaning w).settings.value_bytes
unfolding meaning
stride_bytes w A = width_words (value_bytes_of w) A.limits.width

settings_mean : (w : List ℕ) → (meaning w).settings ≡ settings_of w
unfolding meaning
settings_mean w = refl

pub becomes_next : {w₀ w w' : List ℕ} (s : Store) (h : Store → Store) → Becomes w₀ w s → SameSettings (meaning w₀) s → Becomes w w' (h (meaning w)) → Becomes w₀ w' (h s)
becomes_next {w₀} {w} {w'} s h B z C =
    let e : settings_of w ≡ settings_of w₀ = sym (settings_mean w) ∙ ap (λ (m : Store). m.settings) B.means ∙ z ∙ settings_mean w₀ in
    record {
      arranged = C.arranged;
      means = C.means ∙ ap h B.means;
      size = C.size ∙ B.size;
      past = subst (λ (t : Settings). drop (column_start (shape t.capacity t.value_bytes) t.kind_capacity) w' ≡ drop (column_start (shape t.capacity t.value_bytes) t.kind_capacity) w) e C.past ∙ B.past;
    }

-- ---- how many kinds and sparse sets there are

pub kinds_count : (w : List ℕ) → length (meaning w).kinds ≡ registered_of w
unfolding meaning kinds_in
kinds_count w = length_table (registered_of w) (kind_at w)

pub sets_wide : (w : List ℕ) → length (meaning w).storage.sets ≡ MAX_KINDS
unfolding meaning sets_in
sets_wide w = length_table MAX_KINDS (set_at w)
