-- A kind more in the table: what that leaves well arranged, and what the words mean then. Assumes nothing.
use mathlib.Core.Path.{◌≡◌, sym, ap, ◌∙◌, subst}
use mathlib.Core.Logic.{◌≢◌}
use mathlib.Core.Bool.{false, false≢true}
use mathlib.Core.List.{List, [], ◌∷◌, ◌++◌}
use Prim.Native.Nat.{ℕ, ◌+◌, ◌*◌, ◌≤◌, ◌<◌}
use native.Mathlib.Omega.{arith}
use native.Mathlib.Decide.{dec_lt}
use borrow.Author.Tests.{lt-ltb, le-ltb}
use lib.ListN.{length, get_or, set, take, drop, length-set}
use lib.Seq.{get_or-set_same, get_or-set_other, drop-set-lt}
use Rattle.model.specs.Numbers.{ENTITY_LEN, MAX_KINDS}
use Rattle.model.specs.Model.{mem}
use Rattle.model.specs.Sound.{In}
use Rattle.words.specs.Offsets.{CALLER, CAPACITY, COLUMN_KIND, DRAFT_FAMILIES, DRAFT_GROUPS, ENTITIES, EXCLUDED_LEN, GROUP_COUNTS, GROUP_FAMILIES, GROUP_PLACES, KIND_CAPACITY, LAYOUT_FAMILIES, LAYOUT_GROUPS, OWN_GROUP, PLACE_IN_FAMILY, REGISTERED, RULE, STAGED_LEN, TABLE, UNREGISTERED, VALUE_WIDTH}
use Rattle.words.proofs.Offsets.{column_start_mono, column_start_first}
use Rattle.words.specs.Part.{between}
use Rattle.words.specs.Table.{table}
use Rattle.words.proofs.Tables.{table_same, table_snoc, length_table}
use Rattle.words.specs.Shape.{column_start, shape_of, shape}
use Rattle.words.specs.declared.Shape.{Shape}
use Rattle.model.proofs.BoolLaws.{by-eq}
use Rattle.component.specs.SparseSet.{rows}
use Rattle.component.specs.Columns.{column_of, rows_of, Columns}
use Rattle.component.specs.Changes.{Lent}
use Rattle.component.proofs.Parts.{lent}
use Rattle.component.proofs.Frames.{headed, front_column, front_columns}
use Rattle.entity.specs.Meaning.{entity_part}
use Rattle.layout.specs.Layout.{Arrays, WellFormed, width_of, group_count, families_of}
use Rattle.layout.specs.Group.{member_at}
use Rattle.memory.specs.Header.{capacity_of, kind_capacity_of, registered_of, layout_groups, slot_of, group_family_at, value_bytes_of}
use Rattle.memory.specs.Meaning.{kind_at, own_at, kinds_in, set_at, sets_in, draft_arrays, layout_arrays, draft_in, layout_in, control_in, meaning}
use Rattle.memory.specs.Arranged.{TableSound, Registered, GroupSound, LayoutSound, Arranged, Becomes}
use Rattle.memory.proofs.Frames.{part_same, draft_arrays_same, layout_arrays_same, counts_same, staged_same, excluded_same, settings_kept, counts_kept, long, reads_means}
use Rattle.model.proofs.ListLaws.{drop_later, word_front}
use Rattle.model.specs.Store.{with_kinds}
use Rattle.kinds.specs.Steps.{with_head}
use Rattle.kinds.proofs.Slot.{slot_known}
use Rattle.entity.specs.Meaning as entity

-- ---- the words

-- the table's word of kind k, and how many slots kinds have
abbrev pub with_slot : ℕ → ℕ → List ℕ → List ℕ
with_slot s k w = set (set w (TABLE + k) s) REGISTERED (s + 1)

-- what the stores leave: one kind more, k, whose slot is the first that no kind had
pub record Registers (w w' : List ℕ) (k : ℕ) : Type 0 where
  pub size : length w' ≡ length w
  pub count : registered_of w' ≡ registered_of w + 1
  pub slot : slot_of w' k ≡ registered_of w
  pub header : (i : ℕ) → i < ENTITIES + ENTITY_LEN * capacity_of w → i ≢ REGISTERED → i ≢ TABLE + k → get_or w' i 0 ≡ get_or w i 0
  pub columns : Columns (shape_of w) (kind_capacity_of w) w'
  pub same : (j : ℕ) → j < kind_capacity_of w → rows_of (shape_of w) j w' ≡ rows_of (shape_of w) j w
  pub kind : get_or (column_of (shape_of w) (registered_of w) w') COLUMN_KIND 0 ≡ k
  pub own : get_or (column_of (shape_of w) (registered_of w) w') OWN_GROUP 0 ≡ 0
  pub others : (j : ℕ) → j < kind_capacity_of w → j ≢ registered_of w → column_of (shape_of w) j w' ≡ column_of (shape_of w) j w
  pub past : drop (column_start (shape_of w) (kind_capacity_of w)) w' ≡ drop (column_start (shape_of w) (kind_capacity_of w)) w

module _ (w : List ℕ) (A : Arranged w) (k : ℕ) (hk : k < MAX_KINDS) (room : registered_of w < kind_capacity_of w) where
  abbrev n : ℕ
  n = capacity_of w

  abbrev z : Shape
  z = shape_of w

  abbrev m : ℕ
  m = kind_capacity_of w

  abbrev s : ℕ
  s = registered_of w

  pub registers : Registers w (with_slot s k (with_head z s k w)) k
  registers =
      let b = column_start z s in
      let w₁ = set w (b + 1) k in
      let w₂ = set w₁ (b + OWN_GROUP) 0 in
      let w₃ = with_head z s k w in
      let w₄ = set w₃ (TABLE + k) s in
      let w₅ = set w₄ REGISTERED (s + 1) in
      let h₁ = headed z m s COLUMN_KIND k w A.columns room (omega arith) (omega arith) in
      let h₂ = headed z m s OWN_GROUP 0 w₁ h₁.columns room (omega arith) (omega arith) in
      let h₃ = headed z m s PLACE_IN_FAMILY 0 w₂ h₂.columns room (omega arith) (omega arith) in
      let z₃ : length w₃ ≡ length w = h₃.size ∙ h₂.size ∙ h₁.size in
      let z₄ : length w₄ ≡ length w = length-set w₃ (TABLE + k) s ∙ z₃ in
      let z₅ : length w₅ ≡ length w = length-set w₄ REGISTERED (s + 1) ∙ z₄ in
      let l : ENTITIES ≤ length w = long w A in
      let f : take (column_start z 0) w₃ ≡ take (column_start z 0) w = h₃.front ∙ h₂.front ∙ h₁.front in
      let q = column_start_first z in
      let d : drop (column_start z 0) w₅ ≡ drop (column_start z 0) w₃ =
      drop-set-lt (column_start z 0) w₄ REGISTERED (s + 1) (omega arith) ∙ drop-set-lt (column_start z 0) w₃ (TABLE + k) s (omega arith) in
      let c : (j : ℕ) → column_of z j w₅ ≡ column_of z j w₃ = front_column z w₃ w₅ d in
      record {
        size = z₅;
        count = get_or-set_same w₄ REGISTERED (s + 1) 0 (omega arith);
        slot = get_or-set_other w₄ REGISTERED (TABLE + k) (s + 1) 0 (omega arith) ∙ get_or-set_same w₃ (TABLE + k) s 0 (omega arith);
        header =
            λ i h two ne.
            get_or-set_other w₄ REGISTERED i (s + 1) 0 two ∙ get_or-set_other w₃ (TABLE + k) i s 0 ne ∙ word_front (column_start z 0) w w₃ f i (omega arith);
        columns = front_columns z w₃ w₅ d m (z₅ ∙ sym z₃) h₃.columns;
        same = λ j h. ap (rows z) (c j) ∙ h₃.same j h ∙ h₂.same j h ∙ h₁.same j h;
        kind = ap (λ (u : List ℕ). get_or u COLUMN_KIND 0) (c s) ∙ h₃.words COLUMN_KIND (omega arith) ∙ h₂.words COLUMN_KIND (omega arith) ∙ h₁.word;
        own = ap (λ (u : List ℕ). get_or u OWN_GROUP 0) (c s) ∙ h₃.words OWN_GROUP (omega arith) ∙ h₂.word;
        others = λ j h ne. c j ∙ h₃.others j h ne ∙ h₂.others j h ne ∙ h₁.others j h ne;
        past = drop_later (column_start z 0) (column_start z m) w₃ w₅ (column_start_mono z 0 m (omega arith)) d ∙ h₃.past ∙ h₂.past ∙ h₁.past;
      }

-- ---- the table of kinds and the layout

module _ (w w' : List ℕ) (A : Arranged w) (k : ℕ) (hk : k < MAX_KINDS) (new : mem k (meaning w).kinds ≡ false) (room : registered_of w < kind_capacity_of w) (R : Registers w w' k) where
  no_slot : slot_of w k ≡ UNREGISTERED
  no_slot = by-eq (slot_of w k) UNREGISTERED (λ e. e) (λ ne. absurd (false≢true (sym new ∙ slot_known w A k hk ne)))

  cap : capacity_of w' ≡ capacity_of w
  cap = R.header CAPACITY (omega arith) (omega arith) (omega arith)

  kind_cap : kind_capacity_of w' ≡ kind_capacity_of w
  kind_cap = R.header KIND_CAPACITY (omega arith) (omega arith) (omega arith)

  width : value_bytes_of w' ≡ value_bytes_of w
  width = R.header VALUE_WIDTH (omega arith) (omega arith) (omega arith)

  shaped : shape_of w' ≡ shape_of w
  shaped = λ i. shape (cap i) (width i)

  slot_other : (j : ℕ) → j < MAX_KINDS → j ≢ k → slot_of w' j ≡ slot_of w j
  slot_other j h ne = R.header (TABLE + j) (omega arith) (omega arith) (omega arith)

  -- the head of a column that was there, and of the new one
  head_other : (t : ℕ) → t < registered_of w → (i : ℕ) → get_or (column_of (shape_of w') t w') i 0 ≡ get_or (column_of (shape_of w) t w) i 0
  head_other t h i = ap (λ (c : Shape). get_or (column_of c t w') i 0) shaped ∙ ap (λ (u : List ℕ). get_or u i 0) (R.others t (omega arith) (omega arith))

  kind_new : kind_at w' (registered_of w) ≡ k
  kind_new = ap (λ (c : Shape). get_or (column_of c (registered_of w) w') COLUMN_KIND 0) shaped ∙ R.kind

  own_new : own_at w' (registered_of w) ≡ 0
  own_new = ap (λ (c : Shape). get_or (column_of c (registered_of w) w') OWN_GROUP 0) shaped ∙ R.own

  -- a kind that was there is not the new one
  kind_ne : (t : ℕ) → t < registered_of w → kind_at w t ≢ k
  kind_ne t h e =
      let q : slot_of w k ≡ t = ap (slot_of w) (sym e) ∙ A.table.own t h in
      omega (arith, no_slot, A.limits.most_kinds)

  slot_ne : (j : ℕ) → slot_of w j < registered_of w → j ≢ k
  slot_ne j h e = let q : slot_of w j ≡ UNREGISTERED = ap (slot_of w) e ∙ no_slot in omega (arith, A.limits.most_kinds)

  each_slot : (P : ℕ → Type 0) (t : ℕ) → t < registered_of w' → (t < registered_of w → P t) → P (registered_of w) → P t
  each_slot P t h f p = by-eq t (registered_of w) (λ e. subst P (sym e) p) (λ ne. f (omega (arith, R.count)))

  table_new : TableSound w'
  table_new =
      let T = A.table in
      record {
        few = rw (R.count, kind_cap) (omega arith);
        slot =
            λ j h ne.
            by-eq j k
            (λ e. rw (ap (slot_of w') e ∙ R.slot, R.count) (omega arith))
            (λ d. let q : slot_of w j < registered_of w = T.slot j h (λ e. ne (slot_other j h d ∙ e)) in omega (arith, slot_other j h d, R.count));
        back =
            λ j h ne.
            by-eq j k
            (λ e. ap (kind_at w') (ap (slot_of w') e ∙ R.slot) ∙ kind_new ∙ sym e)
            (λ d.
            let ne₀ : slot_of w j ≢ UNREGISTERED = λ e. ne (slot_other j h d ∙ e) in
            ap (kind_at w') (slot_other j h d) ∙ head_other (slot_of w j) (T.slot j h ne₀) COLUMN_KIND ∙ T.back j h ne₀);
        small = λ t h. each_slot (λ (t : ℕ). kind_at w' t < MAX_KINDS) t h (λ l. rw (head_other t l COLUMN_KIND) (T.small t l)) (rw kind_new hk);
        own =
            λ t h.
            each_slot (λ (t : ℕ). slot_of w' (kind_at w' t) ≡ t) t h
            (λ l. ap (slot_of w') (head_other t l COLUMN_KIND) ∙ slot_other (kind_at w t) (T.small t l) (kind_ne t l) ∙ T.own t l)
            (ap (slot_of w') kind_new ∙ R.slot);
      }

  arrays : layout_arrays w' ≡ layout_arrays w
  arrays =
      layout_arrays_same w w' R.size (long w A) (R.header LAYOUT_FAMILIES (omega arith) (omega arith) (omega arith))
      (λ i a b. R.header i (omega arith) (omega arith) (omega arith))

  registered_new : (j : ℕ) → Registered w j → Registered w' j
  registered_new j r = record { small = r.small; slot = rw (slot_other j r.small (slot_ne j r.slot), R.count) (omega (arith, r.slot)) }

  head_member : (j : ℕ) → Registered w j → (i : ℕ) → get_or (column_of (shape_of w') (slot_of w' j) w') i 0 ≡ get_or (column_of (shape_of w) (slot_of w j) w) i 0
  head_member j r i =
      ap (λ (t : ℕ). get_or (column_of (shape_of w') t w') i 0) (slot_other j r.small (slot_ne j r.slot)) ∙ head_other (slot_of w j) r.slot i

  group_new : (a : Arrays) (g f : ℕ) → GroupSound w a g f → GroupSound w' a g f
  group_new a g f G =
      record {
        group = G.group;
        known = λ j h. registered_new (member_at a f j) (G.known j h);
        own = λ j l h. head_member (member_at a f j) (G.known j h) OWN_GROUP ∙ G.own j l h;
        local = λ j l h. head_member (member_at a f j) (G.known j h) PLACE_IN_FAMILY ∙ G.local j l h;
      }

  layout_new : LayoutSound w'
  layout_new =
      let L = A.layout in
      let groups : layout_groups w' ≡ layout_groups w = R.header LAYOUT_GROUPS (omega arith) (omega arith) (omega arith) in
      record {
        formed = subst WellFormed (sym arrays) L.formed;
        count = groups ∙ L.count ∙ sym (ap group_count arrays);
        groups =
            λ g h.
            let h₀ : g < layout_groups w = rw groups at h in
            let few : g < GROUP_PLACES = omega (arith, L.count, L.formed.many) in
            let same : group_family_at w' g ≡ group_family_at w g = R.header (GROUP_FAMILIES + g) (omega arith) (omega arith) (omega arith) in
            subst (λ (a : Arrays). GroupSound w' a g (group_family_at w' g)) (sym arrays)
            (subst (λ (f : ℕ). GroupSound w' (layout_arrays w) g f) (sym same) (group_new (layout_arrays w) g (group_family_at w g) (L.groups g h₀)));
        none =
            λ t h.
            each_slot (λ (t : ℕ). 1 ≤ own_at w' t → In (take (width_of (layout_arrays w')) (layout_arrays w').kinds) (kind_at w' t)) t h
            (λ l o.
            let o₀ : 1 ≤ own_at w t = rw (head_other t l OWN_GROUP) at o in
            rw (head_other t l COLUMN_KIND) (subst (λ (a : Arrays). In (take (width_of a) a.kinds) (kind_at w t)) (sym arrays) (L.none t l o₀)))
            (λ o. absurd (omega (arith, own_new)));
      }

  -- ---- the meaning

  kinds_new : kinds_in w' ≡ kinds_in w ++ (k ∷ [])
  unfolding kinds_in
  kinds_new =
      ap (λ (c : ℕ). table c (kind_at w')) R.count
      ∙ table_snoc 0 k (registered_of w) (kind_at w) (kind_at w') kind_new (λ t h. head_other t h COLUMN_KIND)

  set_new : (j : ℕ) → j < MAX_KINDS → set_at w' j ≡ set_at w j
  set_new j h =
      by-eq j k
      (λ e.
      rw (e, R.slot, no_slot, R.count, shaped, lt-ltb (registered_of w) (registered_of w + 1) (omega arith), le-ltb UNREGISTERED (registered_of w) (omega (arith, A.limits.most_kinds)))
      (R.same (registered_of w) room ∙ A.vacant (registered_of w) (omega arith) room))
      (λ ne.
      rw (slot_other j h ne, R.count, shaped)
      (elim (dec_lt (slot_of w j) (registered_of w)) [
        | yes l ↦
            rw (lt-ltb (slot_of w j) (registered_of w) l, lt-ltb (slot_of w j) (registered_of w + 1) (omega arith)) (R.same (slot_of w j) (omega arith))
        | no l ↦
            let q : slot_of w j ≡ UNREGISTERED = by-eq (slot_of w j) UNREGISTERED (λ e. e) (λ d. absurd (l (A.table.slot j h d))) in
            rw (le-ltb (slot_of w j) (registered_of w) (omega arith), le-ltb (slot_of w j) (registered_of w + 1) (omega (arith, A.limits.most_kinds)))
      ]))

  sets_new : sets_in w' ≡ sets_in w
  unfolding sets_in
  sets_new = table_same [] MAX_KINDS (set_at w) (set_at w') set_new

  layout_is : layout_in w' ≡ layout_in w
  unfolding layout_in
  layout_is =
      ap (λ (c : List ℕ). families_of c (layout_arrays w')) (counts_same w w' R.size (long w A) (λ i a b. R.header i (omega arith) (omega arith) (omega arith)))
      ∙ ap (families_of (between GROUP_COUNTS ENTITIES w)) arrays

  draft_is : draft_arrays w' ≡ draft_arrays w
  draft_is =
      draft_arrays_same w w' R.size (long w A) (R.header DRAFT_FAMILIES (omega arith) (omega arith) (omega arith))
      (λ i a b. R.header i (omega arith) (omega arith) (omega arith))

  control_is : control_in w' ≡ control_in w
  unfolding draft_in
  control_is =
      let p = staged_same w w' R.size A width (R.header STAGED_LEN (omega arith) (omega arith) (omega arith)) (λ i a b. R.header i (omega arith) (omega arith) (omega arith)) in
      let e = excluded_same w w' R.size A.excluded (R.header EXCLUDED_LEN (omega arith) (omega arith) (omega arith)) (λ i a b. R.header i (omega arith) (omega arith) (omega arith)) in
      let d : draft_in w' ≡ draft_in w = ap (families_of []) draft_is in
      let c = counts_kept w w' (λ i a b. R.header i (omega arith) (omega arith) (omega arith)) in
      λ i. record { staged = p i; excluded = e i; draft = d i; counts = c i }

  entities_are : entity_part (capacity_of w) w' ≡ entity_part (capacity_of w) w
  entities_are = part_same w w' R.size ENTITIES (ENTITIES + ENTITY_LEN * capacity_of w) enough (λ i a b. R.header i b (omega arith) (omega arith))
    where
      enough : ENTITIES + ENTITY_LEN * capacity_of w ≤ length w
      enough = omega (arith, A.enough, column_start_first (shape_of w), column_start_mono (shape_of w) 0 (kind_capacity_of w) (omega arith))

  arranged_new : Arranged w'
  arranged_new =
      record {
        limits = rw (cap, kind_cap, width) A.limits;
        enough = rw (shaped, kind_cap, R.size) A.enough;
        table = table_new;
        entities = rw cap (subst (entity.EntityPartSound (capacity_of w)) (sym entities_are) A.entities);
        columns = rw (shaped, kind_cap) R.columns;
        vacant =
            λ j l h.
            let l₀ : registered_of w ≤ j = omega (arith, R.count) in
            let h₀ : j < kind_capacity_of w = rw kind_cap at h in
            rw shaped (R.same j h₀ ∙ A.vacant j l₀ h₀);
        staged = rw (R.header STAGED_LEN (omega arith) (omega arith) (omega arith)) A.staged;
        excluded = rw (R.header EXCLUDED_LEN (omega arith) (omega arith) (omega arith)) A.excluded;
        caller = rw (R.header CALLER (omega arith) (omega arith) (omega arith)) A.caller;
        rule = rw (R.header RULE (omega arith) (omega arith) (omega arith)) A.rule;
        draft = subst WellFormed (sym draft_is) A.draft;
        draft_count = R.header DRAFT_GROUPS (omega arith) (omega arith) (omega arith) ∙ A.draft_count ∙ sym (ap group_count draft_is);
        layout = layout_new;
      }

  pub registers_becomes : Becomes w w' (with_kinds (meaning w) ((meaning w).kinds ++ (k ∷ [])))
  unfolding meaning
  registers_becomes =
      record {
        arranged = arranged_new;
        means =
            reads_means
            (record {
              settings = settings_kept w w' (λ i h. R.header i (omega arith) (omega arith) (omega arith)) (λ i a b. R.header i (omega arith) (omega arith) (omega arith));
              kinds = kinds_new;
              entities = ap (entity.entities_of (capacity_of w)) entities_are;
              sets = sets_new;
              layout = layout_is;
              control = control_is;
            });
        size = R.size;
        past = R.past;
      }

-- fewer kinds than there are columns: the first slot that no kind has is there
pub vacancy : (w : List ℕ) → length (meaning w).kinds < (meaning w).settings.kind_capacity → registered_of w < kind_capacity_of w
unfolding meaning kinds_in
vacancy w h = rw (length_table (registered_of w) (kind_at w)) at h

pub vacant_lent : (w : List ℕ) (z : Shape) (s : ℕ) → Arranged w → z ≡ shape_of w → s ≡ registered_of w → registered_of w < kind_capacity_of w → Lent z s w
vacant_lent w z s A en es room = rw (en, es) (lent (shape_of w) (kind_capacity_of w) (registered_of w) w A.columns room)

-- the words as the code leaves them
pub registered : (w : List ℕ) (z : Shape) (s k : ℕ) → Arranged w → k < MAX_KINDS → mem k (meaning w).kinds ≡ false → registered_of w < kind_capacity_of w
    → z ≡ shape_of w → s ≡ registered_of w → (w₃ : List ℕ) → w₃ ≡ with_head z s k w → Becomes w (with_slot s k w₃) (with_kinds (meaning w) ((meaning w).kinds ++ (k ∷ [])))
registered w z s k A hk new room en es w₃ e =
    rw (e, en, es) (registers_becomes w (with_slot (registered_of w) k (with_head (shape_of w) (registered_of w) k w)) A k hk new room (registers w A k hk room))
