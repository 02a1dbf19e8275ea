-- What stays well arranged when the tables, the heads of the columns and the layout in force stay. Assumes nothing.
use mathlib.Core.Path.{◌≡◌, sym, ap, ◌∙◌, subst}
use mathlib.Core.Logic.{◌≢◌}
use mathlib.Core.List.{List, []}
use Prim.Native.Nat.{ℕ, ◌≤◌, ◌<◌}
use native.Mathlib.Omega.{arith}
use lib.ListN.{length, get_or, take}
use Rattle.model.specs.Numbers.{LAST_CALLER, LIST_CAPACITY, MAX_KINDS}
use Rattle.words.specs.Offsets.{COLUMN_KIND, GROUP_PLACES, OWN_GROUP, PLACE_IN_FAMILY, ROWS, UNREGISTERED}
use Rattle.words.specs.Table.{table}
use Rattle.words.proofs.Tables.{table_same}
use Rattle.words.specs.Shape.{shape_of, shape}
use Rattle.words.specs.declared.Shape.{Shape}
use Rattle.component.specs.Columns.{column_of, rows_of, Columns}
use Rattle.entity.specs.Meaning.{entity_part}
use Rattle.layout.specs.Layout.{Arrays, WellFormed, width_of, group_count}
use Rattle.layout.specs.Group.{member_at}
use Rattle.model.specs.Sound.{In}
use Rattle.memory.specs.Header.{capacity_of, kind_capacity_of, registered_of, staged_len, excluded_len, draft_groups, layout_groups, caller_of, rule_of, value_bytes_of, slot_of, group_family_at}
use Rattle.memory.specs.Meaning.{kind_at, own_at, local_at, kinds_in, draft_arrays, layout_arrays, settings_of}
use Rattle.memory.specs.Arranged.{TableSound, Registered, GroupSound, LayoutSound, Arranged}
use Rattle.entity.specs.Meaning as entity

pub record Kept (w w' : List ℕ) : Type 0 where
  pub size : length w' ≡ length w
  pub settings : settings_of w' ≡ settings_of w
  pub rule : rule_of w' ≡ rule_of w
  pub registered : registered_of w' ≡ registered_of w
  pub slots : (k : ℕ) → k < MAX_KINDS → slot_of w' k ≡ slot_of w k
  pub heads : (s : ℕ) → s < kind_capacity_of w → (i : ℕ) → 1 ≤ i → i < ROWS → get_or (column_of (shape_of w) s w') i 0 ≡ get_or (column_of (shape_of w) s w) i 0
  pub layout : layout_arrays w' ≡ layout_arrays w
  pub groups : layout_groups w' ≡ layout_groups w
  pub families : (g : ℕ) → g < GROUP_PLACES → group_family_at w' g ≡ group_family_at w g

module _ {w w' : List ℕ} (K : Kept w w') where
  pub capacity_kept : capacity_of w' ≡ capacity_of w
  capacity_kept = λ i. (K.settings i).capacity

  pub width_kept : value_bytes_of w' ≡ value_bytes_of w
  width_kept = λ i. (K.settings i).value_bytes

  pub shape_kept : shape_of w' ≡ shape_of w
  shape_kept = λ i. shape (K.settings i).capacity (K.settings i).value_bytes

  pub kind_capacity_kept : kind_capacity_of w' ≡ kind_capacity_of w
  kind_capacity_kept = λ i. (K.settings i).kind_capacity

module _ {w w' : List ℕ} (A : Arranged w) (K : Kept w w') where
  head_kept : (s : ℕ) → s < kind_capacity_of w → (i : ℕ) → 1 ≤ i → i < ROWS → get_or (column_of (shape_of w') s w') i 0 ≡ get_or (column_of (shape_of w) s w) i 0
  head_kept s h i a b = ap (λ (z : Shape). get_or (column_of z s w') i 0) (shape_kept K) ∙ K.heads s h i a b

  registered_slot : (s : ℕ) → s < registered_of w → s < kind_capacity_of w
  registered_slot s h = omega (arith, A.table.few)

  pub kind_kept : (s : ℕ) → s < registered_of w → kind_at w' s ≡ kind_at w s
  kind_kept s h = head_kept s (registered_slot s h) COLUMN_KIND (omega arith) (omega arith)

  own_kept : (s : ℕ) → s < registered_of w → own_at w' s ≡ own_at w s
  own_kept s h = head_kept s (registered_slot s h) OWN_GROUP (omega arith) (omega arith)

  local_kept : (s : ℕ) → s < registered_of w → local_at w' s ≡ local_at w s
  local_kept s h = head_kept s (registered_slot s h) PLACE_IN_FAMILY (omega arith) (omega arith)

  pub kinds_kept : kinds_in w' ≡ kinds_in w
  unfolding kinds_in
  kinds_kept = ap (λ (n : ℕ). table n (kind_at w')) K.registered ∙ table_same 0 (registered_of w) (kind_at w) (kind_at w') kind_kept

  pub table_kept : TableSound w'
  table_kept =
      let T = A.table in
      record {
        few = rw (K.registered, kind_capacity_kept K) T.few;
        slot = λ k h ne. rw (K.slots k h, K.registered) (T.slot k h (λ e. ne (K.slots k h ∙ e)));
        back =
            λ k h ne.
            let ne₀ : slot_of w k ≢ UNREGISTERED = λ e. ne (K.slots k h ∙ e) in
            ap (kind_at w') (K.slots k h) ∙ kind_kept (slot_of w k) (T.slot k h ne₀) ∙ T.back k h ne₀;
        small = λ s h. let h₀ : s < registered_of w = rw K.registered at h in rw (kind_kept s h₀) (T.small s h₀);
        own =
            λ s h.
            let h₀ : s < registered_of w = rw K.registered at h in
            ap (slot_of w') (kind_kept s h₀) ∙ K.slots (kind_at w s) (T.small s h₀) ∙ T.own s h₀;
      }

  registered_kept : (k : ℕ) → Registered w k → Registered w' k
  registered_kept k r = record { small = r.small; slot = rw (K.slots k r.small, K.registered) r.slot }

  group_kept : (a : Arrays) (g f : ℕ) → GroupSound w a g f → GroupSound w' a g f
  group_kept a g f G =
      record {
        group = G.group;
        known = λ j h. registered_kept (member_at a f j) (G.known j h);
        own =
            λ j l h.
            let r = G.known j h in
            ap (own_at w') (K.slots (member_at a f j) r.small) ∙ own_kept (slot_of w (member_at a f j)) r.slot ∙ G.own j l h;
        local =
            λ j l h.
            let r = G.known j h in
            ap (local_at w') (K.slots (member_at a f j) r.small) ∙ local_kept (slot_of w (member_at a f j)) r.slot ∙ G.local j l h;
      }

  pub layout_kept : LayoutSound w'
  layout_kept =
      let L = A.layout in
      record {
        formed = subst WellFormed (sym K.layout) L.formed;
        count = K.groups ∙ L.count ∙ sym (ap group_count K.layout);
        groups =
            λ g h.
            let h₀ : g < layout_groups w = rw K.groups at h in
            let few : g < GROUP_PLACES = omega (arith, L.count, L.formed.many) in
            subst (λ (a : Arrays). GroupSound w' a g (group_family_at w' g)) (sym K.layout)
            (subst (λ (f : ℕ). GroupSound w' (layout_arrays w) g f) (sym (K.families g few)) (group_kept (layout_arrays w) g (group_family_at w g) (L.groups g h₀)));
        none =
            λ s h o.
            let h₀ : s < registered_of w = rw K.registered at h in
            let o₀ : 1 ≤ own_at w s = rw (own_kept s h₀) at o in
            rw (kind_kept s h₀) (subst (λ (a : Arrays). In (take (width_of a) a.kinds) (kind_at w s)) (sym K.layout) (L.none s h₀ o₀));
      }

  pub arranged_kept : entity.EntityPartSound (capacity_of w) (entity_part (capacity_of w) w') → Columns (shape_of w) (kind_capacity_of w) w'
      → ((s : ℕ) → registered_of w ≤ s → s < kind_capacity_of w → rows_of (shape_of w) s w' ≡ [])
      → staged_len w' ≤ LIST_CAPACITY → excluded_len w' ≤ LIST_CAPACITY → caller_of w' ≤ LAST_CALLER → WellFormed (draft_arrays w') → draft_groups w' ≡ group_count (draft_arrays w') → Arranged w'
  arranged_kept e c v st ex ca d g =
      record {
        limits = rw (capacity_kept K, kind_capacity_kept K, width_kept K) A.limits;
        enough = rw (shape_kept K, kind_capacity_kept K, K.size) A.enough;
        table = table_kept;
        entities = rw (capacity_kept K) e;
        columns = rw (shape_kept K, kind_capacity_kept K) c;
        vacant = λ s r h. rw (shape_kept K) (v s (rw K.registered at r) (rw (kind_capacity_kept K) at h));
        staged = st;
        excluded = ex;
        caller = ca;
        rule = rw K.rule A.rule;
        draft = d;
        draft_count = g;
        layout = layout_kept;
      }
