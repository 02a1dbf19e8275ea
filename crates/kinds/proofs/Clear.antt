-- Every column changed alike, as a change of every kind's sparse set. Assumes nothing.
use mathlib.Core.Path.{◌≡◌, refl, sym, ap, ◌∙◌, subst}
use mathlib.Core.List.{List, [], map}
use Prim.Native.Nat.{ℕ, ◌+◌, ◌*◌, ◌≤◌, ◌<◌}
use native.Mathlib.Omega.{arith}
use native.Mathlib.Decide.{dec_lt}
use borrow.Author.Tests.{ltb-true}
use lib.Dec.{ltb}
use lib.ListN.{length, get_or, length-map, get_or-map}
use Rattle.model.specs.Numbers.{ENTITY_LEN, MAX_KINDS}
use Rattle.model.specs.Model.{SparseSet, Storage}
use Rattle.model.proofs.BoolLaws.{bool_cases}
use Rattle.model.specs.Store.{on_storage}
use Rattle.words.specs.Offsets.{CALLER, ENTITIES, EXCLUDED_LEN, STAGED_LEN}
use Rattle.words.proofs.Offsets.{column_start_mono, column_start_first}
use Rattle.words.proofs.Part.{between_rest}
use Rattle.words.specs.Table.{table}
use Rattle.words.proofs.Tables.{is_table, length_table, get_d_table}
use Rattle.words.specs.Shape.{column_start, column_len, shape_of}
use Rattle.words.specs.declared.Shape.{Shape}
use Rattle.component.specs.SparseSet.{rows, ColumnSound}
use Rattle.component.specs.Columns.{column_of, rows_of, Columns}
use Rattle.component.specs.Changes.{HeadKept, Changes}
use Rattle.entity.specs.Meaning.{entity_part}
use Rattle.memory.specs.Header.{capacity_of, kind_capacity_of, registered_of, slot_of}
use Rattle.memory.specs.Meaning.{set_at, sets_in, meaning}
use Rattle.memory.specs.Arranged.{Arranged, Becomes}
use Rattle.memory.proofs.Kept.{Kept, shape_kept, kinds_kept, arranged_kept}
use Rattle.memory.proofs.Frames.{part_same, control_same, layout_same, header_kept, draft_formed, reads_means}
use Rattle.model.proofs.ListLaws.{drop_later, word_front}
use Rattle.kinds.specs.Kinds.{emptied}
use Rattle.entity.specs.Meaning as entity

-- ---- a change of the first r slots that would not change the others

module _ (z : Shape) (r m : ℕ) (h : r ≤ m) (w w' : List ℕ) (all : Columns z m w) where
  pub fewer : Columns z r w
  fewer =
      record {
        shaped = all.shaped;
        few = omega (arith, all.few);
        size = omega (arith, all.size, column_start_mono z r m h);
        columns = λ s l. all.columns s (omega arith);
      }

  module _ (f : SparseSet → SparseSet) (c : Changes z r (λ (s : ℕ). f) w w') where
    past_column : (s : ℕ) → r ≤ s → column_of z s w' ≡ column_of z s w
    unfolding column_of
    past_column s l = between_rest (column_start z r) (column_start z s) (column_start z s + column_len z) w w' (column_start_mono z r s l) c.past

    wide_sound : (s : ℕ) → s < m → ColumnSound z (column_of z s w')
    wide_sound s l =
        elim (dec_lt s r) [
          | yes q ↦ c.columns.columns s q
          | no q ↦ subst (ColumnSound z) (sym (past_column s (omega arith))) (all.columns s l)
        ]

    wide_head : (s : ℕ) → HeadKept z s w w'
    wide_head s =
        elim (dec_lt s r) [
          | yes q ↦ c.heads s q
          | no q ↦ λ i a b. ap (λ (u : List ℕ). get_or u i 0) (past_column s (omega arith))
        ]

    pub wide : ((s : ℕ) → r ≤ s → s < m → rows_of z s w ≡ f (rows_of z s w)) → Changes z m (λ (s : ℕ). f) w w'
    wide still =
        record {
          columns = record { shaped = all.shaped; few = all.few; size = omega (arith, all.size, c.size); columns = wide_sound };
          size = c.size;
          becomes =
              λ s l.
              elim (dec_lt s r) [
                | yes q ↦ c.becomes s q
                | no q ↦ ap (rows z) (past_column s (omega arith)) ∙ still s (omega arith) l
              ];
          heads = λ s l. wide_head s;
          front = c.front;
          past = drop_later (column_start z r) (column_start z m) w w' (column_start_mono z r m h) c.past;
        }

-- ---- all columns

abbrev pub on_each : (SparseSet → SparseSet) → Storage → Storage
on_each f s = record { sets = map f s.sets; layout = s.layout }

module _ (w w' : List ℕ) (A : Arranged w) (f : SparseSet → SparseSet) (none : f [] ≡ []) (o : Changes (shape_of w) (kind_capacity_of w) (λ (s : ℕ). f) w w') where
  abbrev n : ℕ
  n = capacity_of w

  abbrev z : Shape
  z = shape_of w

  same_before : (i : ℕ) → i < ENTITIES + ENTITY_LEN * n → get_or w' i 0 ≡ get_or w i 0
  same_before i h = word_front (column_start z 0) w w' o.front i (omega (arith, column_start_first z))

  same : (i : ℕ) → i < ENTITIES → get_or w' i 0 ≡ get_or w i 0
  same i h = same_before i (omega arith)

  each_kept : Kept w w'
  each_kept = header_kept w w' A o.size same (λ s h. o.heads s h)

  each_set : (k : ℕ) → k < MAX_KINDS → set_at w' k ≡ f (set_at w k)
  each_set k h =
      rw (each_kept.slots k h, each_kept.registered, shape_kept each_kept)
      (bool_cases (ltb (slot_of w k) (registered_of w))
      (λ t. rw t (o.becomes (slot_of w k) (omega (arith, ltb-true (slot_of w k) (registered_of w) t, A.table.few))))
      (λ t. rw t (sym none)))

  each_sets : sets_in w' ≡ map f (sets_in w)
  unfolding sets_in
  each_sets =
      is_table [] MAX_KINDS (set_at w') (map f (table MAX_KINDS (set_at w))) (length-map (table MAX_KINDS (set_at w)) f ∙ length_table MAX_KINDS (set_at w))
      (λ k h.
      each_set k h
      ∙ ap f (sym (get_d_table MAX_KINDS (set_at w) k [] h))
      ∙ sym (get_or-map f (table MAX_KINDS (set_at w)) k [])
      ∙ ap (get_or (map f (table MAX_KINDS (set_at w))) k) none)

  each_entities : entity_part n w' ≡ entity_part n w
  each_entities = part_same w w' o.size ENTITIES (ENTITIES + ENTITY_LEN * n) enough (λ i a b. same_before i b)
    where
      enough : ENTITIES + ENTITY_LEN * n ≤ length w
      enough = omega (arith, A.enough, column_start_first z, column_start_mono z 0 (kind_capacity_of w) (omega arith))

  pub each_becomes : Becomes w w' (on_storage (on_each f) (meaning w))
  unfolding meaning
  each_becomes =
      let K = each_kept in
      let D = draft_formed w w' A o.size same in
      record {
        arranged =
            arranged_kept A K (subst (entity.EntityPartSound n) (sym each_entities) A.entities) o.columns
            (λ s l h. o.becomes s h ∙ ap f (A.vacant s l h) ∙ none)
            (rw (same STAGED_LEN (omega arith)) A.staged) (rw (same EXCLUDED_LEN (omega arith)) A.excluded) (rw (same CALLER (omega arith)) A.caller) D.0 D.1;
        means =
            reads_means
            (record {
              settings = K.settings;
              kinds = kinds_kept A K;
              entities = ap (entity.entities_of n) each_entities;
              sets = each_sets;
              layout = layout_same w w' A o.size same;
              control = control_same w w' A o.size same;
            });
        size = o.size;
        past = o.past;
      }

-- the registered kinds' columns emptied
pub cleared : (w w' : List ℕ) (z : Shape) (r : ℕ) → Arranged w → z ≡ shape_of w → r ≡ registered_of w → Changes z r (λ (s : ℕ) (rs : SparseSet). []) w w'
    → Becomes w w' (on_storage emptied (meaning w))
cleared w w' z r A en er c =
    each_becomes w w' A (λ (rs : SparseSet). []) refl
    (wide (shape_of w) (registered_of w) (kind_capacity_of w) A.table.few w w' A.columns (λ (rs : SparseSet). []) (rw (en, er) at c) A.vacant)

pub clears : (w : List ℕ) (z : Shape) (r : ℕ) → Arranged w → z ≡ shape_of w → r ≡ registered_of w → Columns z r w
clears w z r A en er = rw (en, er) (fewer (shape_of w) (registered_of w) (kind_capacity_of w) A.table.few w w A.columns)
