-- A column's soundness from its rows and a count; in its part, and among all words. Assumes nothing.
use mathlib.Core.Path.{◌≡◌, sym, subst, ◌∙◌}
use mathlib.Core.Bool.{true}
use mathlib.Core.List.{List}
use mathlib.Core.Logic.{◌↔◌}
use Prim.Native.Nat.{ℕ, ◌+◌, ◌≤◌}
use native.Mathlib.Omega.{arith}
use lib.ListN.{get_or}
use Rattle.model.specs.Model.{Entity, is_live}
use Rattle.words.specs.Part.{between}
use Rattle.words.specs.Counted.{filled}
use Rattle.words.specs.Decides.{Each}
use Rattle.words.proofs.Links.{held_linked, linked_held}
use Rattle.words.specs.Shape.{column_start, column_len}
use Rattle.words.specs.declared.Shape.{Shape}
use Rattle.component.specs.SparseSet.{length_of, index_at, version_at, place_of, held_of}
use Rattle.component.specs.Stored.{ColumnSized}
use Rattle.component.specs.Columns.{column_of}
use Rattle.component.proofs.Parts.{part_is}
use Rattle.entity.specs.Meaning.{entity_part, entities_in}
use Rattle.sound_columns.specs.Checks.{RowOk, LiveSet}
use Rattle.sound_columns.specs.Rows.{ColumnOk}
use Rattle.sound_columns.proofs.SlotLaws.{row_entity_law, length_read}

module _ (z : Shape) (e w : List ℕ) where
  pub live_set : ColumnSized z w → length_of w ≤ z.capacity → Each (length_of w) (RowOk z e w) → filled z.capacity (held_of z w) ≡ length_of w → LiveSet z e w
  live_set l r o c =
      record {
        sound =
            record {
              size = l.size;
              shaped = l.shaped;
              linked = held_linked z.capacity (length_of w) (index_at w) (version_at w) (place_of z w) (held_of z w) (λ i h. (o i h).tied) r c;
            };
        rows = o;
      }

  pub set_held : LiveSet z e w → filled z.capacity (held_of z w) ≡ length_of w
  set_held s = linked_held z.capacity (length_of w) (index_at w) (version_at w) (place_of z w) (held_of z w) s.sound.linked

  -- where all rows are in order, a count m of the held lookups decides
  pub live_counted : (m : ℕ) → m ≡ filled z.capacity (held_of z w) → ColumnSized z w → length_of w ≤ z.capacity → Each (length_of w) (RowOk z e w) → (m ≡ length_of w) ↔ LiveSet z e w
  live_counted m q l r o = (λ p. live_set l r o (sym q ∙ p), λ s. q ∙ set_held s)

-- slot s's column, which starts at b
module _ (z : Shape) (reg s b l : ℕ) (w : List ℕ) (q : b ≡ column_start z s) (m : l ≡ column_len z) where
  abbrev Alive : Entity → Type 0
  Alive x = is_live x (entities_in z.capacity w) ≡ true

  abbrev pub LiveAt : Type 0
  LiveAt = LiveSet z (entity_part z.capacity w) (between b (b + l) w)

  pub column_of_law : LiveAt → (reg ≤ s → get_or w b 0 ≡ 0) → ColumnOk z reg w s
  column_of_law P v =
      let L = subst (LiveSet z (entity_part z.capacity w)) (part_is z s b l w q m) P in
      record {
        sound = L.sound;
        vacant = λ h. sym (length_read z s b w q) ∙ v h;
        alive = λ i h. subst Alive (row_entity_law z s i w (omega (arith, L.sound.linked.room))) (L.rows i h).live;
      }

  pub column_set : ColumnOk z reg w s → LiveAt
  column_set C =
      let r = C.sound.linked.room in
      let L : LiveSet z (entity_part z.capacity w) (column_of z s w) =
      record {
        sound = C.sound;
        rows = λ i h. record { tied = C.sound.linked.tied i h; live = subst Alive (sym (row_entity_law z s i w (omega arith))) (C.alive i h) };
      } in
      subst (LiveSet z (entity_part z.capacity w)) (sym (part_is z s b l w q m)) L

  pub column_vacant : ColumnOk z reg w s → reg ≤ s → get_or w b 0 ≡ 0
  column_vacant C h = length_read z s b w q ∙ C.vacant h

  -- where a slot that no kind has is empty, the rest is the column's soundness
  pub column_live : (reg ≤ s → get_or w b 0 ≡ 0) → LiveAt ↔ ColumnOk z reg w s
  column_live v = (λ P. column_of_law P v, column_set)
