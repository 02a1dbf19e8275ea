-- One slot's part lent on and back: what that leaves of the words. Assumes nothing.
use mathlib.Core.Path.{◌≡◌, ap, ◌∙◌}
use mathlib.Core.Logic.{◌≢◌}
use mathlib.Core.List.{List}
use Prim.Native.Nat.{ℕ, ◌+◌, ◌-◌, ◌≤◌, ◌<◌}
use native.Mathlib.Omega.{arith}
use native.Mathlib.Decide.{dec_lt}
use lib.ListN.{length, get_or, take, drop}
use Rattle.model.specs.Model.{SparseSet}
use Rattle.model.proofs.BoolLaws.{by-eq}
use Rattle.model.proofs.ListLaws.{take_less, drop_later}
use Rattle.words.specs.Part.{between}
use Rattle.words.proofs.Part.{patch, get_d_between, between_front, between_rest, patch_front, patch_between, patch_rest, patch_length}
use Rattle.words.specs.declared.Shape.{Shape}
use Rattle.words.specs.Shape.{column_len, column_start}
use Rattle.words.proofs.Offsets.{column_start_apart, column_start_mono}
use Rattle.component.specs.SparseSet.{rows, ColumnSound}
use Rattle.component.specs.Stored.{RowsChanged}
use Rattle.component.specs.Columns.{column_of, SlotBounds, Columns}
use Rattle.component.specs.Changes.{Lent, Only}

pub lent : (z : Shape) (m s : ℕ) (w : List ℕ) → Columns z m w → s < m → Lent z s w
lent z m s w c h =
    record {
      shaped = c.shaped;
      few = omega (arith, c.few);
      size = omega (arith, column_start_apart z s m h, c.size);
      sound = c.columns s h;
    }

-- a word of slot s, among all words
pub get_d_column : (z : Shape) (s i : ℕ) (w : List ℕ) → i < column_len z → get_or (column_of z s w) i 0 ≡ get_or w (column_start z s + i) 0
unfolding column_of
get_d_column z s i w h = get_d_between (column_start z s) (column_start z s + column_len z) i w 0 (omega arith)

-- ---- words that agree up to b agree up to a ≤ b, and those that agree from e on agree from c ≥ e on

-- words that agree before slot s and after it have the same other slots
pub others_kept : (z : Shape) (s : ℕ) (w w' : List ℕ) → take (column_start z s) w' ≡ take (column_start z s) w
    → drop (column_start z s + column_len z) w' ≡ drop (column_start z s + column_len z) w → (j : ℕ) → j ≢ s → column_of z j w' ≡ column_of z j w
unfolding column_of
others_kept z s w w' front rest j ne =
    elim (dec_lt j s) [
      | yes q ↦ between_front (column_start z s) (column_start z j) (column_start z j + column_len z) w w' (column_start_apart z j s q) front
      | no q ↦ between_rest (column_start z s + column_len z) (column_start z j) (column_start z j + column_len z) w w' (column_start_apart z s j (omega arith)) rest
    ]

-- so they agree before all slots and past m of them
pub front_kept : (z : Shape) (s : ℕ) (w w' : List ℕ) → take (column_start z s) w' ≡ take (column_start z s) w → take (column_start z 0) w' ≡ take (column_start z 0) w
front_kept z s w w' front = take_less (column_start z 0) (column_start z s) w w' (column_start_mono z 0 s (omega arith)) front

pub past_kept : (z : Shape) (m s : ℕ) (w w' : List ℕ) → s < m → drop (column_start z s + column_len z) w' ≡ drop (column_start z s + column_len z) w
    → drop (column_start z m) w' ≡ drop (column_start z m) w
past_kept z m s w w' h rest = drop_later (column_start z s + column_len z) (column_start z m) w w' (column_start_apart z s m h) rest

-- the slots are sound where slot s is and the others are as they were
pub columns_kept : (z : Shape) (m s : ℕ) (w w' : List ℕ) → Columns z m w → length w' ≡ length w → ColumnSound z (column_of z s w')
    → ((j : ℕ) → j < m → j ≢ s → column_of z j w' ≡ column_of z j w) → Columns z m w'
columns_kept z m s w w' c size sound others =
    record {
      shaped = c.shaped;
      few = c.few;
      size = omega (arith, size, c.size);
      columns = λ j hj. by-eq j s (λ q. rw q sound) (λ ne. rw (others j hj ne) (c.columns j hj));
    }

-- ---- a part changed where it lies

module _ (z : Shape) (s : ℕ) (f : SparseSet → SparseSet) (w ys : List ℕ) (l : Lent z s w) (c : RowsChanged z f (column_of z s w) ys) where
  pub only : Only z s f w (patch (column_start z s) (column_start z s + column_len z) w ys)
  unfolding column_of
  only m hs k =
      let b = column_start z s in
      let e = column_start z s + column_len z in
      let w' = patch b e w ys in
      let h : b ≤ e = omega arith in
      let y : length ys ≡ e - b = omega (arith, c.sound.size) in
      let mid : column_of z s w' ≡ ys = patch_between b e w ys h l.size y in
      let front : take b w' ≡ take b w = patch_front b e w ys h l.size y in
      let rest : drop e w' ≡ drop e w = patch_rest b e w ys h l.size y in
      let size : length w' ≡ length w = patch_length b e w ys h l.size y in
      let others : (j : ℕ) → j < m → j ≢ s → column_of z j w' ≡ column_of z j w = λ j hj ne. others_kept z s w w' front rest j ne in
      record {
        columns = columns_kept z m s w w' k size (rw mid c.sound) others;
        size = size;
        becomes = ap (rows z) mid ∙ c.becomes;
        head = λ i lo hi. ap (λ (u : List ℕ). get_or u i 0) mid ∙ c.kept i lo hi;
        others = others;
        front = front_kept z s w w' front;
        past = past_kept z m s w w' hs rest;
      }

-- the same, from where the code says that the slot starts, and as long as it says
pub part_is : (z : Shape) (s b l : ℕ) (w : List ℕ) → b ≡ column_start z s → l ≡ column_len z → between b (b + l) w ≡ column_of z s w
unfolding column_of
part_is z s b l w q r = rw (q, r)

pub only_at : (z : Shape) (s b l : ℕ) (f : SparseSet → SparseSet) (w ys : List ℕ) → b ≡ column_start z s → l ≡ column_len z → Lent z s w
    → RowsChanged z f (between b (b + l) w) ys → Only z s f w (patch b (b + l) w ys)
only_at z s b l f w ys q r t c = rw (q, r) (only z s f w ys t (rw (part_is z s b l w q r) at c))

-- the same, from the bounds that the code has of it
pub part_within : (z : Shape) (s : ℕ) (r : ℕ × ℕ) (w : List ℕ) → SlotBounds z s r → between r.0 r.1 w ≡ column_of z s w
unfolding column_of
part_within z s r w b = rw (b.starts, b.ends)

pub only_within : (z : Shape) (s : ℕ) (r : ℕ × ℕ) (f : SparseSet → SparseSet) (w ys : List ℕ) → SlotBounds z s r → Lent z s w
    → RowsChanged z f (between r.0 r.1 w) ys → Only z s f w (patch r.0 r.1 w ys)
only_within z s r f w ys b t c = rw (b.starts, b.ends) (only z s f w ys t (rw (part_within z s r w b) at c))
