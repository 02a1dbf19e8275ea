-- The model's column by its tests, and where its words stand in the lent ones. Assumes nothing.
use mathlib.Core.Path.{◌≡◌, refl, sym, ap, ◌∙◌, subst}
use mathlib.Core.Bool.{Bool, true, false}
use mathlib.Core.Option.{some, none}
use mathlib.Core.List.{List, [], ◌∷◌, map}
use Prim.Native.Nat.{ℕ, suc, ◌+◌, ◌*◌, ◌-◌, ◌≤◌, ◌<◌}
use native.Mathlib.Nat.{mul-add, mul-le-mul}
use native.Mathlib.Omega.{arith}
use borrow.Author.Tests.{lt-ltb, le-ltb}
use lib.ListN.{length, get_or, take, drop, length-map, length-drop, get_or-map}
use lib.Seq.{length-take-le, drop-cons}
use denote.Ref.{Bor}
use Rattle.model.specs.Numbers.{LAST_KIND, MAX_ENTITIES, KIND, BEYOND, stride_of}
use Rattle.model.specs.Model.{Row, SparseSet, set_of, keys, entity_of, no_row}
use Rattle.model.specs.Store.{Store, is_kind}
use Rattle.model.specs.Entries.{in_words, column_refusal, column, part_words, item_words}
use Rattle.model.specs.Entries as model
use Rattle.model.specs.Sound.{In}
use Rattle.model.proofs.Entries.{column_accepted}
use Rattle.model.specs.Theorems.{Columned}
use Rattle.words.specs.Offsets.{ROWS}
use Rattle.words.proofs.Part.{part_size, between_part}
use Rattle.words.proofs.Offsets.{column_start_fits, values_len_fits, values_len_is, values_len_mono}
use Rattle.words.specs.Shape.{column_start, column_len, shape_of, shape, values_len, entity_place, value_place}
use Rattle.words.specs.declared.Shape.{Shape}
use Rattle.values.specs.Values.{digits}
use Rattle.values.proofs.Numbers.{words_from}
use Rattle.values.proofs.Places.{value_inside}
use Rattle.component.specs.SparseSet.{length_of, row_at}
use Rattle.component.proofs.Meaning.{length_rows, get_d_rows}
use Rattle.component.specs.Columns.{column_of}
use Rattle.component.proofs.Parts.{get_d_column, part_is}
use Rattle.memory.specs.Header.{capacity_of, slot_of, value_bytes_of}
use Rattle.memory.specs.Meaning.{meaning}
use Rattle.memory.specs.Arranged.{Arranged}
use Rattle.kinds.specs.Kinds.{kind_set}
use Rattle.kinds.specs.Steps.{InSlot}
use Rattle.kinds.proofs.Slot.{known_slot, slot_alike}
use Rattle.columns.specs.Parts.{row_place, RowsPart}
use Rattle.columns.proofs.Items.{items_part, entity_item, entity_items, value_items, in_words_law}

-- ---- the lines of column

module _ (k a e : ℕ) (s : Store) where
  pub column_large : LAST_KIND < k → column_refusal k a e s ≡ some KIND
  unfolding column_refusal
  column_large h = rw (lt-ltb LAST_KIND k h)

  module _ (h : k ≤ LAST_KIND) where
    pub column_unknown : is_kind k s ≡ false → column_refusal k a e s ≡ some KIND
    unfolding column_refusal
    column_unknown u = rw (le-ltb LAST_KIND k h, u)

    module _ (u : is_kind k s ≡ true) where
      pub column_turned : e < a → column_refusal k a e s ≡ some BEYOND
      unfolding column_refusal
      column_turned t = rw (le-ltb LAST_KIND k h, u, lt-ltb e a t)

      pub column_beyond : a ≤ e → length (set_of s.storage.sets k) < e → column_refusal k a e s ≡ some BEYOND
      unfolding column_refusal
      column_beyond o t = rw (le-ltb LAST_KIND k h, u, le-ltb e a o, lt-ltb (length (set_of s.storage.sets k)) e t)

      pub column_within : a ≤ e → e ≤ length (set_of s.storage.sets k) → column_refusal k a e s ≡ none
      unfolding column_refusal
      column_within o t = rw (le-ltb LAST_KIND k h, u, le-ltb e a o, le-ltb (length (set_of s.storage.sets k)) e t)

-- ---- where a row stands, by what the words mean alone

pub row_alike : (w v : List ℕ) → Arranged w → Arranged v → meaning w ≡ meaning v → (values : Bool) (k a : ℕ) → In (meaning v).kinds k → row_place values w k a ≡ row_place values v k a
unfolding meaning
row_alike w v A B e values k a i = go values
  where
    slot : slot_of w k ≡ slot_of v k
    slot = slot_alike w v A B (λ j. (e j).kinds) k i

    shapes : shape_of w ≡ shape_of v
    shapes = ap (λ (x : Store). shape x.settings.capacity x.settings.value_bytes) e

    go : (b : Bool) → row_place b w k a ≡ row_place b v k a
    go false = λ j. column_start (shapes j) (slot j) + entity_place a
    go true = λ j. column_start (shapes j) (slot j) + value_place (shapes j) a

-- ---- the rows of a registered kind

-- the words of a value that stand in a column
run_column : (z : Shape) (s p d : ℕ) (w : List ℕ) → p + d ≤ column_len z → take d (drop p (column_of z s w)) ≡ take d (drop (column_start z s + p) w)
run_column z s p d w h =
    let b : ℕ = column_start z s in
    let n : b + (p + d) - (b + p) ≡ d = omega arith in
    ap (λ (c : List ℕ). take d (drop p c)) (sym (part_is z s b (column_len z) w refl refl))
    ∙ sym (part_size (take (b + column_len z - b) (drop b w)) p d)
    ∙ between_part p (p + d) b (b + column_len z) w (omega arith)
    ∙ ap (λ (m : ℕ). take m (drop (b + p) w)) n

-- the words of m values after those of a
values_add : (d a m : ℕ) → values_len d a + d * m ≡ values_len d (a + m)
values_add d a m = omega (arith, values_len_is d a, values_len_is d (a + m), mul-add d a m)

module _ (w : List ℕ) (A : Arranged w) (k : ℕ) (i : In (meaning w).kinds k) where
  abbrev z : Shape
  z = shape_of w

  slot_at : InSlot w k (slot_of w k)
  slot_at = known_slot w A k i

  rows_len : length (kind_set w k) ≡ length_of (column_of z (slot_of w k) w)
  rows_len = ap length slot_at.rows ∙ length_rows z (column_of z (slot_of w k) w)

  pub rows_few : length (kind_set w k) ≤ capacity_of w
  rows_few = omega (arith, rows_len, slot_at.lent.sound.linked.room)

  pub row_start_small : (values : Bool) (a : ℕ) → a ≤ length (kind_set w k) → row_place values w k a ≤ 4340000
  row_start_small false a h = omega (arith, rows_few, A.limits.most, column_start_fits z (slot_of w k) A.columns.shaped (omega (arith, slot_at.lent.few)))
  row_start_small true a h = omega (arith, rows_few, A.limits.most, column_start_fits z (slot_of w k) A.columns.shaped (omega (arith, slot_at.lent.few)), values_len_fits z a A.columns.shaped (omega (arith, rows_few)))

  -- the words of a row
  row_word : (j : ℕ) → j < column_len z → get_or w (column_start z (slot_of w k) + j) 0 ≡ get_or (column_of z (slot_of w k) w) j 0
  row_word j h = sym (get_d_column z (slot_of w k) j w h)

  row_is : (j : ℕ) → j < length (kind_set w k) → get_or (kind_set w k) j no_row ≡ row_at z (column_of z (slot_of w k) w) j
  row_is j h = ap (λ (rs : SparseSet). get_or rs j no_row) slot_at.rows ∙ get_d_rows z (column_of z (slot_of w k) w) j (omega (arith, rows_len))

  module _ (small : (j : ℕ) → get_or w j 0 < 4294967296) where
    word_of : (p q j : ℕ) → p ≡ q + j → q ≡ column_start z (slot_of w k) → j < column_len z → get_or w p 0 ≡ get_or (column_of z (slot_of w k) w) j 0
    word_of p q j e b h = ap (λ (n : ℕ). get_or w n 0) e ∙ ap (λ (n : ℕ). get_or w (n + j) 0) b ∙ row_word j h

    entity_there : (j : ℕ) → j < length (kind_set w k) → take 2 (drop (column_start z (slot_of w k) + ROWS + 2 * j) w) ≡ entity_item (entity_of (get_or (kind_set w k) j no_row))
    entity_there j h =
        let b : ℕ = column_start z (slot_of w k) in
        let p : ℕ = b + ROWS + 2 * j in
        let q : suc p ≡ p + 1 = omega arith in
        let two : drop p w ≡ get_or w p 0 ∷ get_or w (suc p) 0 ∷ drop (suc (suc p)) w =
        drop-cons w p 0 (omega (arith, rows_few, slot_at.lent.size)) ∙ ap (λ (u : List ℕ). get_or w p 0 ∷ u) (drop-cons w (suc p) 0 (omega (arith, rows_few, slot_at.lent.size))) in
        let lo = word_of p b (ROWS + 2 * j) (omega arith) refl (omega (arith, rows_few)) ∙ sym (ap (λ (r : Row). r.entity.index) (row_is j h)) in
        let hi = ap (λ (n : ℕ). get_or w n 0) q ∙ word_of (p + 1) b (ROWS + 2 * j + 1) (omega arith) refl (omega (arith, rows_few)) ∙ sym (ap (λ (r : Row). r.entity.version) (row_is j h)) in
        ap (take 2) two ∙ (λ t. lo t ∷ hi t ∷ [])

    value_there : (j : ℕ) → j < length (kind_set w k) → take z.stride (drop (column_start z (slot_of w k) + (ROWS + 4 * z.capacity) + z.stride * j) w) ≡ in_words z.stride (get_or (kind_set w k) j no_row).value
    value_there j h =
        let b : ℕ = column_start z (slot_of w k) in
        let d = z.stride in
        let p : ℕ = b + value_place z j in
        let at : b + (ROWS + 4 * z.capacity) + d * j ≡ p = omega (arith, values_len_is d j) in
        let inside : value_place z j + d ≤ column_len z = value_inside z j (omega (arith, rows_few)) in
        let long : length (take d (drop p w)) ≡ d = length-take-le d (drop p w) (omega (arith, length-drop p w, inside, slot_at.lent.size)) in
        let value : (get_or (kind_set w k) j no_row).value ≡ digits (take d (drop p w)) =
        ap (λ (r : Row). r.value) (row_is j h) ∙ ap digits (run_column z (slot_of w k) (value_place z j) d w inside) in
        ap (λ (n : ℕ). take d (drop n w)) at ∙ sym (in_words_law d (drop p w) (words_from p w small) long) ∙ ap (in_words d) (sym value)

    -- the part from row a to row a + m
    pub part_there : (values : Bool) (a m : ℕ) → a + m ≤ length (kind_set w k) → part_words (value_bytes_of w) values a (a + m) (kind_set w k) ≡ take (item_words (value_bytes_of w) values * m) (drop (row_place values w k a) w)
    part_there false a m h =
        let b : ℕ = column_start z (slot_of w k) in
        let rs = kind_set w k in
        let l : length (keys rs) ≡ length rs = length-map rs entity_of in
        let at : b + ROWS + 2 * a ≡ b + entity_place a = omega arith in
        entity_items (model.part a (a + m) (keys rs))
        ∙ items_part entity_item 2 (entity_of no_row) (keys rs) w (b + ROWS) (λ j q. entity_there j (omega (arith, l)) ∙ sym (ap entity_item (get_or-map entity_of rs j no_row))) m a (omega (arith, l))
        ∙ ap (λ (n : ℕ). take (2 * m) (drop n w)) at
    part_there true a m h =
        let b : ℕ = column_start z (slot_of w k) in
        let d = z.stride in
        let rs = kind_set w k in
        let l : length (map model.row_value rs) ≡ length rs = length-map rs model.row_value in
        let at : b + (ROWS + 4 * z.capacity) + d * a ≡ b + value_place z a = omega (arith, values_len_is d a) in
        value_items d (model.part a (a + m) (map model.row_value rs))
        ∙ items_part (in_words d) d (model.row_value no_row) (map model.row_value rs) w (b + (ROWS + 4 * z.capacity)) (λ j q. value_there j (omega (arith, l)) ∙ sym (ap (in_words d) (get_or-map model.row_value rs j no_row))) m a (omega (arith, l))
        ∙ ap (λ (n : ℕ). take (d * m) (drop n w)) at

  part_inside : (values : Bool) (a m : ℕ) → a + m ≤ length (kind_set w k) → row_place values w k a + item_words (value_bytes_of w) values * m ≤ length w
  part_inside false a m h = omega (arith, rows_few, slot_at.lent.size)
  part_inside true a m h = omega (arith, slot_at.lent.size, values_add z.stride a m, values_len_mono z.stride (a + m) z.capacity (omega (arith, rows_few)))

  part_few : (values : Bool) (m : ℕ) → m ≤ length (kind_set w k) → item_words (value_bytes_of w) values * m ≤ 4 * MAX_ENTITIES
  part_few false m h = omega (arith, rows_few, A.limits.most)
  part_few true m h = let q : m ≤ MAX_ENTITIES = omega (arith, rows_few, A.limits.most) in mul-le-mul A.columns.shaped.words.most q

bytes_mean : (w : List ℕ) → value_bytes_of w ≡ (meaning w).settings.value_bytes
unfolding meaning
bytes_mean w = refl

-- the code's words of a row among the values
pub stride_item : (w : List ℕ) (z : Shape) → z ≡ shape_of w → (values : Bool) → values ≡ true → z.stride ≡ item_words (meaning w).settings.value_bytes values
stride_item w z e values q = rw q (ap (λ (y : Shape). y.stride) e ∙ ap stride_of (bytes_mean w))

-- the code's place of a row, of the shape z, the slot t, where the slot's column starts and where the row is in it
module _ (w : List ℕ) (k a : ℕ) (z : Shape) (t b p : ℕ) (en : z ≡ shape_of w) (et : t ≡ slot_of w k) (eb : b ≡ column_start z t) where
  pub value_place_law : p ≡ value_place z a → (values : Bool) → values ≡ true → b + p ≡ row_place values w k a
  value_place_law ep values q = rw q (rw (eb, ep, en, et))

  pub entity_place_law : p ≡ entity_place a → (values : Bool) → values ≡ false → b + p ≡ row_place values w k a
  entity_place_law ep values q = rw q (rw (eb, ep, en, et))

-- ---- an accepted column

-- it is a part of the words, of at most 4,096 rows
pub record Inside (w : List ℕ) (values : Bool) (k a e size : ℕ) : Type 0 where
  pub order : a ≤ e
  pub few : size ≤ 4 * MAX_ENTITIES
  pub within : row_place values w k a + size ≤ length w

-- how many words it has
abbrev pub size_of : List ℕ → Bool → ℕ → ℕ → ℕ
size_of w values a e = item_words (meaning w).settings.value_bytes values * (e - a)

module _ (w : List ℕ) (values : Bool) (k a e : ℕ) (A : Arranged w) (taken : column_refusal k a e (meaning w) ≡ none) where
  pub known_of : Columned values k a e (meaning w)
  known_of = column_accepted values k a e (meaning w) taken

  pub inside_of : Inside w values k a e (size_of w values a e)
  inside_of =
      subst (λ (v : ℕ). Inside w values k a e (item_words v values * (e - a))) (bytes_mean w)
      (record {
        order = known_of.order;
        few = part_few w A k known_of.known values (e - a) (omega (arith, known_of.order, known_of.inside));
        within = part_inside w A k known_of.known values a (e - a) (omega (arith, known_of.order, known_of.inside));
      })

  -- its words, where they stand
  pub words_there : ((j : ℕ) → get_or w j 0 < 4294967296) → column values k a e (meaning w) ≡ take (size_of w values a e) (drop (row_place values w k a) w)
  words_there small =
      let up : a + (e - a) ≡ e = omega (arith, known_of.order) in
      let fits : a + (e - a) ≤ length (kind_set w k) = omega (arith, known_of.inside, up) in
      let there = part_there w A k known_of.known small values a (e - a) fits in
      let wide : part_words (meaning w).settings.value_bytes values a (a + (e - a)) (kind_set w k) ≡ take (size_of w values a e) (drop (row_place values w k a) w) =
      subst (λ (v : ℕ). part_words v values a (a + (e - a)) (kind_set w k) ≡ take (item_words v values * (e - a)) (drop (row_place values w k a) w)) (bytes_mean w) there in
      known_of.words ∙ subst (λ (x : ℕ). part_words (meaning w).settings.value_bytes values a x (kind_set w k) ≡ take (size_of w values a e) (drop (row_place values w k a) w)) up wide

pub rows_part : (v r : Bor (List ℕ)) (values : Bool) (k a e first last : ℕ) → Arranged v.now → column_refusal k a e (meaning v.now) ≡ none → ((j : ℕ) → get_or v.now j 0 < 4294967296)
    → first ≡ row_place values v.now k a → last ≡ first + size_of v.now values a e → r.ref_ptr.0 ≡ v.ref_ptr.0 → r.ref_ptr.1 ≡ first * 4 + v.ref_ptr.1 → r.now ≡ take (last - first) (drop first v.now) → RowsPart v r values k a e
rows_part v r values k a e first last A taken small at end block offset words =
    let w = v.now in
    let place : ℕ = row_place values w k a in
    let size : ℕ = size_of w values a e in
    let inside : place + size ≤ length w = (inside_of w values k a e A taken).within in
    let cut : last - first ≡ size = omega arith in
    let is : r.now ≡ take size (drop place w) = words ∙ ap (λ (n : ℕ). take n (drop first w)) cut ∙ ap (λ (n : ℕ). take size (drop n w)) at in
    let long : length r.now ≡ size = ap length is ∙ length-take-le size (drop place w) (omega (arith, inside, length-drop place w)) in
    record {
      words = is ∙ sym (words_there w values k a e A taken small);
      part = rw long (record { block = block; offset = offset ∙ ap (λ (n : ℕ). n * 4 + v.ref_ptr.1) at; inside = inside; words = is });
    }
