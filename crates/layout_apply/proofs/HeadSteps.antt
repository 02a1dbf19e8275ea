-- The columns' heads changed one after another. Assumes nothing.
use mathlib.Core.Path.{◌≡◌, refl, sym, ap, ◌∙◌, subst}
use mathlib.Core.Logic.{◌≢◌}
use mathlib.Core.List.{List}
use Prim.Native.Nat.{ℕ, suc, ◌+◌, ◌≤◌, ◌<◌}
use native.Mathlib.Numerals.{add-one}
use native.Mathlib.Omega.{arith}
use lib.ListN.{get_or, set, take}
use Rattle.model.specs.Sound.{In}
use Rattle.words.specs.Offsets.{CAPACITY, COLUMN_KIND, ENTITIES, KIND_CAPACITY, LAYOUT_FAMILIES, OWN_GROUP, PLACE_IN_FAMILY, REGISTERED, TABLE, VALUE_WIDTH}
use Rattle.words.proofs.Offsets.{column_start_first}
use Rattle.words.specs.Shape.{column_start, shape_of, shape}
use Rattle.words.specs.declared.Shape.{Shape}
use Rattle.model.proofs.BoolLaws.{by-eq}
use Rattle.component.specs.Columns.{column_of, Columns}
use Rattle.component.proofs.Frames.{headed}
use Rattle.layout.specs.Layout.{Arrays, WellFormed, width_of}
use Rattle.memory.specs.Header.{capacity_of, kind_capacity_of, registered_of, slot_of}
use Rattle.memory.specs.Meaning.{kind_at, own_at, local_at, layout_arrays}
use Rattle.memory.proofs.Frames.{layout_arrays_same}
use Rattle.memory.proofs.LayoutWords.{words_sized}
use Rattle.model.proofs.ListLaws.{word_front}
use Rattle.layout_apply.specs.Heads.{with_own, Reheaded, Heads, Groupless, Slotted, kind_no, slot_no, HeadsReady, NewAt, place_no, HeadIs, Upto, HeadedUpto}
use Rattle.layout_apply.proofs.Arities.{kinds_apart, kind_among, same_place, place_below}

-- ---- nothing but words 2 and 3 of the heads

pub reheaded_none : (z : Shape) (k : ℕ) (w : List ℕ) → Columns z k w → Reheaded z k w w
reheaded_none z k w c = record { columns = c; size = refl; rows = λ s h. refl; kinds = λ s h. refl; front = refl; past = refl }

pub reheaded_then : (z : Shape) (k : ℕ) (w₀ w w' : List ℕ) → Reheaded z k w₀ w → Reheaded z k w w' → Reheaded z k w₀ w'
reheaded_then z k w₀ w w' r q =
    record {
      columns = q.columns;
      size = q.size ∙ r.size;
      rows = λ s h. q.rows s h ∙ r.rows s h;
      kinds = λ s h. q.kinds s h ∙ r.kinds s h;
      front = q.front ∙ r.front;
      past = q.past ∙ r.past;
    }

-- ---- one column

pub record Owned (z : Shape) (k s o p : ℕ) (w w' : List ℕ) : Type 0 where
  pub heads : Reheaded z k w w'
  pub own : get_or (column_of z s w') OWN_GROUP 0 ≡ o
  pub local : get_or (column_of z s w') PLACE_IN_FAMILY 0 ≡ p
  pub others : (j : ℕ) → j < k → j ≢ s → column_of z j w' ≡ column_of z j w

pub owned : (z : Shape) (k s own place : ℕ) (w : List ℕ) → Columns z k w → s < k → Owned z k s own place w (with_own z s own place w)
owned z k s own place w c h =
    let w₁ = set w (column_start z s + OWN_GROUP) own in
    let a = headed z k s OWN_GROUP own w c h (omega arith) (omega arith) in
    let b = headed z k s PLACE_IN_FAMILY place w₁ a.columns h (omega arith) (omega arith) in
    record {
      heads =
          record {
            columns = b.columns;
            size = b.size ∙ a.size;
            rows = λ j hj. b.same j hj ∙ a.same j hj;
            kinds =
                λ j hj.
                by-eq j s
                (λ e. rw e (b.words 1 (omega arith) ∙ a.words 1 (omega arith)))
                (λ ne. ap (λ (u : List ℕ). get_or u COLUMN_KIND 0) (b.others j hj ne ∙ a.others j hj ne));
            front = b.front ∙ a.front;
            past = b.past ∙ a.past;
          };
      own = b.words OWN_GROUP (omega arith) ∙ a.word;
      local = b.word;
      others = λ j hj ne. b.others j hj ne ∙ a.others j hj ne;
    }

-- ---- no column in a group

pub clear_none : (z : Shape) (k : ℕ) (w : List ℕ) → Columns z k w → Groupless z k 0 w w
clear_none z k w c = record { heads = reheaded_none z k w c; none = λ s h. absurd (omega arith) }

pub clear_more : (z : Shape) (k s : ℕ) (w₀ w : List ℕ) → s < k → Groupless z k s w₀ w → Groupless z k (s + 1) w₀ (with_own z s 0 0 w)
clear_more z k s w₀ w h G =
    let o = owned z k s 0 0 w G.heads.columns h in
    record {
      heads = reheaded_then z k w₀ w (with_own z s 0 0 w) G.heads o.heads;
      none =
          λ j hj.
          by-eq j s (λ e. rw e o.own) (λ ne. ap (λ (u : List ℕ). get_or u OWN_GROUP 0) (o.others j (omega arith) ne) ∙ G.none j (omega arith));
    }

-- ---- a change of the heads leaves all but them

module _ (w w' : List ℕ) (R : HeadsReady w) (H : Heads w w') where
  pub word_same : (i : ℕ) → i < ENTITIES → get_or w' i 0 ≡ get_or w i 0
  word_same i h = word_front (column_start (shape_of w) 0) w w' H.front i (omega (arith, column_start_first (shape_of w)))

  pub capacity_same : capacity_of w' ≡ capacity_of w
  capacity_same = word_same CAPACITY (omega arith)

  pub shape_same : shape_of w' ≡ shape_of w
  shape_same = λ i. shape (capacity_same i) (word_same VALUE_WIDTH (omega arith) i)

  kind_capacity_same : kind_capacity_of w' ≡ kind_capacity_of w
  kind_capacity_same = word_same KIND_CAPACITY (omega arith)

  pub registered_same : registered_of w' ≡ registered_of w
  registered_same = word_same REGISTERED (omega arith)

  pub arrays_same : layout_arrays w' ≡ layout_arrays w
  arrays_same = layout_arrays_same w w' H.size R.long (word_same LAYOUT_FAMILIES (omega arith)) (λ i a b. word_same i (omega arith))

  pub head_same : (s i : ℕ) → get_or (column_of (shape_of w') s w') i 0 ≡ get_or (column_of (shape_of w) s w') i 0
  head_same s i = ap (λ (c : Shape). get_or (column_of c s w') i 0) shape_same

  pub kind_same : (s : ℕ) → s < registered_of w → kind_at w' s ≡ kind_at w s
  kind_same s h = head_same s COLUMN_KIND ∙ H.kinds s (omega (arith, R.few))

  slotted_same : (k : ℕ) → Slotted w k → Slotted w' k
  slotted_same k S =
      let e : slot_of w' k ≡ slot_of w k = word_same (TABLE + k) (omega (arith, S.small)) in
      record {
        small = S.small;
        slot = rw (e, registered_same) S.slot;
        back = ap (kind_at w') e ∙ kind_same (slot_of w k) S.slot ∙ S.back;
      }

  pub ready_kept : HeadsReady w'
  ready_kept =
      record {
        long = omega (arith, R.long, H.size);
        columns = rw (shape_same, kind_capacity_same) H.columns;
        few = rw (registered_same, kind_capacity_same) R.few;
        formed = subst WellFormed (sym arrays_same) R.formed;
        known =
            λ p h.
            subst (λ (a : Arrays). Slotted w' (get_or a.kinds p 0)) (sym arrays_same)
            (slotted_same (kind_no w p) (R.known p (subst (λ (a : Arrays). p < width_of a) arrays_same h)));
      }

  pub heads_then : (w'' : List ℕ) → Heads w' w'' → Heads w w''
  heads_then w'' H' =
      reheaded_then (shape_of w) (kind_capacity_of w) w w' w'' H (rw (shape_same, kind_capacity_same) at H')

pub heads_none : (w : List ℕ) → HeadsReady w → Heads w w
heads_none w R = reheaded_none (shape_of w) (kind_capacity_of w) w R.columns

-- ---- the heads of the layout's kinds

module _ (w : List ℕ) (R : HeadsReady w) where
  abbrev a : Arrays
  a = layout_arrays w

  -- different kinds have different slots
  slots_apart : (p q : ℕ) → p < width_of a → q < width_of a → p ≢ q → slot_no w p ≢ slot_no w q
  slots_apart p q hp hq ne e =
      kinds_apart a R.formed (words_sized w R.long) p q hp hq ne
      (sym (R.known p hp).back ∙ ap (kind_at w) e ∙ (R.known q hq).back)

  pub slot_small : (p : ℕ) → p < width_of a → slot_no w p < kind_capacity_of w
  slot_small p h = omega (arith, (R.known p h).slot, R.few)

  module _ (f g j : ℕ) (N : NewAt a f g j) where
    abbrev p : ℕ
    p = place_no a f j

    abbrev s : ℕ
    s = slot_no w p

    abbrev w' : List ℕ
    w' = with_own (shape_of w) s (g + 1) j w

    below : p < width_of a
    below = place_below a R.formed (words_sized w R.long) f g j N

    change : Owned (shape_of w) (kind_capacity_of w) s (g + 1) j w w'
    change = owned (shape_of w) (kind_capacity_of w) s (g + 1) j w R.columns (slot_small p below)

    slot_same : (q : ℕ) → q < width_of a → slot_no w' q ≡ slot_no w q
    slot_same q h =
        ap (λ (b : Arrays). slot_of w' (get_or b.kinds q 0)) (arrays_same w w' R change.heads)
        ∙ word_same w w' R change.heads (TABLE + kind_no w q) (omega (arith, (R.known q h).small))

    head_other : (t i : ℕ) → t < kind_capacity_of w → t ≢ s → get_or (column_of (shape_of w') t w') i 0 ≡ get_or (column_of (shape_of w) t w) i 0
    head_other t i h ne = head_same w w' R change.heads t i ∙ ap (λ (u : List ℕ). get_or u i 0) (change.others t h ne)

    right_more : Upto w p → (f' g' j' : ℕ) → NewAt a f' g' j' → place_no a f' j' < p + 1 → HeadIs w' (place_no a f' j') g' j'
    right_more U f' g' j' N' h =
        let q = place_no a f' j' in
        let hq : q < width_of a = place_below a R.formed (words_sized w R.long) f' g' j' N' in
        by-eq q p
        (λ e.
        let S = same_place a R.formed (words_sized w R.long) f g j f' g' j' N N' (sym e) in
        let t : slot_no w' q ≡ s = slot_same q hq ∙ ap (slot_no w) e in
        record {
          own = ap (own_at w') t ∙ head_same w w' R change.heads s OWN_GROUP ∙ change.own ∙ add-one g ∙ ap suc S.group;
          local = ap (local_at w') t ∙ head_same w w' R change.heads s PLACE_IN_FAMILY ∙ change.local ∙ S.place;
        })
        (λ ne.
        let U' = U.right f' g' j' N' (omega arith) in
        let t = slot_same q hq in
        let o = slots_apart q p hq below ne in
        record {
          own = ap (own_at w') t ∙ head_other (slot_no w q) OWN_GROUP (slot_small q hq) o ∙ U'.own;
          local = ap (local_at w') t ∙ head_other (slot_no w q) PLACE_IN_FAMILY (slot_small q hq) o ∙ U'.local;
        })

    none_more : Upto w p → (t : ℕ) → t < registered_of w → 1 ≤ own_at w' t → In (take (width_of a) a.kinds) (kind_at w' t)
    none_more U t h o =
        by-eq t s
        (λ e. subst (In (take (width_of a) a.kinds)) (sym (kind_same w w' R change.heads t h ∙ ap (kind_at w) e ∙ (R.known p below).back)) (kind_among a R.formed (words_sized w R.long) p below))
        (λ ne.
        subst (In (take (width_of a) a.kinds)) (sym (kind_same w w' R change.heads t h))
        (U.none t h (rw (head_other t OWN_GROUP (omega (arith, R.few)) ne) at o)))

    pub upto_more : Upto w p → HeadedUpto w w' (p + 1)
    upto_more U =
        let e = arrays_same w w' R change.heads in
        record {
          heads = change.heads;
          upto =
              record {
                right =
                    subst (λ (b : Arrays). (f' g' j' : ℕ) → NewAt b f' g' j' → place_no b f' j' < p + 1 → HeadIs w' (place_no b f' j') g' j') (sym e)
                    (right_more U);
                none =
                    λ t h o.
                    subst (λ (b : Arrays). In (take (width_of b) b.kinds) (kind_at w' t)) (sym e)
                    (none_more U t (rw (registered_same w w' R change.heads) at h) o);
              };
        }

-- nothing done yet, where no column is in a group
pub upto_none : (w : List ℕ) → ((s : ℕ) → s < registered_of w → own_at w s ≡ 0) → Upto w 0
upto_none w none = record { right = λ f g j N h. absurd (omega arith); none = λ s h o. absurd (omega (arith, none s h)) }
