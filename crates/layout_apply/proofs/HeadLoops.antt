-- The loops that set the heads: over a group's new kinds, a family's groups, the families. Assumes nothing.
use mathlib.Core.Path.{◌≡◌, sym, ap, ◌∙◌, subst}
use mathlib.Core.List.{List}
use Prim.Native.Nat.{ℕ, ◌+◌, ◌-◌, ◌≤◌, ◌<◌}
use native.Mathlib.Nat.{add-zero}
use native.Mathlib.Numerals.{add-one}
use native.Mathlib.Omega.{arith}
use lib.ListN.{get_or}
use Rattle.model.specs.Numbers.{MAX_GROUP_ARITY, MAX_GROUP_COUNT, MAX_KINDS}
use Rattle.words.specs.Offsets.{GROUP_PLACES, LAYOUT, LAYOUT_ARITIES, LAYOUT_KIND_ENDS, TABLE}
use Rattle.words.specs.Shape.{shape_of}
use Rattle.words.specs.declared.Shape.{Shape}
use Rattle.component.specs.Changes.{Lent}
use Rattle.component.proofs.Parts.{lent}
use Rattle.layout.specs.Layout.{Arrays, start_of, width_of}
use Rattle.layout.specs.Group.{InFamily, arity_of, prior_arity}
use Rattle.layout.specs.Reading.{ReadStart}
use Rattle.layout.proofs.Arrays.{kind_order_law}
use Rattle.layout.proofs.Groups as groups
use Rattle.layout.proofs.Family.{start_next}
use Rattle.memory.specs.Header.{kind_capacity_of, slot_of}
use Rattle.memory.specs.Meaning.{layout_arrays}
use Rattle.memory.proofs.LayoutWords.{words_sized, kind_word, arity_word, kind_start_word}
use Rattle.layout_apply.specs.Heads.{with_own, Heads, slot_no, HeadsReady, NewAt, place_no, Upto, HeadedUpto, HeadsGroup}
use Rattle.layout_apply.proofs.Arities.{place_below}
use Rattle.layout_apply.proofs.HeadSteps.{heads_none, heads_then, ready_kept, shape_same, arrays_same, slot_small, upto_more}

-- ---- one kind's column

module _ (w : List ℕ) (R : HeadsReady w) (p : ℕ) (h : p < width_of (layout_arrays w)) where
  place_small : p < MAX_KINDS
  place_small = omega (arith, R.formed.wide)

  pub kind_small_law : (k : ℕ) → k ≡ get_or w (LAYOUT + p) 0 → k < MAX_KINDS
  kind_small_law k e = omega (arith, (R.known p h).small, kind_word w p place_small)

  pub slot_is : (k s : ℕ) → k ≡ get_or w (LAYOUT + p) 0 → s ≡ get_or w (TABLE + k) 0 → s ≡ slot_no w p
  slot_is k s ek es = es ∙ ap (slot_of w) (ek ∙ sym (kind_word w p place_small))

  pub member_lent : (z : Shape) (k s : ℕ) → z ≡ shape_of w → k ≡ get_or w (LAYOUT + p) 0 → s ≡ get_or w (TABLE + k) 0 → Lent z s w
  member_lent z k s en ek es =
      rw (en, slot_is k s ek es) (lent (shape_of w) (kind_capacity_of w) (slot_no w p) w R.columns (slot_small w R p h))

-- ---- a group's new kinds

module _ (w : List ℕ) (R : HeadsReady w) (f g : ℕ) (G : InFamily (layout_arrays w) f g) where
  pub group_few : g < MAX_GROUP_COUNT
  group_few = groups.group_few (layout_arrays w) R.formed (words_sized w R.long) f g G

  pub family_few : f < MAX_GROUP_COUNT
  family_few = groups.family_few (layout_arrays w) R.formed (words_sized w R.long) f g G

  arity_few : arity_of (layout_arrays w) g ≤ MAX_GROUP_ARITY
  arity_few = omega (arith, groups.arity_inside (layout_arrays w) R.formed (words_sized w R.long) f g G, (R.formed.family f G.family).most)

  prior_few : prior_arity (layout_arrays w) f g ≤ arity_of (layout_arrays w) g
  prior_few = omega (arith, groups.prior_less (layout_arrays w) R.formed (words_sized w R.long) f g G)

-- w₀ are the words before group g's new kinds; the heads are set up to place j of family f
pub record Groupwise (w₀ : List ℕ) (z : Shape) (f g start arity : ℕ) (w : List ℕ) (j : ℕ) : Type 0 where
  pub ready : HeadsReady w₀
  pub group : InFamily (layout_arrays w₀) f g
  pub shape : z ≡ shape_of w₀
  pub starts : start ≡ start_of (layout_arrays w₀).kind_ends f
  pub ends : arity ≡ arity_of (layout_arrays w₀) g
  pub low : prior_arity (layout_arrays w₀) f g ≤ j
  pub high : j ≤ arity
  pub headed : HeadedUpto w₀ w (place_no (layout_arrays w₀) f j)

pub group_none : (w : List ℕ) (z : Shape) (f g prior start arity : ℕ) → HeadsReady w → z ≡ shape_of w → InFamily (layout_arrays w) f g → prior ≡ prior_arity (layout_arrays w) f g
    → Upto w (place_no (layout_arrays w) f prior) → ReadStart w LAYOUT_KIND_ENDS f start → arity ≡ get_or w (LAYOUT_ARITIES + g) 0 → Groupwise w z f g start arity w prior
group_none w z f g prior start arity R en G ep U es ea =
    let q : arity ≡ arity_of (layout_arrays w) g = ea ∙ sym (arity_word w g (omega (arith, group_few w R f g G))) in
    record {
      ready = R;
      group = G;
      shape = en;
      starts = es.is ∙ sym (kind_start_word w f (omega (arith, family_few w R f g G)));
      ends = q;
      low = omega arith;
      high = omega (arith, prior_few w R f g G);
      headed = record { heads = heads_none w R; upto = U };
    }

-- what the next kind's column asks
pub record NextKind (w : List ℕ) (z : Shape) (g p j : ℕ) : Type 0 where
  pub ready : HeadsReady w
  pub shape : z ≡ shape_of w
  pub place : p < width_of (layout_arrays w)
  pub group : g < GROUP_PLACES
  pub local : j < MAX_KINDS
  pub small : p < MAX_KINDS

module _ (w₀ : List ℕ) (z : Shape) (f g start arity : ℕ) (w : List ℕ) (j : ℕ) (B : Groupwise w₀ z f g start arity w j) where
  abbrev a : Arrays
  a = layout_arrays w₀

  abbrev R : HeadsReady w₀
  R = B.ready

  abbrev H : Heads w₀ w
  H = B.headed.heads

  place_is : start + j ≡ place_no a f j
  place_is = ap (λ (s : ℕ). s + j) B.starts

  module _ (h : j < arity) where
    new_at_law : NewAt a f g j
    new_at_law = record { group = B.group; from = B.low; to = omega (arith, B.ends) }

    pub next_kind : NextKind w z g (start + j) j
    next_kind =
        let p : place_no a f j < width_of a = place_below a R.formed (words_sized w₀ R.long) f g j new_at_law in
        record {
          ready = ready_kept w₀ w R H;
          shape = B.shape ∙ sym (shape_same w₀ w R H);
          place = subst (λ (b : Arrays). start + j < width_of b) (sym (arrays_same w₀ w R H)) (omega (arith, place_is));
          group = omega (arith, group_few w₀ R f g B.group);
          local = omega (arith, arity_few w₀ R f g B.group, B.ends);
          small = omega (arith, place_is, R.formed.wide);
        }

    pub group_more : (w' : List ℕ) → w' ≡ with_own z (slot_no w (start + j)) (g + 1) j w → Groupwise w₀ z f g start arity w' (j + 1)
    group_more w' e =
        let R' = ready_kept w₀ w R H in
        let q = sym (arrays_same w₀ w R H) in
        let M = upto_more w R' f g j (subst (λ (b : Arrays). NewAt b f g j) q new_at_law) (subst (λ (b : Arrays). Upto w (place_no b f j)) q B.headed.upto) in
        let c : z ≡ shape_of w = next_kind.shape in
        let r : start + j ≡ place_no (layout_arrays w) f j = place_is ∙ ap (λ (b : Arrays). place_no b f j) q in
        let t : place_no (layout_arrays w) f j + 1 ≡ place_no a f (j + 1) = ap (λ (b : Arrays). place_no b f j + 1) (sym q) ∙ omega arith in
        let W = with_own (shape_of w) (slot_no w (place_no (layout_arrays w) f j)) (g + 1) j w in
        let done : w' ≡ W = e ∙ ap (λ (m : Shape). with_own m (slot_no w (start + j)) (g + 1) j w) c ∙ ap (λ (p : ℕ). with_own (shape_of w) (slot_no w p) (g + 1) j w) r in
        record {
          ready = R;
          group = B.group;
          shape = B.shape;
          starts = B.starts;
          ends = B.ends;
          low = omega (arith, B.low);
          high = omega arith;
          headed =
              subst (λ (v : List ℕ). HeadedUpto w₀ v (place_no a f (j + 1))) (sym done)
              (record { heads = heads_then w₀ w R H W M.heads; upto = subst (Upto W) t M.upto });
        }

  pub group_done : arity ≤ j → HeadsGroup w₀ w f g arity
  group_done h =
      let e : j ≡ arity = omega (arith, B.high) in
      record { arity = B.ends; headed = subst (λ (i : ℕ). HeadedUpto w₀ w (place_no a f i)) e B.headed }

-- ---- a family's groups

-- prior is the arity of the group before g
pub record Familywise (w₀ w : List ℕ) (f g prior : ℕ) : Type 0 where
  pub low : start_of (layout_arrays w₀).ends f ≤ g
  pub high : g ≤ get_or (layout_arrays w₀).ends f 0
  pub before : prior ≡ prior_arity (layout_arrays w₀) f g
  pub headed : HeadedUpto w₀ w (place_no (layout_arrays w₀) f prior)

module _ (w₀ : List ℕ) (R : HeadsReady w₀) (f : ℕ) (hf : f < (layout_arrays w₀).families) where
  pub family_none : (g : ℕ) → g ≡ start_of (layout_arrays w₀).ends f → Upto w₀ (start_of (layout_arrays w₀).kind_ends f) → Familywise w₀ w₀ f g 0
  family_none g e U =
      record {
        low = omega arith;
        high = omega (arith, (R.formed.family f hf).some);
        before = sym (groups.prior_first (layout_arrays w₀).arities (start_of (layout_arrays w₀).ends f) g 0 (omega arith));
        headed = record { heads = heads_none w₀ R; upto = subst (Upto w₀) (sym (add-zero (start_of (layout_arrays w₀).kind_ends f))) U };
      }

  module _ (w : List ℕ) (g prior : ℕ) (F : Familywise w₀ w f g prior) (h : g < get_or (layout_arrays w₀).ends f 0) where
    q : layout_arrays w₀ ≡ layout_arrays w
    q = sym (arrays_same w₀ w R F.headed.heads)

    pub family_group : InFamily (layout_arrays w) f g
    family_group = subst (λ (b : Arrays). InFamily b f g) q (record { family = hf; low = F.low; high = h })

    pub family_prior : prior ≡ prior_arity (layout_arrays w) f g
    family_prior = F.before ∙ ap (λ (b : Arrays). prior_arity b f g) q

    pub family_upto : Upto w (place_no (layout_arrays w) f prior)
    family_upto = subst (λ (b : Arrays). Upto w (place_no b f prior)) q F.headed.upto

    pub family_more : (w' : List ℕ) (r : ℕ) → HeadsGroup w w' f g r → Familywise w₀ w' f (g + 1) r
    family_more w' r M =
        record {
          low = omega (arith, F.low);
          high = omega arith;
          before =
              M.arity ∙ ap (λ (b : Arrays). arity_of b g) (sym q) ∙ sym (groups.prior_next (layout_arrays w₀).arities (start_of (layout_arrays w₀).ends f) g 0 F.low)
              ∙ ap (prior_arity (layout_arrays w₀) f) (sym (add-one g));
          headed =
              record {
                heads = heads_then w₀ w R F.headed.heads w' M.headed.heads;
                upto = subst (λ (b : Arrays). Upto w' (place_no b f r)) (sym q) M.headed.upto;
              };
        }

  pub family_done : (w : List ℕ) (g prior : ℕ) → Familywise w₀ w f g prior → get_or (layout_arrays w₀).ends f 0 ≤ g → HeadedUpto w₀ w (get_or (layout_arrays w₀).kind_ends f 0)
  family_done w g prior F h =
      let e : g ≡ get_or (layout_arrays w₀).ends f 0 = omega (arith, F.high) in
      let p : prior ≡ get_or (layout_arrays w₀).kind_ends f 0 - start_of (layout_arrays w₀).kind_ends f =
      F.before ∙ ap (prior_arity (layout_arrays w₀) f) e ∙ groups.prior_end (layout_arrays w₀) R.formed (words_sized w₀ R.long) f hf in
      let t : place_no (layout_arrays w₀) f prior ≡ get_or (layout_arrays w₀).kind_ends f 0 = omega (arith, kind_order_law (layout_arrays w₀) R.formed f hf) in
      record { heads = F.headed.heads; upto = subst (Upto w) t F.headed.upto }

-- ---- the families

pub families_none : (w : List ℕ) → HeadsReady w → Upto w 0 → HeadedUpto w w (start_of (layout_arrays w).kind_ends 0)
families_none w R U = record { heads = heads_none w R; upto = U }

module _ (w₀ : List ℕ) (R : HeadsReady w₀) (w : List ℕ) (f : ℕ) (D : HeadedUpto w₀ w (start_of (layout_arrays w₀).kind_ends f)) where
  same : layout_arrays w₀ ≡ layout_arrays w
  same = sym (arrays_same w₀ w R D.heads)

  pub families_here : f < (layout_arrays w₀).families → f < (layout_arrays w).families
  families_here h = subst (λ (b : Arrays). f < b.families) same h

  pub families_upto : Upto w (start_of (layout_arrays w).kind_ends f)
  families_upto = subst (λ (b : Arrays). Upto w (start_of b.kind_ends f)) same D.upto

  pub families_more : (w' : List ℕ) → HeadedUpto w w' (get_or (layout_arrays w).kind_ends f 0) → HeadedUpto w₀ w' (start_of (layout_arrays w₀).kind_ends (f + 1))
  families_more w' M =
      record {
        heads = heads_then w₀ w R D.heads w' M.heads;
        upto =
            subst (Upto w') (ap (λ (b : Arrays). get_or b.kind_ends f 0) (sym same) ∙ sym (start_next (layout_arrays w₀).kind_ends f)) M.upto;
      }
