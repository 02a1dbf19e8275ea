-- The layout in force: what its block gives to the checks of heads and counts, and what those say of it. Assumes nothing.
use mathlib.Core.Path.{◌≡◌, ap, ap₂, sym, ◌∙◌, subst, refl}
use mathlib.Core.Bool.{true, true≢false}
use mathlib.Core.List.{List}
use Prim.Native.Nat.{ℕ, suc, ◌+◌, ◌-◌, ◌≤◌, ◌<◌}
use native.Mathlib.Omega.{arith}
use borrow.Author.Tests.{lt-ltb}
use lib.ListN.{length, get_or, length-map}
use Rattle.model.specs.Numbers.{MAX_KINDS}
use Rattle.words.specs.Offsets.{ENTITIES, GROUP_COUNTS, LAYOUT}
use Rattle.model.specs.Model.{Entity, SparseSet, no_entity, set_of, keys, entity_of, held, all_held}
use Rattle.model.specs.Sound.{key}
use Rattle.model.proofs.KindLists.{all_in, all_true}
use Rattle.model.proofs.BoolLaws.{not_true}
use Rattle.words.specs.Part.{between}
use Rattle.words.proofs.Part.{get_d_between}
use Rattle.words.specs.Shape.{shape_of}
use Rattle.words.specs.declared.Shape.{Shape}
use Rattle.component.specs.Columns.{rows_of, Columns}
use Rattle.component.proofs.Parts.{lent}
use Rattle.layout.specs.Layout.{Arrays, start_of, width_of, WellFormed}
use Rattle.layout.specs.Group.{InFamily, arity_of, prior_of, prior_arity, member_at}
use Rattle.layout.specs.Reading.{new_at}
use Rattle.layout.proofs.Arrays.{kinds_inside}
use Rattle.layout.proofs.Groups.{group_few, prior_less, arity_inside}
use Rattle.memory.specs.Header.{registered_of, slot_of, count_at, layout_families}
use Rattle.memory.specs.Meaning.{own_at, local_at, sets_in, layout_arrays}
use Rattle.memory.specs.Arranged.{Arranged, Registered, GroupSound}
use Rattle.memory.proofs.Becomes.{set_in_law}
use Rattle.memory.proofs.LayoutWords.{words_sized, kind_word}
use Rattle.sound_groups.specs.Spans.{first_at, from_at, to_at, KindAt, SpanOk, Force, NewOk}
use Rattle.sound_columns.specs.Rows.{key_at}
use Rattle.sound_groups.specs.Counts.{rows_at, CountOk, GroupCounted}
use Rattle.soundness.specs.Groups.{GroupOk}
use Rattle.soundness.specs.ByNumber.{GroupAt}
use Rattle.soundness.proofs.WordLaws.{new_at_law, at_new}

module _ (w : List ℕ) (long : ENTITIES ≤ length w) (good : WellFormed (layout_arrays w)) (known : (i : ℕ) → i < width_of (layout_arrays w) → Registered w (get_or w (LAYOUT + i) 0)) where
  abbrev a : Arrays
  a = layout_arrays w

  -- where a group's kinds end, and that of its family
  pub record Ends (f g : ℕ) : Type 0 where
    pub arity : start_of (layout_arrays w).kind_ends f + arity_of (layout_arrays w) g ≤ get_or (layout_arrays w).kind_ends f 0
    pub width : get_or (layout_arrays w).kind_ends f 0 ≤ width_of (layout_arrays w)
    pub some : start_of (layout_arrays w).kind_ends f + 2 ≤ get_or (layout_arrays w).kind_ends f 0
    pub wide : width_of (layout_arrays w) ≤ MAX_KINDS

  ends : (f g : ℕ) → InFamily (layout_arrays w) f g → Ends f g
  ends f g G =
      record { arity = arity_inside a good (words_sized w long) f g G; width = kinds_inside a good f G.family; some = (good.family f G.family).least; wide = good.wide }

  -- ---- what the checks ask

  module _ (z : Shape) (k : ℕ) (C : Columns z k w) (few : registered_of w ≤ k) where
    kind_at : (i : ℕ) → i < width_of (layout_arrays w) → KindAt z w (LAYOUT + i)
    kind_at i h = record { small = (known i h).small; lent = lent z k (slot_of w (get_or w (LAYOUT + i) 0)) w C (omega (arith, (known i h).slot)) }

    span : (f g : ℕ) → InFamily (layout_arrays w) f g → SpanOk z w f g
    span f g G =
        let E = ends f g G in
        record {
          first = kind_at (start_of a.kind_ends f) (omega (arith, E.some, E.width));
          low = omega (arith, E.some, E.width, E.wide);
          new =
              record {
                inside = omega (arith, E.arity, E.width, E.wide);
                kinds = λ j lo hi.
                    let q : LAYOUT + (j - LAYOUT) ≡ j = omega arith in subst (KindAt z w) q (kind_at (j - LAYOUT) (omega (arith, E.arity, E.width)));
              };
        }

    pub force : Force z (layout_families w) w
    force = record { long = long; few = good.few; is = refl; spans = span }

  -- ---- a store's columns are of the shape that the header tells

  abbrev z : Shape
  z = shape_of w

  -- ---- a group of a family

  module _ (f g : ℕ) (G : InFamily (layout_arrays w) f g) where
    member_at_law : (j : ℕ) → j < arity_of (layout_arrays w) g → member_at (layout_arrays w) f j ≡ get_or w (first_at w f + j) 0
    member_at_law j h = let E = ends f g G in kind_word w (start_of a.kind_ends f + j) (omega (arith, E.arity, E.width, E.wide)) ∙ ap (λ (x : ℕ). get_or w x 0) (omega arith)

    member_known : (j : ℕ) → j < arity_of (layout_arrays w) g → Registered w (member_at (layout_arrays w) f j)
    member_known j h =
        let E = ends f g G in
        subst (Registered w) (sym (kind_word w (start_of a.kind_ends f + j) (omega (arith, E.arity, E.width, E.wide))))
        (known (start_of a.kind_ends f + j) (omega (arith, E.arity, E.width)))

    -- the heads

    pub heads_group : NewOk z w f g → GroupSound w (layout_arrays w) g f
    heads_group N =
        record {
          group = G;
          known = member_known;
          own = λ j lo hi.
              subst (λ (k : ℕ). own_at w (slot_of w k) ≡ suc g) (sym (member_at_law j hi)) (N (first_at w f + j) (omega arith) (omega arith)).own;
          local = λ j lo hi.
              subst (λ (k : ℕ). local_at w (slot_of w k) ≡ j) (sym (member_at_law j hi)) ((N (first_at w f + j) (omega arith) (omega arith)).local ∙ omega arith);
        }

    pub group_heads : GroupSound w (layout_arrays w) g f → NewOk z w f g
    group_heads S j lo hi =
        let i = j - first_at w f in
        let p : prior_arity a f g ≤ i = omega arith in
        let q : i < arity_of a g = omega arith in
        let e : member_at a f i ≡ get_or w j 0 = member_at_law i q ∙ ap (λ (x : ℕ). get_or w x 0) (omega arith) in
        record {
          own = subst (λ (k : ℕ). own_at w (slot_of w k) ≡ suc g) e (S.own i p q);
          local = subst (λ (k : ℕ). local_at w (slot_of w k) ≡ i) e (S.local i p q);
        }

    -- the count

    module _ (A : Arranged w) where
      abbrev sets : List SparseSet
      sets = sets_in w

      set_of_law : (k : ℕ) → Registered w k → set_of sets k ≡ rows_of z (slot_of w k) w
      set_of_law k r = set_in_law w A k r.small ∙ rw (lt-ltb (slot_of w k) (registered_of w) r.slot)

      abbrev first : ℕ
      first = get_or w (first_at w f) 0

      head_is : member_at (layout_arrays w) f 0 ≡ first
      head_is = member_at_law 0 (omega (arith, prior_less a good (words_sized w long) f g G)) ∙ ap (λ (x : ℕ). get_or w x 0) (omega arith)

      first_known : Registered w first
      first_known = let E = ends f g G in known (start_of a.kind_ends f) (omega (arith, E.some, E.width))

      key_head : key sets (member_at (layout_arrays w) f 0) ≡ keys (rows_of z (slot_of w first) w)
      key_head = ap (key sets) head_is ∙ ap keys (set_of_law first first_known)

      -- the words from `from_at` on are registered kinds
      new_known : (j : ℕ) → from_at w f g ≤ j → j < to_at w f g → Registered w (get_or w j 0)
      new_known j lo hi =
          let E = ends f g G in
          let q : LAYOUT + (j - LAYOUT) ≡ j = omega arith in
          subst (λ (x : ℕ). Registered w (get_or w x 0)) q (known (j - LAYOUT) (omega (arith, E.arity, E.width)))

      set_new : (j : ℕ) → from_at w f g ≤ j → j < to_at w f g → set_of sets (get_or w j 0) ≡ rows_at z w j
      set_new j lo hi = set_of_law (get_or w j 0) (new_known j lo hi)

      module _ (b c : ℕ) where
        abbrev Ok : Type 0
        Ok = GroupOk sets (member_at a f 0) (new_at a f g) b c

        abbrev Counted : Type 0
        Counted = CountOk z w (slot_of w first) (from_at w f g) (to_at w f g) b c

        -- an entity of the family's first kind, as the two say it
        at_head : (i : ℕ) → get_or (key sets (member_at a f 0)) i no_entity ≡ key_at z w (slot_of w first) i
        at_head i = ap (λ (l : List Entity). get_or l i no_entity) key_head

        count_ok : Counted → Ok
        count_ok K =
            record {
              less = K.less;
              fits = λ k t.
                  let q = new_at_law w long good f g G k t in
                  let s = set_new q.0 q.1 q.2 in
                  subst (λ (x : ℕ). c ≤ length (key sets x)) q.3
                  (omega (arith, ap (λ (r : SparseSet). length (keys r)) s, length-map (rows_at z w q.0) entity_of, (K.even q.0 q.1 q.2).fits));
              even = λ k t i lt.
                  let q = new_at_law w long good f g G k t in
                  let s = set_new q.0 q.1 q.2 in
                  subst (λ (x : ℕ). get_or (key sets x) i no_entity ≡ get_or (key sets (member_at a f 0)) i no_entity) q.3
                  (ap (λ (r : SparseSet). get_or (keys r) i no_entity) s ∙ (K.even q.0 q.1 q.2).even i lt ∙ sym (at_head i));
              past = λ i lo hi.
                  let x = get_or (key sets (member_at a f 0)) i no_entity in
                  not_true (all_held x (new_at a f g) sets)
                  (λ t.
                  K.past i lo hi
                  (λ j l h.
                  subst (λ (y : Entity). held y (rows_at z w j) ≡ true) (at_head i)
                  (subst (λ (r : SparseSet). held x r ≡ true) (set_new j l h)
                  (all_in (λ (k : ℕ). held x (set_of sets k)) (new_at a f g) t (get_or w j 0) (at_new w long good f g G j l h)))));
            }

        ok_count : Ok → b ≤ length (rows_of z (slot_of w first) w) → Counted
        ok_count K inside =
            record {
              less = K.less;
              inside = inside;
              even = λ j l h.
                  let t = at_new w long good f g G j l h in
                  let s = set_new j l h in
                  record {
                    fits = omega (arith, ap (λ (r : SparseSet). length (keys r)) s, length-map (rows_at z w j) entity_of, K.fits (get_or w j 0) t);
                    even = λ i lt. sym (ap (λ (r : SparseSet). get_or (keys r) i no_entity) s) ∙ K.even (get_or w j 0) t i lt ∙ at_head i;
                  };
              past = λ i lo hi H.
                  let x = get_or (key sets (member_at a f 0)) i no_entity in
                  let all : all_held x (new_at a f g) sets ≡ true =
                  all_true (λ (k : ℕ). held x (set_of sets k)) (new_at a f g)
                  (λ k t.
                  let q = new_at_law w long good f g G k t in
                  subst (λ (y : ℕ). held x (set_of sets y) ≡ true) q.3
                  (subst (λ (r : SparseSet). held x r ≡ true) (sym (set_new q.0 q.1 q.2))
                  (subst (λ (y : Entity). held y (rows_at z w q.0) ≡ true) (sym (at_head i)) (H q.0 q.1 q.2)))) in
                  true≢false (sym all ∙ K.past i lo hi);
            }

      abbrev counts : List ℕ
      counts = between GROUP_COUNTS ENTITIES w

      whole_is : length (key sets (member_at a f 0)) ≡ length (rows_at z w (first_at w f))
      whole_is = ap length key_head ∙ length-map (rows_at z w (first_at w f)) entity_of

      prior_is : prior_of counts (start_of (layout_arrays w).ends f) g (length (key sets (member_at (layout_arrays w) f 0))) ≡ prior_of counts (start_of (layout_arrays w).ends f) g (length (rows_at z w (first_at w f)))
      prior_is = ap (prior_of counts (start_of a.ends f) g) whole_is

      count_is : get_or counts g 0 ≡ count_at w g
      count_is = get_d_between GROUP_COUNTS ENTITIES g w 0 (omega (arith, group_few a good (words_sized w long) f g G))

      pub counted_at : GroupCounted z w f g → GroupAt sets counts (layout_arrays w) f g
      counted_at K =
          subst (λ (T : Type 0). T) (sym (ap₂ (λ (x y : ℕ). GroupOk sets (member_at a f 0) (new_at a f g) x y) prior_is count_is))
          (count_ok (prior_of counts (start_of a.ends f) g (length (rows_at z w (first_at w f)))) (count_at w g) K)

      pub at_counted : GroupAt sets counts (layout_arrays w) f g → prior_of counts (start_of (layout_arrays w).ends f) g (length (key sets (member_at (layout_arrays w) f 0))) ≤ length (key sets (member_at (layout_arrays w) f 0)) → GroupCounted z w f g
      at_counted K inside =
          let p = prior_of counts (start_of a.ends f) g (length (key sets (member_at a f 0))) in
          subst (λ (T : Type 0). T) (ap₂ (λ (x y : ℕ). CountOk z w (slot_of w first) (from_at w f g) (to_at w f g) x y) prior_is count_is)
          (ok_count p (get_or counts g 0) K (omega (arith, whole_is)))
