-- The layout in force, word by word: where its kinds and a group's new kinds stand. Assumes nothing.
use mathlib.Core.Path.{◌≡◌, ap, ap₂, sym, ◌∙◌, subst}
use mathlib.Core.List.{List}
use Prim.Native.Nat.{ℕ, ◌+◌, ◌-◌, ◌≤◌, ◌<◌}
use native.Mathlib.Nat.{sub-zero}
use native.Mathlib.Omega.{arith}
use lib.ListN.{length, get_or, take}
use Rattle.model.specs.Numbers.{MAX_KINDS}
use Rattle.words.specs.Offsets.{ENTITIES, GROUP_FAMILIES, LAYOUT, ARITIES}
use Rattle.model.specs.Sound.{In}
use Rattle.model.proofs.KindLists.{at_in, in_at}
use Rattle.words.specs.Part.{between}
use Rattle.words.proofs.Part.{get_d_between, length_between, between_part}
use Rattle.layout.specs.Layout.{Arrays, start_of, width_of, WellFormed}
use Rattle.layout.specs.Group.{InFamily, arity_of, prior_arity}
use Rattle.layout.specs.Reading.{new_at}
use Rattle.layout.proofs.Groups.{arity_inside, arity_wide}
use Rattle.memory.specs.Meaning.{layout_arrays}
use Rattle.memory.proofs.LayoutWords.{words_sized}
use Rattle.sound_groups.specs.Spans.{from_at, to_at}

module _ (w : List ℕ) (long : ENTITIES ≤ length w) where
  -- a part of the kinds is a part of the words
  kinds_part : (x y : ℕ) → y ≤ MAX_KINDS → between x y (layout_arrays w).kinds ≡ between (LAYOUT + x) (LAYOUT + y) w
  kinds_part x y h =
      let ex : 0 + x ≡ x = omega arith in
      let ey : 0 + y ≡ y = omega arith in
      between_part x y 0 ARITIES (between LAYOUT GROUP_FAMILIES w) (omega arith) ∙ ap₂ (λ (i j : ℕ). between i j (between LAYOUT GROUP_FAMILIES w)) ex ey ∙ between_part x y LAYOUT GROUP_FAMILIES w (omega arith)

  module _ (good : WellFormed (layout_arrays w)) where
    -- the kinds of all families, in order
    pub layout_words : take (width_of (layout_arrays w)) (layout_arrays w).kinds ≡ between LAYOUT (LAYOUT + width_of (layout_arrays w)) w
    layout_words =
        ap (λ (n : ℕ). take n (layout_arrays w).kinds) (sym (sub-zero (width_of (layout_arrays w)))) ∙ kinds_part 0 (width_of (layout_arrays w)) good.wide

    module _ (f g : ℕ) (G : InFamily (layout_arrays w) f g) where
      abbrev a : Arrays
      a = layout_arrays w

      -- a group's new kinds are words one after another
      pub new_words : new_at (layout_arrays w) f g ≡ between (from_at w f g) (to_at w f g) w
      new_words =
          let s = start_of a.kind_ends f in
          let p = prior_arity a f g in
          let r = arity_of a g in
          between_part p r s (get_or a.kind_ends f 0) a.kinds (arity_inside a good (words_sized w long) f g G) ∙ kinds_part (s + p) (s + r) (arity_wide a good (words_sized w long) f g G)

      to_long : to_at w f g ≤ length w
      to_long = omega (arith, arity_wide a good (words_sized w long) f g G)

      -- a new kind is the word at a place, and such a word is a new kind
      pub new_at_law : (k : ℕ) → In (new_at (layout_arrays w) f g) k → (j : ℕ) × (from_at w f g ≤ j) × (j < to_at w f g) × (get_or w j 0 ≡ k)
      new_at_law k t =
          let l = between (from_at w f g) (to_at w f g) w in
          let q = in_at l k (subst (λ (x : List ℕ). In x k) new_words t) in
          let b : q.0 < to_at w f g - from_at w f g = omega (arith, q.1, length_between (from_at w f g) (to_at w f g) w to_long) in
          (from_at w f g + q.0, omega arith, omega arith, sym (get_d_between (from_at w f g) (to_at w f g) q.0 w 0 (omega arith)) ∙ q.2)

      pub at_new : (j : ℕ) → from_at w f g ≤ j → j < to_at w f g → In (new_at (layout_arrays w) f g) (get_or w j 0)
      at_new j lo hi =
          let l = between (from_at w f g) (to_at w f g) w in
          let i = j - from_at w f g in
          let e : get_or l i 0 ≡ get_or w j 0 = get_d_between (from_at w f g) (to_at w f g) i w 0 (omega arith) ∙ ap (λ (x : ℕ). get_or w x 0) (omega arith) in
          subst (λ (x : List ℕ). In x (get_or w j 0)) (sym new_words)
          (subst (In l) e (at_in l i (omega (arith, length_between (from_at w f g) (to_at w f g) w to_long))))
