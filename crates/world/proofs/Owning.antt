-- The group whose new kinds have a kind, as the head of the kind's column says it. Assumes nothing.
use mathlib.Core.Path.{◌≡◌, ap, sym, ◌∙◌, subst}
use mathlib.Core.Bool.{false}
use mathlib.Core.List.{List, [], ◌∷◌}
use Prim.Native.Nat.{ℕ, ◌+◌, ◌-◌, ◌≤◌, ◌<◌}
use native.Mathlib.Omega.{arith}
use lib.ListN.{length, get_or}
use lib.Seq.{get_or-take, take_all}
use Rattle.model.specs.Model.{mem, groups_of}
use Rattle.model.specs.Sound.{In, Distinct, layout_kinds}
use Rattle.masks.specs.Masks.{bits_of, up_from}
use Rattle.words.specs.Part.{between}
use Rattle.layout.specs.Layout.{start_of, width_of}
use Rattle.layout.specs.Group.{arity_of, prior_arity}
use Rattle.memory.specs.Header.{slot_of, group_family_at}
use Rattle.memory.specs.Meaning.{own_at, local_at, layout_arrays, meaning}
use Rattle.memory.specs.Arranged.{Arranged}
use Rattle.kinds.proofs.Owned.{Owned, no_group}
use Rattle.layout.specs.declared.group_metadata.GroupMetadata.{GroupMetadata}
use Rattle.group.specs.Flat.{Located, located}
use Rattle.group.specs.Metadata.{order_of, Describes}
use Rattle.group.proofs.InWords.{groups_are, order_is, order_length, order_part_once, group_rises, located_words}
use Rattle.words.proofs.Part.{between_in}
use Rattle.group.proofs.Counts.{placed}
use Rattle.group.proofs.KindPositions.{insert_none, delete_none, insert_run, delete_run}
use Rattle.world.specs.declared.mask.Walk.{Walk}
use Rattle.world.specs.declared.mask.Walk.TheVariants.{Insert, Delete}
use Rattle.world.specs.Walked.{lowest_of, walk_positions}

module _ (w : List ℕ) (A : Arranged w) where
  pub order_once : Distinct (layout_kinds (meaning w).storage.layout)
  order_once = subst Distinct (take_all (length (order_of (meaning w)) - 0) (order_of (meaning w)) (omega arith)) (order_part_once w A 0 (length (order_of (meaning w))))

  module _ (k g : ℕ) (O : Owned w k g) where
    pub own_below : g < groups_of (meaning w).storage.layout
    own_below = omega (arith, O.group, groups_are w A)

    own_new : In (located (meaning w).storage.layout g).new_kinds k
    own_new =
        let f : ℕ = group_family_at w g in
        let s : ℕ = start_of (layout_arrays w).kind_ends f in
        let j : ℕ = local_at w (slot_of w k) in
        let width : s + arity_of (layout_arrays w) g ≤ length (order_of (meaning w)) = (group_rises w A g own_below).1 in
        let here : get_or (order_of (meaning w)) (s + j) 0 ≡ k =
        ap (λ (l : List ℕ). get_or l (s + j) 0) (order_is w A) ∙ get_or-take (width_of (layout_arrays w)) (layout_arrays w).kinds (s + j) 0 (omega (arith, O.high, width, order_length w A)) ∙ O.member in
        let from : ℕ = s + prior_arity (layout_arrays w) f g in
        let to : ℕ = s + arity_of (layout_arrays w) g in
        subst (λ (l : List ℕ). In l k) (sym (ap (λ (l : Located). l.new_kinds) (located_words w A g own_below)))
        (subst (In (between from to (order_of (meaning w)))) here (between_in from to (s + j) (order_of (meaning w)) (omega (arith, O.low)) (omega (arith, O.high)) width))

    module _ (d : GroupMetadata) (D : Describes (meaning w) g d) where
      pub mask_some : (walk : Walk) → (lowest_of walk d.first g < d.top) × (d.top ≤ 64)
      mask_some Insert =
          let P = placed (meaning w).storage.layout g own_below in
          (omega (arith, P.0, P.1, D.first, D.top), omega (arith, D.few))
      mask_some Delete =
          let P = placed (meaning w).storage.layout g own_below in
          (omega (arith, P.1, D.top), omega (arith, D.few))

      pub mask_is : (walk : Walk) (m : ℕ) → bits_of 64 m ≡ up_from (lowest_of walk d.first g) (d.top - lowest_of walk d.first g) → bits_of 64 m ≡ walk_positions walk (k ∷ []) (meaning w).storage.layout
      mask_is Insert m b =
          b
          ∙ (λ t. up_from (D.first t) (D.top t - D.first t))
          ∙ sym (insert_run (meaning w).storage.layout order_once k g own_below own_new)
      mask_is Delete m b =
          b
          ∙ ap (λ (t : ℕ). up_from g (t - g)) D.top
          ∙ sym (delete_run (meaning w).storage.layout order_once k g own_below own_new)

  module _ (k : ℕ) (o : own_at w (slot_of w k) ≡ 0) where
    in_none : mem k (layout_kinds (meaning w).storage.layout) ≡ false
    in_none = ap (mem k) (order_is w A) ∙ no_group w A k o

    pub mask_nothing : (walk : Walk) → walk_positions walk (k ∷ []) (meaning w).storage.layout ≡ []
    mask_nothing Insert = insert_none k (meaning w).storage.layout in_none
    mask_nothing Delete = delete_none k (meaning w).storage.layout in_none
