-- The group info of a kind, by the head of its column and the metadata of its own group. Assumes nothing.
use mathlib.Core.Path.{◌≡◌, sym, ap, ◌∙◌, subst}
use mathlib.Core.Bool.{true, false, true≢false}
use mathlib.Core.List.{List, [], ◌∷◌}
use Prim.Native.Nat.{ℕ, ◌+◌, ◌-◌, ◌<◌}
use native.Mathlib.Omega.{arith}
use lib.ListN.{length, get_or, take}
use lib.Seq.{get_or-take, length-take-le}
use Rattle.words.specs.Offsets.{GROUP_PLACES}
use Rattle.model.specs.Model.{mem, groups_of}
use Rattle.model.specs.Sound.{In}
use Rattle.model.proofs.KindLists.{at_in, in_at}
use Rattle.model.proofs.BoolLaws.{not_true}
use Rattle.words.proofs.Part.{get_d_between}
use Rattle.layout.specs.Layout.{Arrays, start_of, width_of, kinds_at, arities_at, WellFormed}
use Rattle.layout.specs.Group.{InFamily}
use Rattle.layout.proofs.Arrays.{kinds_inside, kinds_length}
use Rattle.layout.proofs.Family.{start_prior}
use Rattle.layout.proofs.Groups.{group_few, place_inside, arity_is, prior_is, arity_most}
use Rattle.memory.specs.Header.{slot_of, group_family_at}
use Rattle.memory.specs.Meaning.{local_at, layout_arrays, meaning}
use Rattle.memory.specs.Arranged.{Arranged}
use Rattle.memory.proofs.Frames.{layout_sized}
use Rattle.kinds.proofs.Owned.{Owned}
use Rattle.group.specs.Flat.{Located, located}
use Rattle.group.proofs.InWords.{groups_are, in_family, located_words}
use Rattle.group_info.specs.Info.{KindInfo}
use Rattle.group_info.specs.Describes.{Placed, GroupedKinds, Ungrouped}
use Rattle.group_info.specs.declared.GroupInfo.{GroupInfo}
use Rattle.group_info.proofs.Describing.{of_kind}

module _ (w : List ℕ) (A : Arranged w) where
  abbrev a : Arrays
  a = layout_arrays w

  good : WellFormed (layout_arrays w)
  good = A.layout.formed

  pub ungrouped : (k : ℕ) → mem k (take (width_of (layout_arrays w)) (layout_arrays w).kinds) ≡ false → Ungrouped (layout_arrays w) k
  ungrouped k n f h = not_true (mem k (kinds_at a f)) there
    where
      there : mem k (kinds_at (layout_arrays w) f) ≡ true → ⊥
      there t =
          let P = in_at (kinds_at a f) k t in
          let s = start_of a.kind_ends f in
          let low : s + P.0 < get_or a.kind_ends f 0 = omega (arith, P.1, kinds_length a good (layout_sized w A) f h) in
          let lt : s + P.0 < width_of a = omega (arith, kinds_inside a good f h) in
          let l : length (take (width_of a) a.kinds) ≡ width_of a = length-take-le (width_of a) a.kinds (omega (arith, good.wide, (layout_sized w A).kinds)) in
          let e : get_or (take (width_of a) a.kinds) (s + P.0) 0 ≡ k =
          get_or-take (width_of a) a.kinds (s + P.0) 0 lt ∙ sym (get_d_between s (get_or a.kind_ends f 0) P.0 a.kinds 0 low) ∙ P.2 in
          true≢false (sym (subst (In (take (width_of a) a.kinds)) e (at_in (take (width_of a) a.kinds) (s + P.0) (omega arith))) ∙ n)

  pub real : (k g : ℕ) → Owned w k g → g < groups_of (meaning w).storage.layout
  real k g o = omega (arith, o.group, groups_are w A)

  module _ (k g : ℕ) (o : Owned w k g) where
    abbrev f : ℕ
    f = group_family_at w g

    abbrev own : ℕ
    own = g - start_of (layout_arrays w).ends f

    abbrev place : ℕ
    place = local_at w (slot_of w k)

    in_fam : InFamily (layout_arrays w) f g
    in_fam = in_family w A g (real k g o)

    in_kinds_law : place < length (kinds_at (layout_arrays w) f)
    in_kinds_law = omega (arith, o.high, arity_most a good (layout_sized w A) f g in_fam)

    pub small : (g < GROUP_PLACES) × (place < 16)
    small =
        (omega (arith, group_few a good (layout_sized w A) f g in_fam), omega (arith, in_kinds_law, kinds_length a good (layout_sized w A) f in_fam.family, (good.family f in_fam.family).most))

    placed : Placed (layout_arrays w) k f own place
    placed =
        record {
          inside = in_fam.family;
          group = place_inside a good (layout_sized w A) f g in_fam;
          before = omega (arith, o.low, prior_is a good (layout_sized w A) f g in_fam, start_prior (arities_at a f) own);
          below = omega (arith, arity_is a good (layout_sized w A) f g in_fam, o.high);
          kind = get_d_between (start_of a.kind_ends f) (get_or a.kind_ends f 0) place a.kinds 0 (omega (arith, in_kinds_law, kinds_length a good (layout_sized w A) f in_fam.family)) ∙ o.member;
        }

    pub grouped : (first : ℕ) (r : GroupInfo) → first ≡ (located (meaning w).storage.layout g).first → KindInfo first g (local_at w (slot_of w k)) r → GroupedKinds (layout_arrays w) (k ∷ []) r
    grouped first r e i =
        record {
          family = f;
          kinds = of_kind a good (layout_sized w A) k f own place r placed (record { first = i.first ∙ e ∙ ap (λ (l : Located). l.first) (located_words w A g (real k g o)); last = omega (arith, i.last, in_fam.low); places = i.places });
        }
