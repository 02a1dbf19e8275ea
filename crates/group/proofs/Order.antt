-- The kinds of the layout in force by their places: how many there are, and that all are registered. Assumes nothing.
use mathlib.Core.Path.{◌≡◌, ap, sym, ◌∙◌, subst}
use mathlib.Core.List.{List}
use Prim.Native.Nat.{ℕ, suc, ◌+◌, ◌-◌, ◌<◌}
use native.Mathlib.Omega.{arith}
use lib.ListN.{length, get_or}
use lib.Seq.{get_or-take}
use Rattle.words.specs.Offsets.{LAYOUT_KIND_ENDS}
use Rattle.model.specs.Sound.{In}
use Rattle.layout.specs.Layout.{Arrays, start_of, width_of, WellFormed}
use Rattle.layout.specs.Group.{InFamily, arity_of, prior_arity, member_at}
use Rattle.layout.specs.Reading.{ReadStart}
use Rattle.layout.proofs.Arrays.{groups_inside}
use Rattle.layout.proofs.Groups.{Spot, spot, same_family, prior_next, prior_end}
use Rattle.memory.specs.Header.{layout_families, group_family_at}
use Rattle.memory.specs.Meaning.{layout_arrays, meaning}
use Rattle.memory.specs.Arranged.{Arranged, Registered, GroupSound}
use Rattle.memory.proofs.Frames.{layout_sized}
use Rattle.memory.proofs.LayoutWords.{kind_start_word}
use Rattle.memory.proofs.Becomes.{slot_real}
use Rattle.kinds.proofs.Slot.{slot_known}
use Rattle.group.specs.Metadata.{order_of}
use Rattle.group.proofs.InWords.{order_is, order_length}
use Rattle.group.specs.Places.{kind_no}

module _ (w : List ℕ) (A : Arranged w) where
  abbrev a : Arrays
  a = layout_arrays w

  good : WellFormed (layout_arrays w)
  good = A.layout.formed

  -- where the last family's kinds end
  pub width_is : (r : ℕ) → ReadStart w LAYOUT_KIND_ENDS (layout_families w) r → r ≡ length (order_of (meaning w))
  width_is r R = R.is ∙ sym (kind_start_word w (layout_families w) (omega (arith, good.few))) ∙ sym (order_length w A)

  module _ (p : ℕ) (h : p < length (order_of (meaning w))) where
    -- the family that has the place, and its largest group
    at : Spot (layout_arrays w).kind_ends (layout_arrays w).families p
    at = spot (layout_arrays w).kind_ends (layout_arrays w).families p (omega (arith, order_length w A))

    abbrev f : ℕ
    f = at.number

    abbrev g : ℕ
    g = get_or (layout_arrays w).ends f 0 - 1

    last : suc g ≡ get_or (layout_arrays w).ends f 0
    last = omega (arith, (good.family f at.below).some)

    largest : InFamily (layout_arrays w) f g
    largest = record { family = at.below; low = omega (arith, (good.family f at.below).some); high = omega (arith, last) }

    sound : GroupSound w (layout_arrays w) g (group_family_at w g)
    sound = A.layout.groups g (omega (arith, last, groups_inside a good f at.below, A.layout.count))

    same : group_family_at w g ≡ f
    same = same_family a good (group_family_at w g) f g sound.group largest

    arity : arity_of a g ≡ get_or a.kind_ends f 0 - start_of a.kind_ends f
    arity =
        sym (prior_next a.arities (start_of a.ends f) g 0 largest.low)
        ∙ ap (prior_arity a f) last ∙ prior_end a good (layout_sized w A) f at.below

    abbrev j : ℕ
    j = p - start_of (layout_arrays w).kind_ends f

    registered : Registered w (member_at (layout_arrays w) f j)
    registered = subst (λ (x : ℕ). Registered w (member_at (layout_arrays w) x j)) same (sound.known j (omega (arith, arity, at.low, at.high)))

    kind_is : member_at (layout_arrays w) f j ≡ kind_no w p
    kind_is =
        let q : start_of (layout_arrays w).kind_ends f + j ≡ p = omega (arith, at.low) in
        ap (λ (x : ℕ). get_or a.kinds x 0) q
        ∙ sym (get_or-take (width_of a) a.kinds p 0 (omega (arith, order_length w A)))
        ∙ sym (ap (λ (l : List ℕ). get_or l p 0) (order_is w A))

    pub order_known : In (meaning w).kinds (kind_no w p)
    order_known =
        subst (In (meaning w).kinds) kind_is
        (slot_known w A (member_at a f j) registered.small (slot_real w A (member_at a f j) registered.slot))
