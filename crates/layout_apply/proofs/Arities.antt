-- The kinds of a well-formed layout: no two new kinds of groups have the same place. Assumes nothing.
use mathlib.Core.Path.{◌≡◌, sym, ap, ◌∙◌, subst}
use mathlib.Core.Logic.{◌≢◌}
use mathlib.Core.List.{List}
use Prim.Native.Nat.{ℕ, suc, ◌≤◌, ◌<◌}
use native.Mathlib.Omega.{arith}
use native.Mathlib.Decide.{dec_lt}
use lib.ListN.{length, get_or, take}
use lib.Seq.{get_or-take, length-take-le}
use Rattle.model.specs.Sound.{In}
use Rattle.model.proofs.KindLists.{at_in}
use Rattle.model.proofs.ListLaws.{once_apart}
use Rattle.model.proofs.BoolLaws.{by-eq}
use Rattle.layout.specs.Layout.{Arrays, start_of, width_of, WellFormed}
use Rattle.layout.specs.ByValue.{ArraysSized}
use Rattle.layout.specs.Group.{InFamily, arity_of}
use Rattle.layout.proofs.Arrays.{ends_rise, kind_order_law, kinds_inside}
use Rattle.layout.proofs.Groups.{arity_inside, arity_order}
use Rattle.layout_apply.specs.Heads.{NewAt, place_no}

-- ---- kinds once each

module _ (a : Arrays) (good : WellFormed a) (sized : ArraysSized a) where
  abbrev used : List ℕ
  used = take (width_of a) a.kinds

  used_length : length used ≡ width_of a
  used_length = length-take-le (width_of a) a.kinds (omega (arith, good.wide, sized.kinds))

  used_at : (p : ℕ) → p < width_of a → get_or used p 0 ≡ get_or a.kinds p 0
  used_at p h = get_or-take (width_of a) a.kinds p 0 h

  -- the p-th kind is one of the layout's
  pub kind_among : (p : ℕ) → p < width_of a → In used (get_or a.kinds p 0)
  kind_among p h = subst (In used) (used_at p h) (at_in used p (omega (arith, used_length)))

  -- and no other
  pub kinds_apart : (p q : ℕ) → p < width_of a → q < width_of a → p ≢ q → get_or a.kinds p 0 ≢ get_or a.kinds q 0
  kinds_apart p q hp hq ne e =
      once_apart used good.kinds.once p q (omega (arith, used_length)) (omega (arith, used_length)) ne (used_at p hp ∙ e ∙ sym (used_at q hq))

-- ---- places among all kinds

module _ (a : Arrays) (good : WellFormed a) (sized : ArraysSized a) where
  kind_starts : (f h : ℕ) → f < h → h < a.families → get_or a.kind_ends f 0 ≤ start_of a.kind_ends h
  kind_starts f h l k = ends_rise a.kind_ends h (λ i q. kind_order_law a good i (omega arith)) (suc f) l

  place_inside : (f g : ℕ) → InFamily a f g → (j : ℕ) → j < arity_of a g → place_no a f j < get_or a.kind_ends f 0
  place_inside f g G j h =
      omega (arith, arity_inside a good sized f g G)

  pub place_in : (f g : ℕ) → InFamily a f g → (j : ℕ) → j < arity_of a g → place_no a f j < width_of a
  place_in f g G j h = omega (arith, place_inside f g G j h, kinds_inside a good f G.family)

  pub place_below : (f g j : ℕ) → NewAt a f g j → place_no a f j < width_of a
  place_below f g j N = place_in f g N.group j N.to

  same_family : (f g j f' g' j' : ℕ) → NewAt a f g j → NewAt a f' g' j' → place_no a f j ≡ place_no a f' j' → f < f' → ⊥
  same_family f g j f' g' j' N N' e l = omega (arith, place_inside f g N.group j N.to, kind_starts f f' l N'.group.family)

  same_group : (f g j g' : ℕ) → NewAt a f g j → NewAt a f g' j → g < g' → ⊥
  same_group f g j g' N N' l =
      omega (arith, arity_order a good sized f g N.group g' l (omega (arith, N'.group.high)), N.to, N'.from)

  pub record Same (g j g' j' : ℕ) : Type 0 where
    pub group : g ≡ g'
    pub place : j ≡ j'

  -- a place is that of one new kind
  pub same_place : (f g j f' g' j' : ℕ) → NewAt a f g j → NewAt a f' g' j' → place_no a f j ≡ place_no a f' j' → Same g j g' j'
  same_place f g j f' g' j' N N' e =
      by-eq f f'
      (λ ef. here (subst (λ (h : ℕ). NewAt a h g' j') (sym ef) N') (omega (arith, ap (start_of a.kind_ends) ef)))
      (λ ne.
      absurd (elim (dec_lt f f') [
        | yes l ↦ same_family f g j f' g' j' N N' e l
        | no l ↦ same_family f' g' j' f g j N' N (sym e) (omega arith)
      ]))
    where
      here : NewAt a f g' j' → j ≡ j' → Same g j g' j'
      here M ej =
          by-eq g g' (λ eg. record { group = eg; place = ej })
          (λ ne.
          let M' : NewAt a f g' j = subst (NewAt a f g') (sym ej) M in
          absurd (elim (dec_lt g g') [
            | yes l ↦ same_group f g j g' N M' l
            | no l ↦ same_group f g' j g M' N (omega arith)
          ]))
