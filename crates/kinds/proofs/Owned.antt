-- What the head of a kind's column says of the layout in force: the group whose new kinds have the kind, and its place in the family. Assumes nothing.
use mathlib.Core.Path.{◌≡◌, sym, ap, ◌∙◌, subst}
use mathlib.Core.Bool.{false}
use mathlib.Core.List.{List, [], ◌∷◌}
use Prim.Native.Nat.{ℕ, suc, ◌+◌, ◌-◌, ◌≤◌, ◌<◌}
use native.Mathlib.Omega.{arith}
use native.Mathlib.Decide.{dec_lt}
use lib.ListN.{length, get_or, take}
use lib.Seq.{get_or-take, length-take-le}
use Rattle.model.specs.Model.{mem}
use Rattle.model.specs.Sound.{In}
use Rattle.model.proofs.BoolLaws.{not_true}
use Rattle.layout.specs.Layout.{Arrays, start_of, width_of, kinds_at, arities_at, AritiesRising, WellFormed}
use Rattle.layout.specs.Group.{InFamily, arity_of, prior_arity, member_at}
use Rattle.layout.proofs.Arrays.{groups_inside, kinds_length, arities_length, family_rising}
use Rattle.layout.proofs.Groups.{spot, same_family, prior_at, arity_at}
use Rattle.memory.specs.Header.{layout_groups, slot_of, group_family_at}
use Rattle.memory.specs.Meaning.{own_at, local_at, layout_arrays, meaning}
use Rattle.memory.specs.Arranged.{Arranged}
use Rattle.memory.proofs.Frames.{layout_sized}
use Rattle.model.proofs.KindLists.{in_at}
use Rattle.kinds.proofs.Slot.{known_slot}

-- ---- the group that has a place

-- the first of the arities, which rise from b, that is above j
pub record Level (b : ℕ) (ars : List ℕ) (j : ℕ) : Type 0 where
  pub number : ℕ
  pub below : number < length ars
  pub low : get_or (b ∷ ars) number 0 ≤ j
  pub high : j < get_or ars number 0

level : (b n : ℕ) (ars : List ℕ) (j : ℕ) → AritiesRising b n ars → b ≤ j → j < n → Level b ars j
unfolding AritiesRising
level b n [] j r l h = absurd (omega arith)
level b n (a ∷ rest) j r l h =
    elim (dec_lt j a) [
      | yes q ↦ record { number = 0; below = omega arith; low = l; high = q }
      | no q ↦
          let t = level a n rest j r.1 (omega arith) h in
          record { number = suc t.number; below = omega (arith, t.below); low = t.low; high = t.high }
    ]

-- ---- the layout in force

-- kind k is a new kind of group g, and the head of its column has its place
pub record Owned (w : List ℕ) (k g : ℕ) : Type 0 where
  pub group : g < layout_groups w
  pub low : prior_arity (layout_arrays w) (group_family_at w g) g ≤ local_at w (slot_of w k)
  pub high : local_at w (slot_of w k) < arity_of (layout_arrays w) g
  pub member : member_at (layout_arrays w) (group_family_at w g) (local_at w (slot_of w k)) ≡ k

-- place j of the layout's kinds is place `local` of the family of group `group`, among the group's new kinds
pub record Placed (w : List ℕ) (j : ℕ) : Type 0 where
  pub group : ℕ
  pub local : ℕ
  pub real : group < layout_groups w
  pub place : start_of (layout_arrays w).kind_ends (group_family_at w group) + local ≡ j
  pub low : prior_arity (layout_arrays w) (group_family_at w group) group ≤ local
  pub high : local < arity_of (layout_arrays w) group

pub record InGroup (w : List ℕ) (k : ℕ) : Type 0 where
  pub group : ℕ
  pub says : own_at w (slot_of w k) ≡ suc group
  pub owned : Owned w k group

module _ (w : List ℕ) (A : Arranged w) where
  abbrev a : Arrays
  a = layout_arrays w

  good : WellFormed a
  good = A.layout.formed

  -- place j of family f, below the arity of its group i and not below that of the group before
  placed_in : (j f i : ℕ) → f < a.families → start_of a.kind_ends f ≤ j → i < length (arities_at a f)
      → get_or (0 ∷ arities_at a f) i 0 ≤ j - start_of a.kind_ends f → j - start_of a.kind_ends f < get_or (arities_at a f) i 0 → Placed w j
  placed_in j f i hf le hi low high =
      let inside : start_of a.ends f + i < get_or a.ends f 0 = omega (arith, arities_length a good (layout_sized w A) f hf) in
      let here : InFamily a f (start_of a.ends f + i) = record { family = hf; low = omega arith; high = inside } in
      let real : start_of a.ends f + i < layout_groups w = omega (arith, groups_inside a good f hf, A.layout.count) in
      let same : group_family_at w (start_of a.ends f + i) ≡ f =
      same_family a good (group_family_at w (start_of a.ends f + i)) f (start_of a.ends f + i) (A.layout.groups (start_of a.ends f + i) real).group here in
      record {
        group = start_of a.ends f + i;
        local = j - start_of a.kind_ends f;
        real = real;
        place = ap (λ (x : ℕ). start_of a.kind_ends x + (j - start_of a.kind_ends f)) same ∙ omega arith;
        low = rw (same, prior_at a.arities (start_of a.ends f) (get_or a.ends f 0) i 0 (omega (arith, inside))) low;
        high = rw (arity_at a f i inside) at high;
      }

  placed : (j : ℕ) → j < width_of a → Placed w j
  placed j h =
      let F = spot a.kind_ends a.families j h in
      let f = F.number in
      let L = level 0 (length (kinds_at a f)) (arities_at a f) (j - start_of a.kind_ends f) (family_rising a good (layout_sized w A) f F.below) (omega arith)
      (omega (arith, kinds_length a good (layout_sized w A) f F.below, F.low, F.high)) in
      placed_in j f L.number F.below F.low L.below L.low L.high

  pub listed : (k : ℕ) → In (take (width_of (layout_arrays w)) (layout_arrays w).kinds) k → InGroup w k
  listed k i =
      let P = in_at (take (width_of a) a.kinds) k i in
      let h : P.0 < width_of a = omega (arith, P.1, length-take-le (width_of a) a.kinds (omega (arith, good.wide, (layout_sized w A).kinds))) in
      let T = placed P.0 h in
      let G = A.layout.groups T.group T.real in
      let m : member_at a (group_family_at w T.group) T.local ≡ k =
      ap (λ (x : ℕ). get_or a.kinds x 0) T.place ∙ sym (get_or-take (width_of a) a.kinds P.0 0 h) ∙ P.2 in
      let local : local_at w (slot_of w k) ≡ T.local = ap (λ (x : ℕ). local_at w (slot_of w x)) (sym m) ∙ G.local T.local T.low T.high in
      record {
        group = T.group;
        says = ap (λ (x : ℕ). own_at w (slot_of w x)) (sym m) ∙ G.own T.local T.low T.high;
        owned = record { group = T.real; low = rw local T.low; high = rw local T.high; member = rw local m };
      }

  -- own_group's answers
  pub own_group : (k g : ℕ) → In (meaning w).kinds k → own_at w (slot_of w k) ≡ suc g → Owned w k g
  own_group k g i o =
      let S = known_slot w A k i in
      let L = listed k (subst (In (take (width_of a) a.kinds)) S.kind (A.layout.none (slot_of w k) S.real (omega arith))) in
      let e : L.group ≡ g = omega (arith, L.says) in
      subst (Owned w k) e L.owned

  pub no_group : (k : ℕ) → own_at w (slot_of w k) ≡ 0 → mem k (take (width_of (layout_arrays w)) (layout_arrays w).kinds) ≡ false
  no_group k o = not_true (mem k (take (width_of a) a.kinds)) (λ i. omega (arith, (listed k i).says))
