-- Masks compared: equal numbers are equal places; and the largest group of two infos stands in the arrays. Assumes nothing.
use mathlib.Core.Path.{◌≡◌, sym, ap, ◌∙◌}
use mathlib.Core.List.{List}
use Prim.Native.Nat.{ℕ, ◌-◌, ◌<◌, ◌^◌}
use native.Mathlib.Decide.{dec_le}
use native.Mathlib.Omega.{arith}
use lib.ListN.{get_or}
use Rattle.model.specs.Numbers.{MAX_GROUP_COUNT}
use Rattle.masks.specs.Masks.{bits_of, Ordered}
use Rattle.masks.proofs.Bits.{bits_injective}
use Rattle.group_info.specs.Info.{GroupsInside, top_of}
use Rattle.group_info.specs.declared.GroupInfo.{GroupInfo}

-- masks that differ have different places
pub differ : (m n : ℕ) (l : List ℕ) → m < 2 ^ 16 → n < 2 ^ 16 → (m ≡ n → ⊥) → bits_of 16 n ≡ l → bits_of 16 m ≡ l → ⊥
differ m n l hm hn ne en em = ne (bits_injective 16 m n hm hn (em ∙ sym en))

pub agree : (m n : ℕ) (l : List ℕ) → m ≡ n → bits_of 16 n ≡ l → bits_of 16 m ≡ l
agree m n l e en = ap (bits_of 16) e ∙ en

module _ (ars : List ℕ) (i e : GroupInfo) (x : GroupsInside ars i) (y : GroupsInside ars e) (same : i.group_start ≡ e.group_start) where
  pub top_below : top_of i e < MAX_GROUP_COUNT
  top_below = omega (arith, x.low, x.high, y.high)

  pub top_ordered : i.group_start < top_of i e → Ordered 16 (get_or ars (top_of i e - 1) 0) (get_or ars (top_of i e) 0)
  top_ordered l =
      elim (dec_le i.group_end e.group_end) [
        | yes h ↦
            let t : top_of i e ≡ e.group_end - 1 = omega arith in
            record { rising = y.rising (top_of i e) (omega arith) (omega (arith, y.low)); inside = y.small (top_of i e) (omega arith) (omega (arith, y.low)) }
        | no h ↦
            let t : top_of i e ≡ i.group_end - 1 = omega arith in
            record { rising = x.rising (top_of i e) l (omega (arith, x.low)); inside = x.small (top_of i e) (omega arith) (omega (arith, x.low)) }
      ]
