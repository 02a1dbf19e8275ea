-- The loops that join the masks of the staged kinds. Assumes nothing.
use mathlib.Core.Path.{◌≡◌, ap, ap₂, sym, ◌∙◌}
use mathlib.Core.List.{List, [], ◌∷◌, ◌++◌}
use Prim.Native.Nat.{ℕ, ◌+◌, ◌≤◌, ◌<◌}
use native.Mathlib.Omega.{arith}
use native.Mathlib.Numerals.{add-one}
use lib.ListN.{length, get_or, take}
use lib.Seq.{take_all, take-suc}
use Rattle.model.specs.Numbers.{MAX_GROUP_COUNT}
use Rattle.model.specs.Model.{Family, groups_of}
use Rattle.masks.specs.Masks.{bits_of, union_of}
use Rattle.group.proofs.Positions.{where_none}
use Rattle.group.proofs.KindPositions.{insert_union, delete_union}
use Rattle.world.specs.declared.mask.Walk.{Walk}
use Rattle.world.specs.declared.mask.Walk.TheVariants.{Insert, Delete}
use Rattle.world.specs.Walked.{walk_positions}

-- positions P of the first i of the kinds ks, where those of more kinds are the union of the kinds'
module _ (P : List ℕ → List ℕ) (none : P [] ≡ []) (union : (ks js : List ℕ) → P (ks ++ js) ≡ union_of 64 (P ks) (P js)) (ks : List ℕ) where
  pub mask_none : (m : ℕ) → bits_of 64 m ≡ [] → bits_of 64 m ≡ P (take 0 ks)
  mask_none m b = b ∙ sym none

  pub mask_turn : (m more m' i : ℕ) → i < length ks → bits_of 64 m ≡ P (take i ks) → bits_of 64 more ≡ P (get_or ks i 0 ∷ []) → bits_of 64 m' ≡ union_of 64 (bits_of 64 m) (bits_of 64 more)
      → bits_of 64 m' ≡ P (take (i + 1) ks)
  mask_turn m more m' i h b c u =
      let s : take (i + 1) ks ≡ take i ks ++ (get_or ks i 0 ∷ []) = ap (λ (n : ℕ). take n ks) (add-one i) ∙ take-suc ks i 0 h in
      u ∙ ap₂ (union_of 64) b c ∙ sym (ap P s ∙ union (take i ks) (get_or ks i 0 ∷ []))

  pub mask_all : (m i : ℕ) → length ks ≤ i → bits_of 64 m ≡ P (take i ks) → bits_of 64 m ≡ P ks
  mask_all m i h b = b ∙ ap P (take_all i ks h)

-- the positions of no kind, and of more kinds, in a layout of at most 64 groups
pub no_kinds : (walk : Walk) (fs : List Family) → walk_positions walk [] fs ≡ []
no_kinds Insert fs = where_none 0 fs
no_kinds Delete fs = where_none 0 fs

pub more_kinds : (walk : Walk) (fs : List Family) → groups_of fs ≤ MAX_GROUP_COUNT → (ks js : List ℕ) → walk_positions walk (ks ++ js) fs ≡ union_of 64 (walk_positions walk ks fs) (walk_positions walk js fs)
more_kinds Insert fs few ks js = insert_union 64 ks js fs (omega arith)
more_kinds Delete fs few ks js = delete_union 64 ks js fs (omega arith)
