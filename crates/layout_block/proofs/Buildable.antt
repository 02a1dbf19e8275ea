-- A well-formed block of registered kinds means families that the model calls buildable (01, "such as commands can build"). Assumes nothing.
use mathlib.Core.Path.{◌≡◌, refl, ap}
use mathlib.Core.List.{List, [], ◌∷◌}
use Prim.Native.Nat.{ℕ, zero, suc, ◌-◌, ◌≤◌, ◌<◌}
use native.Mathlib.Decide.{dec_lt}
use native.Mathlib.Omega.{arith}
use lib.Dec.{eqb}
use lib.ListN.{length, get_or, take}
use Rattle.model.specs.Numbers.{MAX_GROUP_ARITY, MAX_KINDS}
use Rattle.words.specs.Offsets.{UNREGISTERED}
use Rattle.model.specs.Lists.{count_of}
use Rattle.model.specs.Model.{Family, kinds_of}
use Rattle.model.specs.Sound.{In, BuildableFamily, BuildableFamilies, Buildable, Uncounted, AllUncounted}
use Rattle.model.specs.Sound as sound
use Rattle.model.proofs.KindLists.{in_count}
use Rattle.words.specs.Part.{between}
use Rattle.words.proofs.Part.{length_between}
use Rattle.words.specs.Table.{table}
use Rattle.layout.specs.Layout.{Arrays, block_arrays, start_of, width_of, kinds_at, arities_at, groups_from, family_at, families_of, AritiesRising, WellFormed}
use Rattle.layout.specs.ByValue.{ArraysSized}
use Rattle.layout.proofs.Family.{rising_le, kinds_from_law}
use Rattle.layout.proofs.Arrays.{kinds_length, groups_of_law, layout_kinds_law, block_sized}
use Rattle.layout_block.specs.Checks.{BlockSound}

-- ---- one family

-- each group has a kind more than the one before
rising_groups : (counts : List ℕ) (g : ℕ) (ks : List ℕ) (b : ℕ) (ars : List ℕ) → AritiesRising b (length ks) ars → sound.Rising (groups_from counts g ks b ars)
unfolding groups_from AritiesRising
rising_groups counts g ks b [] r = tt
rising_groups counts g ks b (a ∷ ars) r =
    (omega (arith, r.0, length_between b a ks (rising_le a (length ks) ars r.1)), rising_groups counts (suc g) ks a ars r.1)

buildable_family : (counts : List ℕ) (g : ℕ) (ks ars : List ℕ) → 2 ≤ length ks → length ks ≤ MAX_GROUP_ARITY → AritiesRising 1 (length ks) ars → BuildableFamily (groups_from counts g ks 0 ars)
unfolding groups_from AritiesRising
buildable_family counts g ks [] lo hi r = absurd (omega (arith, r))
buildable_family counts g ks (a ∷ ars) lo hi r =
    let first : length (between 0 a ks) ≡ a - 0 = length_between 0 a ks (rising_le a (length ks) ars r.1) in
    let all : kinds_of (groups_from counts g ks 0 (a ∷ ars)) ≡ ks = kinds_from_law counts g ks 0 (a ∷ ars) (omega (arith, r.0), r.1) in
    (omega (arith, r.0), rising_groups counts (suc g) ks a ars r.1, omega (arith, ap length all))

uncounted_groups : (g : ℕ) (ks : List ℕ) (b : ℕ) (ars : List ℕ) → Uncounted (groups_from [] g ks b ars)
unfolding groups_from
uncounted_groups g ks b [] = tt
uncounted_groups g ks b (a ∷ ars) = (refl, uncounted_groups (suc g) ks a ars)

-- ---- all of them

all_buildable : (n : ℕ) (F : ℕ → Family) → ((i : ℕ) → i < n → BuildableFamily (F i)) → BuildableFamilies (table n F)
unfolding table
all_buildable zero F h = tt
all_buildable (suc n) F h = (h 0 (omega arith), all_buildable n (λ i. F (suc i)) (λ i l. h (suc i) (omega arith)))

all_uncounted : (n : ℕ) (F : ℕ → Family) → ((i : ℕ) → Uncounted (F i)) → AllUncounted (table n F)
unfolding table
all_uncounted zero F h = tt
all_uncounted (suc n) F h = (h 0, all_uncounted n (λ i. F (suc i)) (λ i. h (suc i)))

module _ (a : Arrays) (good : WellFormed a) (sized : ArraysSized a) (counts : List ℕ) where
  pub buildable : (registered : List ℕ) → ((k : ℕ) → 1 ≤ count_of eqb k (take (width_of a) a.kinds) → In registered k) → Buildable registered (families_of counts a)
  buildable registered known =
      record {
        families = all_buildable a.families (family_at counts a)
            (λ i h. let f = good.family i h in let l = kinds_length a good sized i h in
            buildable_family counts (start_of a.ends i) (kinds_at a i) (arities_at a i) (omega (arith, f.least)) (omega (arith, f.most)) (rw l f.rising));
        once = λ k. rw (layout_kinds_law counts a good sized) (good.kinds.once k);
        known = λ k i. known k (in_count (take (width_of a) a.kinds) k (rw (layout_kinds_law counts a good sized) at i));
        few = rw (groups_of_law counts a good sized) good.many;
      }

pub uncounted : (a : Arrays) → AllUncounted (families_of [] a)
uncounted a = all_uncounted a.families (family_at [] a) (λ i. uncounted_groups (start_of a.ends i) (kinds_at a i) 0 (arities_at a i))

-- of a sound block, where the table's words that are not 255 are those of the registered kinds
pub block_buildable : (w table : List ℕ) (n g : ℕ) (counts registered : List ℕ) → BlockSound w table n g → ((k : ℕ) → k < MAX_KINDS → (get_or table k 0 ≡ UNREGISTERED → ⊥) → In registered k)
    → Buildable registered (families_of counts (block_arrays w n))
block_buildable w table n g counts registered s t =
    buildable (block_arrays w n) s.formed.good (block_sized w n s.formed.size) counts registered
    (λ k c. t k (small k c) (s.registered k c))
  where
    small : (k : ℕ) → 1 ≤ count_of eqb k (take (width_of (block_arrays w n)) (block_arrays w n).kinds) → k < MAX_KINDS
    small k c = elim (dec_lt k MAX_KINDS) [ yes h ↦ h | no h ↦ absurd (omega (arith, s.formed.good.kinds.known k (omega arith))) ]
