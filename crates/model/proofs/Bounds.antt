-- How large the parts of a sound store are: none has more items than N, so that each has room in the words and each number fits four bytes. Assumes nothing.
use mathlib.Core.Path.{◌≡◌, refl, ap, ◌∙◌}
use mathlib.Core.Bool.{Bool}
use mathlib.Core.List.{List, [], ◌∷◌, ◌++◌, map}
use Prim.Native.Nat.{ℕ, zero, suc, ◌+◌, ◌≤◌}
use native.Mathlib.Omega.{arith}
use lib.Dec.{eqb}
use lib.ListN.{length, length-map, length-append}
use Rattle.model.specs.Lists.{count_of}
use Rattle.model.proofs.ListLaws.{count_append, count_length_le, map_append, few_below}
use Rattle.model.specs.Model.{Entity, Entities, SparseSet, Family, found, same_entity, set_of, entity_of, all_held, range_under}
use Rattle.model.specs.Store.{Store}
use Rattle.model.specs.Sound.{cnt, num, index_of, key, holders, EntitiesSound, RightFrom, AllRight, StoreSound}
use Rattle.model.proofs.SparseSets.{entity_eq, entity_same}
use Rattle.model.proofs.BoolLaws.{cond_case}
use Rattle.model.proofs.Ranges.{range_shows}
use Rattle.model.proofs.Rules.{under_range}
use Rattle.model.specs.Theorems.{AllCountsTo, CountsTo}

-- ---- numbers

-- the live and the waiting are no more than the issued
pub numbers_few : (n : ℕ) (c : Entities) → EntitiesSound n c → length c.live + length c.recycled ≤ c.issued
numbers_few n c E =
    let le = few_below c.issued (map index_of (c.live ++ c.recycled)) (λ i. omega (arith, both i, E.single i)) (λ i h. E.below i (omega (arith, both i))) in
    omega (arith, length-map (c.live ++ c.recycled) index_of, length-append c.live c.recycled)
  where
    both : (i : ℕ) → count_of eqb i (map index_of (c.live ++ c.recycled)) ≡ num i c.live + num i c.recycled
    both i = ap (λ (l : List ℕ). count_of eqb i l) (map_append index_of c.live c.recycled) ∙ count_append eqb i (map index_of c.live) (map index_of c.recycled)

-- ---- rows, holders, counts

pub holders_few : (g : List ℕ) (sets : List SparseSet) (l : List Entity) → length (holders g sets l) ≤ length l
holders_few g sets [] = omega arith
holders_few g sets (e ∷ l) = cond_case (λ (m : List Entity). length m ≤ suc (length l)) (all_held e g sets) _ _ (λ t. omega (arith, holders_few g sets l)) (λ t. omega (arith, holders_few g sets l))

module _ (s : Store) (S : StoreSound s) where
  pub live_bounded : length s.entities.live ≤ s.settings.capacity
  live_bounded = omega (arith, numbers_few s.settings.capacity s.entities S.entities, S.entities.few)

  -- a sparse set has no more rows than there are live entities
  pub rows_live : (k : ℕ) → length (set_of s.storage.sets k) ≤ length s.entities.live
  rows_live k =
      let le = count_length_le same_entity entity_eq entity_same (key s.storage.sets k) s.entities.live few in
      omega (arith, le, length-map (set_of s.storage.sets k) entity_of)
    where
      few : (x : Entity) → cnt x (key s.storage.sets k) ≤ cnt x s.entities.live
      few x = go (cnt x (key s.storage.sets k)) refl
        where
          go : (m : ℕ) → cnt x (key s.storage.sets k) ≡ m → m ≤ cnt x s.entities.live
          go zero e = omega arith
          go (suc m) e = omega (arith, e, S.sets.once x k, S.sets.alive x k (omega (arith, e)))

  pub rows_bounded : (k : ℕ) → length (set_of s.storage.sets k) ≤ s.settings.capacity
  rows_bounded k = omega (arith, rows_live k, live_bounded)

  counts_from : (acc : List ℕ) (rs : Family) → RightFrom s.storage.sets s.entities.live acc rs → CountsTo s.settings.capacity rs
  counts_from acc [] R = tt
  counts_from acc (r ∷ rs) R = (omega (arith, R.0.number, holders_few (acc ++ r.new_kinds) s.storage.sets s.entities.live, live_bounded), counts_from (acc ++ r.new_kinds) rs R.1)

  counts_all : (fs : List Family) → AllRight s.storage.sets s.entities.live fs → AllCountsTo s.settings.capacity fs
  counts_all [] R = tt
  counts_all (f ∷ fs) R = (counts_from [] f R.0, counts_all fs R.1)

  pub counts_bounded : AllCountsTo s.settings.capacity s.storage.layout
  counts_bounded = counts_all s.storage.layout S.groups

  -- a range stands in order and ends by N
  pub range_bounded : (newer : Bool) (h b : List ℕ) (a e : ℕ) → range_under newer h b s.storage ≡ found a e → (a ≤ e) × (e ≤ s.settings.capacity)
  range_bounded newer h b a e p =
      let W = range_shows s S h b a e (under_range newer h b s.storage a e p) in
      (omega (arith, W.start), omega (arith, W.end, holders_few h s.storage.sets s.entities.live, live_bounded))
