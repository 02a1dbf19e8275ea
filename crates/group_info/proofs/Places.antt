-- Places of kinds in a list that has each once: a mask of places is a run of positions exactly where the kinds are that part. Assumes nothing.
use mathlib.Core.Path.{◌≡◌, refl, sym, ap, ◌∙◌}
use mathlib.Core.Bool.{true, false, ◌&&◌}
use mathlib.Core.List.{List}
use Prim.Native.Nat.{ℕ, ◌+◌, ◌-◌, ◌≤◌, ◌<◌}
use native.Mathlib.Decide.{dec_lt, dec_le}
use native.Mathlib.Omega.{arith}
use borrow.Author.Tests.{eqb-true, lt-ltb, le-ltb}
use lib.Dec.{eqb, ltb}
use lib.ListN.{length, get_or}
use Rattle.model.specs.Numbers.{MAX_GROUP_ARITY}
use Rattle.model.specs.Lists.{place}
use Rattle.model.proofs.ListLaws.{count_place, get_d_place, once_place}
use Rattle.model.specs.Model.{mem, same_set}
use Rattle.model.proofs.KindLists.{in_count, all_true, same_to, same_from}
use Rattle.model.proofs.BoolLaws.{bool_cases, and_right}
use Rattle.words.specs.Part.{between}
use Rattle.words.proofs.Part.{get_d_between, length_between, between_in as part_in}
use Rattle.masks.specs.Masks
use Rattle.masks.proofs.Lists.{between_in, between_low, between_high, between_parts, has_up, keep_between}
use Rattle.masks.proofs.Bits.{bits_members}
use Rattle.layout.specs.Layout.{KindSet}

-- ---- members by place

pub place_of : ℕ → List ℕ → ℕ
place_of k l = place eqb k l

pub place_inside : (k : ℕ) (l : List ℕ) → mem k l ≡ true → place_of k l < length l
unfolding place_of
place_inside k l m = count_place eqb k l (in_count l k m)

pub at_place : (k : ℕ) (l : List ℕ) → mem k l ≡ true → get_or l (place_of k l) 0 ≡ k
unfolding place_of
at_place k l m = get_d_place eqb eqb-true k 0 l (count_place eqb k l (in_count l k m))

pub place_at : (l : List ℕ) → KindSet l → (i : ℕ) → i < length l → place_of (get_or l i 0) l ≡ i
unfolding place_of
place_at l s i h = once_place l s.once i h

module _ (ks : List ℕ) (s : KindSet ks) (lo hi : ℕ) (ord : lo ≤ hi) (top : hi ≤ length ks) where
  -- a member of the part is at one of its places
  pub record InPart (k : ℕ) : Type 0 where
    pub low : lo ≤ place_of k ks
    pub high : place_of k ks < hi
    pub there : get_or ks (place_of k ks) 0 ≡ k

  pub mem_part : (k : ℕ) → mem k (between lo hi ks) ≡ true → InPart k
  mem_part k m =
      let j = place_of k (between lo hi ks) in
      let b : j < hi - lo = omega (arith, place_inside k (between lo hi ks) m, length_between lo hi ks top) in
      let g : get_or ks (lo + j) 0 ≡ k = sym (get_d_between lo hi j ks 0 (omega arith)) ∙ at_place k (between lo hi ks) m in
      let p : place_of k ks ≡ lo + j = ap (λ (x : ℕ). place_of x ks) (sym g) ∙ place_at ks s (lo + j) (omega arith) in
      record { low = omega arith; high = omega arith; there = ap (λ (i : ℕ). get_or ks i 0) p ∙ g }

  -- a mask of the places of hs, which are kinds of ks
  module _ (hs : List ℕ) (m : ℕ) (few : length ks ≤ MAX_GROUP_ARITY) (inside : (k : ℕ) → mem k hs ≡ true → mem k ks ≡ true)
      (places : (p : ℕ) → p < 16 → Masks.has p (Masks.bits_of 16 m) ≡ (ltb p (length ks) && mem (get_or ks p 0) hs)) where
    pub places_of_part : same_set hs (between lo hi ks) ≡ true → Masks.bits_of 16 m ≡ Masks.up_from lo (hi - lo)
    places_of_part e = bits_members 16 m (Masks.is_between lo hi) (λ p h. places p h ∙ claim p) ∙ keep_between 16 lo hi ord (omega arith)
      where
        outside : (p : ℕ) → p < length ks → (lo ≤ p → p < hi → ⊥) → mem (get_or ks p 0) hs ≡ false
        outside p h n =
            bool_cases (mem (get_or ks p 0) hs)
            (λ t. let x = mem_part (get_or ks p 0) (same_to hs (between lo hi ks) e (get_or ks p 0) t) in let q = place_at ks s p h in absurd (n (omega (arith, x.low)) (omega (arith, x.high))))
            (λ t. t)

        rest : (p : ℕ) → (lo ≤ p → p < hi → ⊥) → (ltb p (length ks) && mem (get_or ks p 0) hs) ≡ false
        rest p n =
            elim (dec_lt p (length ks)) [
              | yes h ↦ rw (lt-ltb p (length ks) h) (outside p h n)
              | no h ↦ rw (le-ltb p (length ks) (omega arith)) refl
            ]

        claim : (p : ℕ) → (ltb p (length ks) && mem (get_or ks p 0) hs) ≡ Masks.is_between lo hi p
        claim p =
            elim (dec_le lo p) [
              | yes l ↦ elim (dec_lt p hi) [
                | yes h ↦ rw (lt-ltb p (length ks) (omega arith)) (same_from hs (between lo hi ks) e (get_or ks p 0) (part_in lo hi p ks l h top) ∙ sym (between_in lo hi p l h))
                | no h ↦ rest p (λ a b. h b) ∙ sym (between_high lo hi p (omega arith))
              ]
              | no l ↦ rest p (λ a b. l a) ∙ sym (between_low lo hi p (omega arith))
            ]

    pub part_of_places : Masks.bits_of 16 m ≡ Masks.up_from lo (hi - lo) → same_set hs (between lo hi ks) ≡ true
    part_of_places e = rw (all_true (λ k. mem k (between lo hi ks)) hs to, all_true (λ k. mem k hs) (between lo hi ks) from)
      where
        run : (p : ℕ) → Masks.has p (Masks.bits_of 16 m) ≡ Masks.is_between lo hi p
        run p = ap (Masks.has p) e ∙ has_up p lo (hi - lo) ∙ ap (λ (x : ℕ). Masks.is_between lo x p) (ends ord)
          where
            ends : lo ≤ hi → lo + (hi - lo) ≡ hi
            ends o = omega arith

        to : (k : ℕ) → mem k hs ≡ true → mem k (between lo hi ks) ≡ true
        to k h =
            let m' = inside k h in
            let p = place_of k ks in
            let b : p < length ks = place_inside k ks m' in
            let g : get_or ks p 0 ≡ k = at_place k ks m' in
            let bit : Masks.is_between lo hi p ≡ true = sym (run p) ∙ places p (omega arith) ∙ rw (lt-ltb p (length ks) b, g, h) in
            let x = between_parts lo hi p bit in
            ap (λ (y : ℕ). mem y (between lo hi ks)) (sym g) ∙ part_in lo hi p ks x.0 x.1 top

        from : (k : ℕ) → mem k (between lo hi ks) ≡ true → mem k hs ≡ true
        from k h =
            let x = mem_part k h in
            let p = place_of k ks in
            let bit : (ltb p (length ks) && mem (get_or ks p 0) hs) ≡ true = sym (places p (omega (arith, x.high))) ∙ run p ∙ between_in lo hi p x.low x.high in
            ap (λ (y : ℕ). mem y hs) (sym x.there) ∙ and_right (ltb p (length ks)) (mem (get_or ks p 0) hs) bit
