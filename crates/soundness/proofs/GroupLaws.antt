-- The groups' clause as the check tells it is the model's. Assumes nothing.
use mathlib.Core.Path.{◌≡◌, ap, sym, ◌∙◌, subst}
use mathlib.Core.Bool.{true, false, ◌&&◌, true≢false, false≢true}
use mathlib.Core.List.{List, [], ◌∷◌, ◌++◌}
use Prim.Native.Nat.{ℕ, ◌-◌, ◌≤◌, ◌<◌}
use native.Mathlib.Decide.{dec_le}
use native.Mathlib.Omega.{arith}
use lib.ListN.{length, take, drop, get_or, take-append-drop, length-drop}
use lib.Seq.{length-take-le, get_or-take, get_or-drop, ext_get_or}
use Rattle.model.specs.Lists.{place}
use Rattle.model.proofs.ListLaws.{count_append, count_at_law, count_place, count_take_le, place_count_take, get_d_place, count_length}
use Rattle.model.specs.Model.{Entity, SparseSet, Family, same_entity, no_entity, set_of, held, head_kind, kinds_of, all_held}
use Rattle.model.specs.Sound.{cnt, In, key, SetsSound, BuildableFamily, BuildableFamilies, holders, Right, RightFrom, AllRight}
use Rattle.model.proofs.SparseSets.{entity_eq, entity_same}
use Rattle.model.proofs.BoolLaws.{and_left, and_false_of, and_false_right, bool_cases}
use Rattle.model.proofs.Invariant.{holders_count}
use Rattle.model.proofs.Walk.{held_count, lacks_count, count_held}
use Rattle.model.proofs.KindLists.{Missing, all_missing, head_in_joined, in_left, in_right, in_cases, all_in, all_true, all_joined}
use Rattle.soundness.specs.Groups.{GroupOk, GroupsOk, FamilyOk, FamiliesOk}

-- ---- what stands at a place is held

held_at : (sets : List SparseSet) (k i : ℕ) → i < length (key sets k) → held (get_or (key sets k) i no_entity) (set_of sets k) ≡ true
held_at sets k i h = count_held (get_or (key sets k) i no_entity) sets k (count_at_law same_entity entity_same no_entity (key sets k) i h)

-- ---- a group beside the family's first kind

-- the first c places of each kind of g are h's, and past them no entity of h holds all of g
pub record Beside (sets : List SparseSet) (h : ℕ) (g : List ℕ) (c : ℕ) : Type 0 where
  pub room : c ≤ length (key sets h)
  pub fits : (k : ℕ) → In g k → c ≤ length (key sets k)
  pub even : (k : ℕ) → In g k → (i : ℕ) → i < c → get_or (key sets k) i no_entity ≡ get_or (key sets h) i no_entity
  pub past : (i : ℕ) → c ≤ i → i < length (key sets h) → all_held (get_or (key sets h) i no_entity) g sets ≡ false

module _ (sets : List SparseSet) (h : ℕ) where
  -- before there is a group
  beside_none : Beside sets h [] (length (key sets h))
  beside_none = record { room = omega arith; fits = λ k i. absurd (false≢true i); even = λ k i. absurd (false≢true i); past = λ i a b. absurd (omega arith) }

  -- an entity inside holds all of g
  inside : (g : List ℕ) (c : ℕ) → Beside sets h g c → (i : ℕ) → i < c → all_held (get_or (key sets h) i no_entity) g sets ≡ true
  inside g c B i lt =
      all_true (λ k. held (get_or (key sets h) i no_entity) (set_of sets k)) g
      (λ k t. subst (λ (x : Entity). held x (set_of sets k) ≡ true) (B.even k t i lt) (held_at sets k i (omega (arith, B.fits k t))))

  module _ (acc new : List ℕ) (b c : ℕ) (B : Beside sets h acc b) where
    held_both : (x : Entity) → all_held x (acc ++ new) sets ≡ (all_held x acc sets && all_held x new sets)
    held_both x = all_joined (λ k. held x (set_of sets k)) acc new

    beside_more : GroupOk sets h new b c → Beside sets h (acc ++ new) c
    beside_more G =
        record {
          room = omega (arith, B.room, G.less);
          fits = λ k t. in_cases acc new k t (λ u. omega (arith, B.fits k u, G.less)) (G.fits k);
          even = λ k t i lt. in_cases acc new k t (λ u. B.even k u i (omega (arith, G.less))) (λ u. G.even k u i lt);
          past = λ i a z.
              let e = get_or (key sets h) i no_entity in
              held_both e
              ∙ elim (dec_le b i) [
                | yes q ↦ and_false_of (all_held e acc sets) (all_held e new sets) (B.past i q z)
                | no q ↦ and_false_right (all_held e acc sets) (all_held e new sets) (G.past i a (omega arith))
              ];
        }

    beside_less : Beside sets h (acc ++ new) c → GroupOk sets h new b c
    beside_less C =
        let both : (i : ℕ) → i < c → all_held (get_or (key sets h) i no_entity) acc sets ≡ true =
        λ i lt. and_left _ (all_held (get_or (key sets h) i no_entity) new sets) (sym (held_both (get_or (key sets h) i no_entity)) ∙ inside (acc ++ new) c C i lt) in
        record {
          less =
              elim (dec_le c b) [
                | yes q ↦ q
                | no q ↦ absurd (true≢false (sym (both b (omega arith)) ∙ B.past b (omega arith) (omega (arith, C.room))))
              ];
          fits = λ k t. C.fits k (in_right acc new k t);
          even = λ k t. C.even k (in_right acc new k t);
          past = λ i a z.
              let e = get_or (key sets h) i no_entity in
              let o : (all_held e acc sets && all_held e new sets) ≡ false = sym (held_both e) ∙ C.past i a (omega (arith, B.room)) in
              rw (inside acc b B i z) at o;
        }

-- ---- beside h is right, and right is beside h

module _ {v : ℕ} (kinds : List ℕ) (live : List Entity) (sets : List SparseSet) (S : SetsSound v kinds live sets) (lonce : (x : Entity) → cnt x live ≤ 1)
    (h : ℕ) (g : List ℕ) (c : ℕ) (i : In g h) where
  module _ (B : Beside sets h g c) where
    first : (k : ℕ) → In g k → take c (key sets k) ≡ take c (key sets h)
    first k t =
        let a = length-take-le c (key sets k) (B.fits k t) in
        let b = length-take-le c (key sets h) B.room in
        ext_get_or no_entity (take c (key sets k)) (take c (key sets h)) (a ∙ sym b)
        (λ j lt.
        let q : j < c = omega arith in
        get_or-take c (key sets k) j no_entity q ∙ B.even k t j q ∙ sym (get_or-take c (key sets h) j no_entity q))

    counts : (x : Entity) → cnt x (take c (key sets h)) ≡ cnt x (holders g sets live)
    counts x = bool_cases (all_held x g sets) whole lacking
      where
        whole : all_held x g sets ≡ true → cnt x (take c (key sets h)) ≡ cnt x (holders g sets live)
        whole t =
            let m : 1 ≤ cnt x (key sets h) = held_count x sets h (all_in (λ k. held x (set_of sets k)) g t h i) in
            let lt : place same_entity x (key sets h) < length (key sets h) = count_place same_entity x (key sets h) m in
            let at : get_or (key sets h) (place same_entity x (key sets h)) no_entity ≡ x = get_d_place same_entity entity_eq x no_entity (key sets h) lt in
            let p : place same_entity x (key sets h) < c =
            elim (dec_le c (place same_entity x (key sets h))) [
              | yes q ↦ absurd (true≢false (sym t ∙ subst (λ (y : Entity). all_held y g sets ≡ false) at (B.past (place same_entity x (key sets h)) q lt)))
              | no q ↦ omega arith
            ] in
            let a = place_count_take same_entity x c (key sets h) p B.room in
            let z : cnt x (holders g sets live) ≡ cnt x live = holders_count g sets live x ∙ rw t in
            omega (arith, count_take_le same_entity x c (key sets h), S.once x h, S.alive x h m, lonce x)

        lacking : all_held x g sets ≡ false → cnt x (take c (key sets h)) ≡ cnt x (holders g sets live)
        lacking t =
            let m : Missing (λ k. held x (set_of sets k)) g = all_missing (λ k. held x (set_of sets k)) g t in
            let o = lacks_count x sets m.kind m.fails in
            let e = ap (cnt x) (first m.kind m.is_in) in
            let z : cnt x (holders g sets live) ≡ 0 = holders_count g sets live x ∙ rw t in
            omega (arith, count_take_le same_entity x c (key sets m.kind))

    pub beside_right : Right sets live g c
    beside_right =
        record {
          number = sym (length-take-le c (key sets h) B.room) ∙ count_length same_entity entity_eq entity_same (take c (key sets h)) (holders g sets live) counts;
          places = B.fits;
          aligned = λ j k t u. first j t ∙ sym (first k u);
          exact = λ k t x. ap (cnt x) (first k t) ∙ counts x;
          once = λ k t x. omega (arith, S.once x k, count_take_le same_entity x c (key sets k));
        }

  pub right_beside : Right sets live g c → Beside sets h g c
  right_beside R =
      record {
        room = R.places h i;
        fits = R.places;
        even = λ k t j lt. sym (get_or-take c (key sets k) j no_entity lt) ∙ ap (λ (l : List Entity). get_or l j no_entity) (R.aligned k h t i) ∙ get_or-take c (key sets h) j no_entity lt;
        past = λ j a lt. bool_cases (all_held (get_or (key sets h) j no_entity) g sets) (λ t. absurd (twice j a lt t)) (λ t. t);
      }
    where
      -- it would stand twice
      twice : (j : ℕ) → c ≤ j → j < length (key sets h) → all_held (get_or (key sets h) j no_entity) g sets ≡ true → ⊥
      twice j a lt t =
          let x = get_or (key sets h) j no_entity in
          let z : cnt x (holders g sets live) ≡ cnt x live = holders_count g sets live x ∙ rw t in
          let e : get_or (drop c (key sets h)) (j - c) no_entity ≡ x = get_or-drop c (key sets h) (j - c) no_entity ∙ ap (λ (n : ℕ). get_or (key sets h) n no_entity) (omega arith) in
          let o : 1 ≤ cnt x (drop c (key sets h)) = subst (λ (y : Entity). 1 ≤ cnt y (drop c (key sets h))) e (count_at_law same_entity entity_same no_entity (drop c (key sets h)) (j - c) (omega (arith, length-drop c (key sets h)))) in
          let s = ap (cnt x) (take-append-drop c (key sets h)) in
          omega (arith, count_append same_entity x (take c (key sets h)) (drop c (key sets h)), S.once x h, S.alive x h (count_at_law same_entity entity_same no_entity (key sets h) j lt), R.exact h i x)

-- ---- along a family, and over all families

module _ {v : ℕ} (kinds : List ℕ) (live : List Entity) (sets : List SparseSet) (S : SetsSound v kinds live sets) (lonce : (x : Entity) → cnt x live ≤ 1) where
  module _ (h : ℕ) where
    groups_right : (acc : List ℕ) (b : ℕ) (rs : Family) → In acc h → Beside sets h acc b → GroupsOk sets h b rs → RightFrom sets live acc rs
    groups_right acc b [] i B G = tt
    groups_right acc b (r ∷ rs) i B G =
        let C = beside_more sets h acc r.new_kinds b r.count B G.0 in
        let j = in_left acc r.new_kinds h i in
        (beside_right kinds live sets S lonce h (acc ++ r.new_kinds) r.count j C, groups_right (acc ++ r.new_kinds) r.count rs j C G.1)

    right_groups : (acc : List ℕ) (b : ℕ) (rs : Family) → In acc h → Beside sets h acc b → RightFrom sets live acc rs → GroupsOk sets h b rs
    right_groups acc b [] i B R = tt
    right_groups acc b (r ∷ rs) i B R =
        let j = in_left acc r.new_kinds h i in
        let C = right_beside kinds live sets S lonce h (acc ++ r.new_kinds) r.count j R.0 in
        (beside_less sets h acc r.new_kinds b r.count B C, right_groups (acc ++ r.new_kinds) r.count rs j C R.1)

  family_right : (f : Family) → BuildableFamily f → FamilyOk sets f → RightFrom sets live [] f
  family_right [] b G = absurd b
  family_right (r ∷ rs) b G =
      let h = head_kind (r.new_kinds ++ kinds_of rs) in
      let j = head_in_joined r.new_kinds (kinds_of rs) (omega (arith, b.0)) in
      let C = beside_more sets h [] r.new_kinds (length (key sets h)) r.count (beside_none sets h) G.0 in
      (beside_right kinds live sets S lonce h r.new_kinds r.count j C, groups_right h r.new_kinds r.count rs j C G.1)

  right_family : (f : Family) → BuildableFamily f → RightFrom sets live [] f → FamilyOk sets f
  right_family [] b R = absurd b
  right_family (r ∷ rs) b R =
      let h = head_kind (r.new_kinds ++ kinds_of rs) in
      let j = head_in_joined r.new_kinds (kinds_of rs) (omega (arith, b.0)) in
      let C = right_beside kinds live sets S lonce h r.new_kinds r.count j R.0 in
      (beside_less sets h [] r.new_kinds (length (key sets h)) r.count (beside_none sets h) C, right_groups h r.new_kinds r.count rs j C R.1)

  pub families_right : (fs : List Family) → BuildableFamilies fs → FamiliesOk sets fs → AllRight sets live fs
  families_right [] b G = tt
  families_right (f ∷ fs) b G = (family_right f b.0 G.0, families_right fs b.1 G.1)

  pub right_families : (fs : List Family) → BuildableFamilies fs → AllRight sets live fs → FamiliesOk sets fs
  right_families [] b R = tt
  right_families (f ∷ fs) b R = (right_family f b.0 R.0, right_families fs b.1 R.1)
