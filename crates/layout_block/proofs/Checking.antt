-- What the loops of the check know, and why a refused block is not sound. Assumes nothing.
use mathlib.Core.Path.{◌≡◌, refl, sym, ap, ◌∙◌, subst}
use mathlib.Core.Bool.{Bool, true, false}
use mathlib.Core.List.{List, [], ◌∷◌}
use Prim.Native.Nat.{ℕ, ◌+◌, ◌≤◌, ◌<◌}
use native.Mathlib.Omega.{arith}
use borrow.Author.Tests.{eq-eqb, ne_eqb}
use lib.Dec.{eqb}
use lib.ListN.{length, get_or, take, drop, set, length-set, replicate, get_or-replicate}
use lib.Seq.{take-take, drop-length, get_or-set_same, get_or-set_other}
use Rattle.model.specs.Numbers.{MAX_GROUP_COUNT, MAX_KINDS}
use Rattle.words.specs.Offsets.{ARITIES, BLOCK_LEN, ENDS, KIND_ENDS, UNREGISTERED}
use Rattle.model.specs.Lists.{one, count_of}
use Rattle.model.proofs.ListLaws.{count_next, drop_step}
use Rattle.words.specs.Decides.{Decides}
use Rattle.words.specs.Part.{between}
use Rattle.model.proofs.BoolLaws.{by-eq}
use Rattle.layout.specs.Layout.{Arrays, arrays_in, block_arrays, start_of, AritiesRising, FamilyFormed, WellFormed}
use Rattle.layout.proofs.Family.{rising_head}
use Rattle.layout.proofs.Arrays.{end_inside}
use Rattle.layout_block.specs.Checks.{BlockSound, KindsOk, FamilyInside, FamiliesFormed}

-- ---- arities

rising_cons : (b n a : ℕ) (ars : List ℕ) → b < a → AritiesRising a n ars → AritiesRising b n (a ∷ ars)
unfolding AritiesRising
rising_cons b n a ars h r = (h, r)

-- what is left to rise from b says what all do
pub record RisesSoFar (ars : List ℕ) (n b j : ℕ) : Type 0 where
  pub below : j ≤ length ars
  pub goes : AritiesRising 1 n ars → AritiesRising b n (drop j ars)
  pub back : AritiesRising b n (drop j ars) → AritiesRising 1 n ars

pub rises_more : (ars : List ℕ) (n b j : ℕ) → j < length ars → b < get_or ars j 0 → RisesSoFar ars n b j → RisesSoFar ars n (get_or ars j 0) (j + 1)
rises_more ars n b j h l r =
    let d = drop_step ars j 0 h in
    record {
      below = omega arith;
      goes = λ all. (rising_head b n (get_or ars j 0) (drop (j + 1) ars) (rw d at (r.goes all))).1;
      back = λ rest. r.back (rw d (rising_cons b n (get_or ars j 0) (drop (j + 1) ars) l rest));
    }

pub rises_stop : (ars : List ℕ) (n b j : ℕ) → j < length ars → get_or ars j 0 ≤ b → RisesSoFar ars n b j → AritiesRising 1 n ars → ⊥
rises_stop ars n b j h l r all =
    let s = rising_head b n (get_or ars j 0) (drop (j + 1) ars) (rw (drop_step ars j 0 h) at (r.goes all)) in
    omega (arith, s.0)

rising_end : (ars : List ℕ) (n b j : ℕ) → length ars ≡ j → AritiesRising b n (drop j ars) → b ≡ n
unfolding AritiesRising
rising_end ars n b j e r = subst (AritiesRising b n) (ap (λ (i : ℕ). drop i ars) (sym e) ∙ drop-length ars) r

end_rising : (ars : List ℕ) (n b j : ℕ) → length ars ≡ j → b ≡ n → AritiesRising b n (drop j ars)
unfolding AritiesRising
end_rising ars n b j e r = subst (AritiesRising b n) (sym (ap (λ (i : ℕ). drop i ars) (sym e) ∙ drop-length ars)) r

rises_short : (ars : List ℕ) (n b j : ℕ) → length ars ≡ j → (b ≡ n → ⊥) → RisesSoFar ars n b j → AritiesRising 1 n ars → ⊥
rises_short ars n b j e ne r all = ne (rising_end ars n b j e (r.goes all))

rises_done : (ars : List ℕ) (n b j : ℕ) → length ars ≡ j → b ≡ n → RisesSoFar ars n b j → AritiesRising 1 n ars
rises_done ars n b j e q r = r.back (end_rising ars n b j e q)

pub rises_decided : (ars : List ℕ) (n b j : ℕ) → length ars ≡ j → RisesSoFar ars n b j → Decides (eqb b n) (AritiesRising 1 n ars)
rises_decided ars n b j e r = by-eq b n (λ q. rw (eq-eqb b n q) (rises_done ars n b j e q r)) (λ ne. rw (ne_eqb b n ne) (rises_short ars n b j e ne r))

-- ---- families

pub family_inside : (a : Arrays) (f : ℕ) → f < a.families → FamiliesFormed a → FamilyInside a.arities (start_of a.kind_ends f) (get_or a.kind_ends f 0) (start_of a.ends f) (get_or a.ends f 0)
family_inside a f h all =
    let x = all.family f h in
    record {
      least = x.least;
      most = x.most;
      wide = omega (arith, end_inside a.kind_ends a.families (λ i l. omega (arith, (all.family i l).least)) f h, all.wide);
      some = x.some;
      many = omega (arith, end_inside a.ends a.families (λ i l. omega (arith, (all.family i l).some)) f h, all.many);
      rising = x.rising;
    }

-- the families before f are formed, and end at k and g
pub record FormedSoFar (a : Arrays) (k g f : ℕ) : Type 0 where
  pub below : f ≤ a.families
  pub kinds : k ≡ start_of a.kind_ends f
  pub groups : g ≡ start_of a.ends f
  pub wide : k ≤ MAX_KINDS
  pub many : g ≤ MAX_GROUP_COUNT
  pub family : (i : ℕ) → i < f → FamilyFormed a i

pub formed_stop : (a : Arrays) (k g f : ℕ) → f < a.families → FormedSoFar a k g f → (FamilyInside a.arities k (get_or a.kind_ends f 0) g (get_or a.ends f 0) → ⊥) → FamiliesFormed a → ⊥
formed_stop a k g f h s n all = n (rw (s.kinds, s.groups) (family_inside a f h all))

-- ---- kinds

-- the kinds before i are sound, and those that were seen are they
pub record SeenSoFar (table l : List ℕ) (seen : List Bool) (i : ℕ) : Type 0 where
  pub below : i ≤ length l
  pub size : length seen ≡ MAX_KINDS
  pub marks : (k : ℕ) → k < MAX_KINDS → one (get_or seen k false) ≡ count_of eqb k (take i l)
  pub sound : KindsOk table (take i l)

pub seen_none : (table l : List ℕ) → SeenSoFar table l (replicate MAX_KINDS false) 0
seen_none table l =
    record {
      below = omega arith;
      size = refl;
      marks = λ k h. ap one (get_or-replicate MAX_KINDS k false false h);
      sound = record { once = record { once = λ k. omega arith; known = λ k h. refl }; registered = λ k h. absurd (omega arith) };
    }

pub seen_more : (table l : List ℕ) (seen : List Bool) (i : ℕ) → i < length l → get_or l i 0 < MAX_KINDS → get_or seen (get_or l i 0) false ≡ false → (get_or table (get_or l i 0) 0 ≡ UNREGISTERED → ⊥)
    → SeenSoFar table l seen i → SeenSoFar table l (set seen (get_or l i 0) true) (i + 1)
seen_more table l seen i h small new reg s =
    let v = get_or l i 0 in
    let z : count_of eqb v (take i l) ≡ 0 = sym (s.marks v small) ∙ ap one new in
    record {
      below = omega arith;
      size = length-set seen v true ∙ s.size;
      marks = λ k hk. by-eq k v
          (λ e. rw e (ap one (get_or-set_same seen v true false (omega (arith, s.size))) ∙ sym (count_next v l i h ∙ omega (arith, z, ap one (eq-eqb v v refl)))))
          (λ ne. ap one (get_or-set_other seen v k true false ne) ∙ s.marks k hk ∙ sym (count_next k l i h ∙ omega (arith, ap one (ne_eqb k v ne))));
      sound = record {
        once = record {
          once = λ k. by-eq k v
              (λ e. rw e (omega (arith, count_next v l i h, z, ap one (eq-eqb v v refl))))
              (λ ne. omega (arith, count_next k l i h, s.sound.once.once k, ap one (ne_eqb k v ne)));
          known = λ k hk. omega (arith, count_next k l i h, s.sound.once.known k hk, ap one (ne_eqb k v (omega arith)));
        };
        registered = λ k c. by-eq k v (λ e. rw e reg) (λ ne. s.sound.registered k (omega (arith, count_next k l i h, ap one (ne_eqb k v ne))));
      };
    }

pub seen_before : (seen : Bool) (n : ℕ) → seen ≡ true → one seen ≡ n → n ≡ 1
seen_before seen n e m = sym m ∙ ap one e

-- ---- the whole block

pub families_of_law : (w : List ℕ) (n : ℕ) → WellFormed (block_arrays w n) → FamiliesFormed (arrays_in [] (between ARITIES KIND_ENDS w) (between KIND_ENDS ENDS w) (between ENDS BLOCK_LEN w) n)
families_of_law w n good =
    record {
      wide = good.wide;
      many = good.many;
      family = λ f h. let x = good.family f h in record { least = x.least; most = x.most; some = x.some; rising = x.rising };
    }

kinds_front : (w : List ℕ) (n m : ℕ) → n ≤ MAX_KINDS → n ≡ m → take m (between 0 ARITIES w) ≡ take n w
kinds_front w n m h e = ap (λ (k : ℕ). take k (between 0 ARITIES w)) (sym e) ∙ take-take n MAX_KINDS w h

pub block_sound : (w table : List ℕ) (n g width : ℕ) → length w ≡ BLOCK_LEN → n ≤ MAX_GROUP_COUNT → FamiliesFormed (arrays_in [] (between ARITIES KIND_ENDS w) (between KIND_ENDS ENDS w) (between ENDS BLOCK_LEN w) n)
    → start_of (between ENDS BLOCK_LEN w) n ≡ g → width ≡ start_of (between KIND_ENDS ENDS w) n → KindsOk table (take width w) → BlockSound w table n g
block_sound w table n g width size few f eg ew k =
    let front = kinds_front w width (start_of (between KIND_ENDS ENDS w) n) (omega (arith, f.wide)) ew in
    record {
      formed = record {
        size = size;
        good = record {
          few = few;
          wide = f.wide;
          many = f.many;
          kinds = rw front k.once;
          family = λ i h. let x = f.family i h in record { least = x.least; most = x.most; some = x.some; rising = x.rising };
        };
        groups = sym eg;
      };
      registered = rw front k.registered;
    }

pub block_kinds : (w table : List ℕ) (n g width : ℕ) → width ≡ start_of (between KIND_ENDS ENDS w) n → BlockSound w table n g → KindsOk table (take width w)
block_kinds w table n g width ew s =
    let front = kinds_front w width (start_of (between KIND_ENDS ENDS w) n) (omega (arith, s.formed.good.wide)) ew in
    record { once = rw front at s.formed.good.kinds; registered = rw front at s.registered }
