-- The upward walk over a family: every group is right after it, if all but one entity were right before. Assumes nothing.
use mathlib.Core.Path.{◌≡◌, refl, ap, ap₂, sym, ◌∙◌, subst}
use mathlib.Core.Logic.{◌⊎◌, inl, inr, ⊎_elim}
use mathlib.Core.Bool.{true, false}
use mathlib.Core.List.{List, [], ◌∷◌, ◌++◌, append_assoc}
use Prim.Native.Nat.{ℕ, suc, ◌≤◌, ◌<◌}
use native.Mathlib.Omega.{arith}
use borrow.Author.Tests.{ltb-true, ltb-false, lt-ltb}
use lib.ListN.{length, take, length-map}
use Rattle.model.proofs.ListLaws.{place_count, place_count_take, count_take_place, count_place}
use Rattle.model.specs.Model.{Entity, SparseSet, Group, Family, Walked, GroupStep, same_entity, mem, set_of, entity_of, at, held, head_kind, is_grouped, all_held, swap_to, on_kinds, group_components, group_family, kinds_of}
use Rattle.model.proofs.SparseSets.{entity_eq, key_swapped, key_kept}
use Rattle.model.proofs.BoolLaws.{cond_case, or_false, bool_cases}
use Rattle.model.proofs.Groups.{plc, Even, Full, Inside, Swapped, SameEntities, even_kept, full_kept, same_entities, low, inner_even, inner_full, inner_is_grouped, grown_even, grown_full, grown_is_grouped}
use Rattle.model.proofs.KindLists.{mem_append, in_left, in_right, in_cases, all_in, all_missing}
use Rattle.model.specs.Sound.{key, cnt, In}

-- ---- a family whose groups are right for each entity of W

pub record GroupRight (key : ℕ → List Entity) (W : Entity → Type 0) (g : List ℕ) (r : Group) : Type 0 where
  pub head : In r.new_kinds (head_kind r.new_kinds)
  pub even : Even key g r.count
  pub full : (x : Entity) → W x → Full key g r.count x

abbrev pub Below : ℕ → Family → Type 0
Below c [] = Unit {0}
Below c (r ∷ rs) = r.count ≤ c

abbrev pub Chain : (ℕ → List Entity) → (Entity → Type 0) → List ℕ → Family → Type 0
Chain key W acc [] = Unit {0}
Chain key W acc (r ∷ rs) = GroupRight key W (acc ++ r.new_kinds) r × Below r.count rs × Chain key W (acc ++ r.new_kinds) rs

abbrev pub Every : Entity → Type 0
Every x = Unit {0}

-- the entities of W, and e
abbrev pub Plus : (Entity → Type 0) → Entity → Entity → Type 0
Plus W e x = W x ⊎ (same_entity x e ≡ true)

abbrev pub But : Entity → Entity → Type 0
But e x = same_entity x e ≡ false

-- what a walk leaves of a group that the entity is inside of
pub record Kept (key new : ℕ → List Entity) (ks : List ℕ) (h : ℕ) (e : Entity) : Type 0 where
  pub even : Even new ks h
  pub full : (x : Entity) → Full key ks h x → Full new ks h x
  pub within : Inside new ks h e

pub below_le : (c d : ℕ) (rs : Family) → c ≤ d → Below c rs → Below d rs
below_le c d [] le b = tt
below_le c d (r ∷ rs) le b = omega arith

-- groups with counts up to c, where the first c places are as they were
pub chain_low : {key new : ℕ → List Entity} (W : Entity → Type 0) (c : ℕ) → SameEntities key new → ((h : ℕ) → h ≤ c → (k : ℕ) → take h (new k) ≡ take h (key k)) → (acc : List ℕ) (rs : Family) → Below c rs → Chain key W acc rs → Chain new W acc rs
chain_low W c s t acc [] b ch = tt
chain_low W c s t acc (r ∷ rs) b ch = (
  record {
    head = ch.0.head;
    even = even_kept (acc ++ r.new_kinds) r.count s (λ k i. t r.count b k) ch.0.even;
    full = λ x w. full_kept (acc ++ r.new_kinds) r.count x s (λ k i. ap (cnt x) (t r.count b k)) (ch.0.full x w);
  },
  ch.1,
  chain_low W c s t (acc ++ r.new_kinds) rs (below_le r.count c rs b ch.1) ch.2,
)

-- where the entity lacks a kind of g, the group is right for it too
pub full_lacks : (key : ℕ → List Entity) (W : Entity → Type 0) (e : Entity) (k : ℕ) → cnt e (key k) ≡ 0 → (g : List ℕ) (c : ℕ) → In g k → ((x : Entity) → W x → Full key g c x) → (x : Entity) → Plus W e x → Full key g c x
full_lacks key W e k z g c i f x =
    ⊎_elim (λ w. f x w) (λ t all_of. absurd (omega (arith, z, subst (λ (y : Entity). 1 ≤ cnt y (key k)) (entity_eq x e t) (all_of k i))))

-- so is every group of the family above it
chain_lacks : (key : ℕ → List Entity) (W : Entity → Type 0) (e : Entity) (k : ℕ) → cnt e (key k) ≡ 0 → (acc : List ℕ) (rs : Family) → In acc k → Chain key W acc rs → Chain key (Plus W e) acc rs
chain_lacks key W e k z acc [] i ch = tt
chain_lacks key W e k z acc (r ∷ rs) i ch = (
  record {
    head = ch.0.head;
    even = ch.0.even;
    full = full_lacks key W e k z (acc ++ r.new_kinds) r.count (in_left acc r.new_kinds k i) ch.0.full;
  },
  ch.1,
  chain_lacks key W e k z (acc ++ r.new_kinds) rs (in_left acc r.new_kinds k i) ch.2,
)

-- ---- one group

-- the group's step: what it leaves of the group, of the smaller groups, and of the first places of all sparse sets
pub record Entered (W : Entity → Type 0) (e : Entity) (acc g : List ℕ) (r : Group) (sets : List SparseSet) (s : GroupStep) : Type 0 where
  pub same : SameEntities (key sets) (key s.sets)
  pub kinds : s.group.new_kinds ≡ r.new_kinds
  pub grows : r.count ≤ s.group.count
  pub even : Even (key s.sets) g s.group.count
  pub full : (x : Entity) → Plus W e x → Full (key s.sets) g s.group.count x
  pub within : Inside (key s.sets) g s.group.count e
  pub lower : (h : ℕ) → h ≤ r.count → (k : ℕ) → take h (key s.sets k) ≡ take h (key sets k)
  pub smaller : (ks : List ℕ) (h : ℕ) → ((k : ℕ) → In ks k → In g k) → Even (key sets) ks h → Inside (key sets) ks h e → Kept (key sets) (key s.sets) ks h e
  pub other : (k : ℕ) → mem k g ≡ false → key s.sets k ≡ key sets k
  pub first : (m k : ℕ) → In g k → plc e (key sets k) < m → r.count ≤ m → s.group.count ≤ m

pub held_count : (e : Entity) (sets : List SparseSet) (k : ℕ) → held e (set_of sets k) ≡ true → 1 ≤ cnt e (key sets k)
held_count e sets k t = place_count same_entity e (key sets k) (rw (length-map (set_of sets k) entity_of) (ltb-true _ _ t))

pub count_held : (e : Entity) (sets : List SparseSet) (k : ℕ) → 1 ≤ cnt e (key sets k) → held e (set_of sets k) ≡ true
count_held e sets k h = lt-ltb _ _ (rw (length-map (set_of sets k) entity_of) at (count_place same_entity e (key sets k) h))

pub lacks_count : (e : Entity) (sets : List SparseSet) (k : ℕ) → held e (set_of sets k) ≡ false → cnt e (key sets k) ≡ 0
lacks_count e sets k t =
    let le : length (set_of sets k) ≤ at e (set_of sets k) = ltb-false _ _ t in
    let no : ¬ (1 ≤ cnt e (key sets k)) = λ h. omega (arith, count_place same_entity e (key sets k) h, length-map (set_of sets k) entity_of) in
    omega arith

module _ (W : Entity → Type 0) (e : Entity) (acc : List ℕ) (r : Group) (sets : List SparseSet)
    (head : In (acc ++ r.new_kinds) (head_kind r.new_kinds))
    (has : (k : ℕ) → In (acc ++ r.new_kinds) k → 1 ≤ cnt e (key sets k))
    (v : Even (key sets) (acc ++ r.new_kinds) r.count)
    (f : (x : Entity) → W x → Full (key sets) (acc ++ r.new_kinds) r.count x) where
  abbrev g : List ℕ
  g = acc ++ r.new_kinds

  abbrev c : ℕ
  c = r.count

  abbrev hd : ℕ
  hd = head_kind r.new_kinds

  stays : is_grouped e r sets ≡ true → Entered W e acc g r sets (record { sets = sets; group = r })
  stays t =
      let lt : plc e (key sets hd) < c = ltb-true _ _ t in
      let ins : Inside (key sets) g c e = λ k i. rw (v.align k hd i head) (place_count_take same_entity e c (key sets hd) lt (v.fit hd head)) in
      record {
        same = record { entities = λ x k. refl; lengths = λ k. refl };
        kinds = refl;
        grows = omega arith;
        even = v;
        full = λ x. ⊎_elim (λ u. f x u) (λ u all_of. subst (λ (y : Entity). Inside (key sets) g c y) (sym (entity_eq x e u)) ins);
        within = ins;
        lower = λ h le k. refl;
        smaller = λ ks h sub w i. record { even = w; full = λ x y. y; within = i };
        other = λ k n. refl;
        first = λ m k i lt le. le;
      }

  pub enters : is_grouped e r sets ≡ false → Entered W e acc g r sets (record { sets = on_kinds g (swap_to e c) sets; group = record { new_kinds = r.new_kinds; count = suc c } })
  enters t =
      let ge : c ≤ plc e (key sets hd) = ltb-false _ _ t in
      let out : (k : ℕ) → In g k → c ≤ plc e (key sets k) = λ k i.
      let no : ¬ (plc e (key sets k) < c) = λ q.
      omega (arith, count_take_place same_entity e c (key sets hd) (rw (v.align k hd i head) at (place_count_take same_entity e c (key sets k) q (v.fit k i)))) in
      omega arith in
      let room : (k : ℕ) → In g k → c < length (key sets k) = λ k i. omega (arith, out k i, count_place same_entity e (key sets k) (has k i)) in
      let new : ℕ → List Entity = key (on_kinds g (swap_to e c) sets) in
      let sw : Swapped e g c (key sets) new = record { done = λ k i. key_swapped g e c sets k i; kept = λ k n. key_kept g e c sets k n } in
      let ins : Inside new g (suc c) e = grown_is_grouped sw has room out in
      record {
        same = same_entities sw has room;
        kinds = refl;
        grows = omega arith;
        even = grown_even sw has room out v;
        full = λ x. ⊎_elim (λ u. grown_full sw has room out x (f x u)) (λ u all_of. subst (λ (y : Entity). Inside new g (suc c) y) (sym (entity_eq x e u)) ins);
        within = ins;
        lower = λ h le. low sw has room h le (λ k i. omega (arith, out k i));
        smaller = λ ks h sub w i.
            let qh : (k : ℕ) → In ks k → c < h = λ k t. omega (arith, out k (sub k t), count_take_place same_entity e h (key sets k) (i k t)) in
            record { even = inner_even sw has room sub w i qh; full = inner_full sw has room sub w i qh; within = inner_is_grouped sw has room sub w i qh };
        other = λ k n. key_kept g e c sets k n;
        first = λ m k i lt le. omega (arith, out k i);
      }

  pub group_components_good : Entered W e acc g r sets (group_components e g r sets)
  unfolding group_components
  group_components_good = cond_case (Entered W e acc g r sets) (is_grouped e r sets) _ _ stays enters

  -- each of the group's sparse sets goes on past the count
  pub enters_room : is_grouped e r sets ≡ false → (k : ℕ) → In g k → r.count < length (set_of sets k)
  enters_room t k i = let E = enters t in omega (arith, E.even.fit k i, E.same.lengths k, length-map (set_of sets k) entity_of)

pub group_stays : (e : Entity) (ks : List ℕ) (r : Group) (sets : List SparseSet) → is_grouped e r sets ≡ true → group_components e ks r sets ≡ record { sets = sets; group = r }
unfolding group_components
group_stays e ks r sets b = rw b

pub group_moves : (e : Entity) (ks : List ℕ) (r : Group) (sets : List SparseSet) → is_grouped e r sets ≡ false → group_components e ks r sets ≡ record { sets = on_kinds ks (swap_to e r.count) sets; group = record { new_kinds = r.new_kinds; count = suc r.count } }
unfolding group_components
group_moves e ks r sets b = rw b

-- the entity holds the group's kinds, if it holds those of the group before and the new ones
pub holds_more : (e : Entity) (acc : List ℕ) (sets : List SparseSet) (r : Group) → ((k : ℕ) → In acc k → 1 ≤ cnt e (key sets k)) → all_held e r.new_kinds sets ≡ true → (k : ℕ) → In (acc ++ r.new_kinds) k → 1 ≤ cnt e (key sets k)
holds_more e acc sets r has a k i = in_cases acc r.new_kinds k i (has k) (λ j. held_count e sets k (all_in (λ y. held e (set_of sets y)) r.new_kinds a k j))

-- ---- the walk

pub record Up (W : Entity → Type 0) (e : Entity) (acc : List ℕ) (sets : List SparseSet) (rs : Family) (w : Walked) : Type 0 where
  pub same : SameEntities (key sets) (key w.sets)
  pub chain : Chain (key w.sets) (Plus W e) acc w.groups
  pub smaller : (ks : List ℕ) (h : ℕ) → ((k : ℕ) → In ks k → In acc k) → Even (key sets) ks h → Inside (key sets) ks h e → Kept (key sets) (key w.sets) ks h e
  pub other : (k : ℕ) → mem k (acc ++ kinds_of rs) ≡ false → key w.sets k ≡ key sets k
  pub first : (m k : ℕ) → In acc k → plc e (key sets k) < m → Below m rs → Below m w.groups
  pub kinds : kinds_of w.groups ≡ kinds_of rs

module _ (W : Entity → Type 0) (e : Entity) (acc : List ℕ) (sets : List SparseSet) (r : Group) (rs : Family)
    (has : (k : ℕ) → In acc k → 1 ≤ cnt e (key sets k))
    (ch : Chain (key sets) W acc (r ∷ rs)) where
  abbrev g' : List ℕ
  g' = acc ++ r.new_kinds

  abbrev s' : GroupStep
  s' = group_components e g' r sets

  -- one of the group's new kinds is missing: nothing moves, and no group from here on can hold the entity
  group_family_stop : all_held e r.new_kinds sets ≡ false → Up W e acc sets (r ∷ rs) (record { sets = sets; groups = r ∷ rs })
  group_family_stop t =
      let m = all_missing (λ k. held e (set_of sets k)) r.new_kinds t in
      let z = lacks_count e sets m.kind m.fails in
      let i = in_right acc r.new_kinds m.kind m.is_in in
      record {
        same = record { entities = λ x k. refl; lengths = λ k. refl };
        chain = (
          record { head = ch.0.head; even = ch.0.even; full = full_lacks (key sets) W e m.kind z g' r.count i ch.0.full },
          ch.1,
          chain_lacks (key sets) W e m.kind z g' rs i ch.2,
        );
        smaller = λ ks h sub v i. record { even = v; full = λ x f. f; within = i };
        other = λ k n. refl;
        first = λ m k i lt b. b;
        kinds = refl;
      }

  group_family_step : (((k : ℕ) → In g' k → 1 ≤ cnt e (key s'.sets k)) → Chain (key s'.sets) W g' rs → Up W e g' s'.sets rs (group_family e g' s'.sets rs)) → all_held e r.new_kinds sets ≡ true → Up W e acc sets (r ∷ rs) (record { sets = (group_family e g' s'.sets rs).sets; groups = s'.group ∷ (group_family e g' s'.sets rs).groups })
  group_family_step rec t =
      let hd = head_kind r.new_kinds in
      let head = in_right acc r.new_kinds hd ch.0.head in
      let hasg : (k : ℕ) → In g' k → 1 ≤ cnt e (key sets k) = holds_more e acc sets r has t in
      let E : Entered W e acc g' r sets s' = group_components_good W e acc r sets head hasg ch.0.even ch.0.full in
      let U : Up W e g' s'.sets rs (group_family e g' s'.sets rs) = rec (λ k i. rw (E.same.entities e k) (hasg k i)) (chain_low W r.count E.same E.lower g' rs ch.1 ch.2) in
      let K = U.smaller g' s'.group.count (λ k i. i) E.even E.within in
      record {
        same = record { entities = λ x k. U.same.entities x k ∙ E.same.entities x k; lengths = λ k. U.same.lengths k ∙ E.same.lengths k };
        chain =
            rw E.kinds (
              record { head = rw E.kinds ch.0.head; even = K.even; full = λ x w. K.full x (E.full x w) },
              U.first s'.group.count hd head (count_take_place same_entity e _ (key s'.sets hd) (E.within hd head)) (below_le r.count s'.group.count rs E.grows ch.1),
              U.chain,
            );
        smaller = λ ks h sub v i.
            let k₁ = E.smaller ks h (λ k j. in_left acc r.new_kinds k (sub k j)) v i in
            let k₂ = U.smaller ks h (λ k j. in_left acc r.new_kinds k (sub k j)) k₁.even k₁.within in
            record { even = k₂.even; full = λ x f. k₂.full x (k₁.full x f); within = k₂.within };
        other = λ k n.
            let n₁ : mem k (g' ++ kinds_of rs) ≡ false = rw append_assoc n in
            U.other k n₁ ∙ E.other k (or_false (mem k g') (mem k (kinds_of rs)) (sym (mem_append k g' (kinds_of rs)) ∙ n₁));
        first = λ m k i lt b. E.first m k (in_left acc r.new_kinds k i) lt b;
        kinds = ap₂ (λ (a b : List ℕ). a ++ b) E.kinds U.kinds;
      }

pub group_family_good : (W : Entity → Type 0) (e : Entity) (acc : List ℕ) (sets : List SparseSet) (rs : Family) → ((k : ℕ) → In acc k → 1 ≤ cnt e (key sets k)) → Chain (key sets) W acc rs → Up W e acc sets rs (group_family e acc sets rs)
unfolding group_family
group_family_good W e acc sets [] has ch =
    record {
      same = record { entities = λ x k. refl; lengths = λ k. refl };
      chain = tt;
      smaller = λ ks h sub v i. record { even = v; full = λ x f. f; within = i };
      other = λ k n. refl;
      first = λ m k i lt b. b;
      kinds = refl;
    }
group_family_good W e acc sets (r ∷ rs) has ch =
    cond_case (Up W e acc sets (r ∷ rs)) (all_held e r.new_kinds sets) _ _
    (group_family_step W e acc sets r rs has ch (group_family_good W e (acc ++ r.new_kinds) (group_components e (acc ++ r.new_kinds) r sets).sets rs))
    (group_family_stop W e acc sets r rs has ch)

-- ---- right for fewer entities

pub chain_weaken : (key : ℕ → List Entity) (Z W : Entity → Type 0) → ((x : Entity) → Z x → W x) → (acc : List ℕ) (rs : Family) → Chain key W acc rs → Chain key Z acc rs
chain_weaken key Z W f acc [] ch = tt
chain_weaken key Z W f acc (r ∷ rs) ch =
    (record { head = ch.0.head; even = ch.0.even; full = λ x v. ch.0.full x (f x v) }, ch.1, chain_weaken key Z W f (acc ++ r.new_kinds) rs ch.2)

pub either : (e x : Entity) → Plus (But e) e x
either e x = bool_cases (same_entity x e) (λ t. inr t) (λ t. inl t)
