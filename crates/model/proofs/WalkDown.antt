-- The downward walk over a family: the entity is out of each group that has a kind of gone, and every group is right for the other entities. Assumes nothing.
use mathlib.Core.Path.{◌≡◌, refl, ap, ap₂, sym, ◌∙◌}
use mathlib.Core.Bool.{true, false, true≢false}
use mathlib.Core.List.{List, [], ◌∷◌, ◌++◌, append_assoc}
use Prim.Native.Nat.{ℕ, suc, ◌-◌, ◌≤◌, ◌<◌}
use native.Mathlib.Omega.{arith}
use borrow.Author.Tests.{ltb-true, ltb-false}
use lib.ListN.{length, take}
use Rattle.model.proofs.ListLaws.{place_count_take, count_take_place, count_take_le}
use Rattle.model.specs.Model.{Entity, SparseSet, Group, Family, Walked, GroupStep, same_entity, mem, meets, head_kind, is_grouped, swap_to, on_kinds, ungroup_components, ungroup_family, kinds_of}
use Rattle.model.proofs.SparseSets.{key_swapped, key_kept}
use Rattle.model.proofs.BoolLaws.{cond_case, or_false}
use Rattle.model.proofs.Groups.{plc, Even, Full, Inside, Swapped, SameEntities, even_kept, full_kept, same_entities, low, inner_even, inner_count, shrunk_even, shrunk_full, shrunk_out}
use Rattle.model.proofs.Walk.{Below, Chain, Every, But, below_le}
use Rattle.model.proofs.KindLists.{in_left, in_right, mem_append, meets_left}
use Rattle.model.specs.Sound.{key, cnt, In}

-- what a walk leaves of a smaller group
pub record Held (key new : ℕ → List Entity) (ks : List ℕ) (h : ℕ) : Type 0 where
  pub even : Even new ks h
  pub counts : (x : Entity) (k : ℕ) → In ks k → cnt x (take h (new k)) ≡ cnt x (take h (key k))

module _ (e : Entity) (gone : List ℕ) where
  -- a group after the walk: right for the other entities; the entity is out of it if it has a kind of gone, and else it is right for the entity too
  pub record Left (key : ℕ → List Entity) (g : List ℕ) (r : Group) : Type 0 where
    pub head : In r.new_kinds (head_kind r.new_kinds)
    pub even : Even key g r.count
    pub others : (x : Entity) → But e x → Full key g r.count x
    pub out : meets gone g ≡ true → (k : ℕ) → In g k → cnt e (take r.count (key k)) ≡ 0
    pub stay : meets gone g ≡ false → Full key g r.count e

  abbrev pub LeftChain : (ℕ → List Entity) → List ℕ → Family → Type 0
  LeftChain key acc [] = Unit {0}
  LeftChain key acc (r ∷ rs) = Left key (acc ++ r.new_kinds) r × Below r.count rs × LeftChain key (acc ++ r.new_kinds) rs

  pub out_place : (key : ℕ → List Entity) (k h : ℕ) → h ≤ length (key k) → cnt e (take h (key k)) ≡ 0 → h ≤ plc e (key k)
  out_place key k h fit z =
      let no : ¬ (plc e (key k) < h) = λ q. omega (arith, place_count_take same_entity e h (key k) q fit) in
      omega arith

  -- the groups above one that has a kind of gone, after a swap in that one
  left_low : {key new : ℕ → List Entity} (g : List ℕ) (q hd : ℕ) → SameEntities key new → ((h : ℕ) → h ≤ q → ((k : ℕ) → In g k → h ≤ plc e (key k)) → (k : ℕ) → take h (new k) ≡ take h (key k)) → plc e (key hd) ≤ q → In g hd → (acc : List ℕ) (rs : Family) → ((k : ℕ) → In g k → In acc k) → meets gone acc ≡ true → LeftChain key acc rs → LeftChain new acc rs
  left_low g q hd s t p i acc [] sub m ch = tt
  left_low {key} {new} g q hd s t p i acc (r ∷ rs) sub m ch =
      let mg : meets gone (acc ++ r.new_kinds) ≡ true = meets_left gone acc r.new_kinds m in
      let sb : (k : ℕ) → In g k → In (acc ++ r.new_kinds) k = λ k j. in_left acc r.new_kinds k (sub k j) in
      let o : (k : ℕ) → In g k → r.count ≤ plc e (key k) = λ k j. out_place key k r.count (ch.0.even.fit k (sb k j)) (ch.0.out mg k (sb k j)) in
      let tt' : (k : ℕ) → take r.count (new k) ≡ take r.count (key k) = t r.count (omega (arith, o hd i)) o in (
        record {
          head = ch.0.head;
          even = even_kept (acc ++ r.new_kinds) r.count s (λ k j. tt' k) ch.0.even;
          others = λ x w. full_kept (acc ++ r.new_kinds) r.count x s (λ k j. ap (cnt x) (tt' k)) (ch.0.others x w);
          out = λ u k j. ap (cnt e) (tt' k) ∙ ch.0.out u k j;
          stay = λ u. absurd (true≢false (sym mg ∙ u));
        },
        ch.1,
        left_low g q hd s t p i (acc ++ r.new_kinds) rs sb mg ch.2,
      )

  -- the first of them has a count up to q
  left_below : (key : ℕ → List Entity) (g : List ℕ) (q hd : ℕ) → plc e (key hd) ≤ q → In g hd → (rs : Family) → meets gone g ≡ true → LeftChain key g rs → Below q rs
  left_below key g q hd p i [] m ch = tt
  left_below key g q hd p i (r ∷ rs) m ch =
      let j = in_left g r.new_kinds hd i in
      omega (arith, out_place key hd r.count (ch.0.even.fit hd j) (ch.0.out (meets_left gone g r.new_kinds m) hd j))

  -- ---- one group

  -- the group's step, where it has a kind of gone
  record Stepped' (g : List ℕ) (r : Group) (sets : List SparseSet) (s : GroupStep) : Type 0 where
    pub same : SameEntities (key sets) (key s.sets)
    pub kinds : s.group.new_kinds ≡ r.new_kinds
    pub falls : s.group.count ≤ r.count
    pub left : meets gone g ≡ true → Left (key s.sets) g s.group
    pub below : (rs : Family) → meets gone g ≡ true → Below r.count rs → LeftChain (key sets) g rs → Below s.group.count rs
    pub larger : (rs : Family) → meets gone g ≡ true → LeftChain (key sets) g rs → LeftChain (key s.sets) g rs
    pub smaller : (ks : List ℕ) (h : ℕ) → ((k : ℕ) → In ks k → In g k) → Even (key sets) ks h → r.count ≤ h → Held (key sets) (key s.sets) ks h
    pub other : (k : ℕ) → mem k g ≡ false → key s.sets k ≡ key sets k

  module _ (g : List ℕ) (r : Group) (sets : List SparseSet)
      (hd∈ : In r.new_kinds (head_kind r.new_kinds))
      (head : In g (head_kind r.new_kinds))
      (once : (k : ℕ) → cnt e (key sets k) ≤ 1)
      (v : Even (key sets) g r.count)
      (f : (x : Entity) → Full (key sets) g r.count x) where
    abbrev c : ℕ
    c = r.count

    abbrev hd : ℕ
    hd = head_kind r.new_kinds

    stays : is_grouped e r sets ≡ false → Stepped' g r sets (record { sets = sets; group = r })
    stays t =
        let ge : c ≤ plc e (key sets hd) = ltb-false _ _ t in
        let none : (k : ℕ) → In g k → cnt e (take c (key sets k)) ≡ 0 = λ k i.
        let no : ¬ (1 ≤ cnt e (take c (key sets k))) = λ q. omega (arith, count_take_place same_entity e c (key sets hd) (rw (v.align k hd i head) at q)) in
        omega arith in
        record {
          same = record { entities = λ x k. refl; lengths = λ k. refl };
          kinds = refl;
          falls = omega arith;
          left = λ m. record { head = hd∈; even = v; others = λ x w. f x; out = λ u. none; stay = λ u. absurd (true≢false (sym m ∙ u)) };
          below = λ rs m b ch. b;
          larger = λ rs m ch. ch;
          smaller = λ ks h sub w le. record { even = w; counts = λ x k i. refl };
          other = λ k n. refl;
        }

    moves : is_grouped e r sets ≡ true → Stepped' g r sets (record { sets = on_kinds g (swap_to e (c - 1)) sets; group = record { new_kinds = r.new_kinds; count = c - 1 } })
    moves t =
        let lt : plc e (key sets hd) < c = ltb-true _ _ t in
        let q : ℕ = c - 1 in
        let sq : suc (c - 1) ≡ c = omega arith in
        let ins : Inside (key sets) g c e = λ k i. rw (v.align k hd i head) (place_count_take same_entity e c (key sets hd) lt (v.fit hd head)) in
        let has : (k : ℕ) → In g k → 1 ≤ cnt e (key sets k) = λ k i. omega (arith, ins k i, count_take_le same_entity e c (key sets k)) in
        let room : (k : ℕ) → In g k → c - 1 < length (key sets k) = λ k i. omega (arith, v.fit k i) in
        let new : ℕ → List Entity = key (on_kinds g (swap_to e (c - 1)) sets) in
        let sw : Swapped e g (c - 1) (key sets) new = record { done = λ k i. key_swapped g e (c - 1) sets k i; kept = λ k n. key_kept g e (c - 1) sets k n } in
        let v' : Even (key sets) g (suc (c - 1)) = rw sq v in
        let ins' : Inside (key sets) g (suc (c - 1)) e = rw sq ins in
        let sc : SameEntities (key sets) new = same_entities sw has room in
        record {
          same = sc;
          kinds = refl;
          falls = omega arith;
          left = λ m. record {
            head = hd∈;
            even = shrunk_even sw has room v' ins';
            others = λ x w. shrunk_full sw has room v' ins' x w (rw sq (f x));
            out = λ u. shrunk_out sw has room v' ins' (λ k i. once k);
            stay = λ u. absurd (true≢false (sym m ∙ u));
          };
          below = λ rs m b ch. left_below (key sets) g (c - 1) hd (omega arith) head rs m ch;
          larger = λ rs m ch. left_low g (c - 1) hd sc (low sw has room) (omega arith) head g rs (λ k i. i) m ch;
          smaller = λ ks h sub w le.
              let ih : Inside (key sets) ks h e = λ k i. place_count_take same_entity e h (key sets k) (omega (arith, count_take_place same_entity e c (key sets k) (ins k (sub k i)))) (w.fit k i) in
              record { even = inner_even sw has room sub w ih (λ k i. omega arith); counts = inner_count sw has room sub w ih (λ k i. omega arith) };
          other = λ k n. key_kept g e (c - 1) sets k n;
        }

    ungroup_components_good : Stepped' g r sets (ungroup_components e g r sets)
    unfolding ungroup_components
    ungroup_components_good = cond_case (Stepped' g r sets) (is_grouped e r sets) _ _ moves stays

  -- ---- the walk

  pub record Down (acc : List ℕ) (sets : List SparseSet) (rs : Family) (w : Walked) : Type 0 where
    pub same : SameEntities (key sets) (key w.sets)
    pub chain : LeftChain (key w.sets) acc w.groups
    pub smaller : (ks : List ℕ) (h : ℕ) → ((k : ℕ) → In ks k → In acc k) → Even (key sets) ks h → Below h rs → Held (key sets) (key w.sets) ks h
    pub other : (k : ℕ) → mem k (acc ++ kinds_of rs) ≡ false → key w.sets k ≡ key sets k
    pub falls : (m : ℕ) → Below m rs → Below m w.groups
    pub kinds : kinds_of w.groups ≡ kinds_of rs

  module _ (acc : List ℕ) (sets : List SparseSet) (r : Group) (rs : Family)
      (once : (k : ℕ) → cnt e (key sets k) ≤ 1)
      (ch : Chain (key sets) Every acc (r ∷ rs))
      (D : Down (acc ++ r.new_kinds) sets rs (ungroup_family e gone (acc ++ r.new_kinds) sets rs)) where
    abbrev g' : List ℕ
    g' = acc ++ r.new_kinds

    abbrev w' : Walked
    w' = ungroup_family e gone g' sets rs

    abbrev s' : GroupStep
    s' = ungroup_components e g' r w'.sets

    H : Held (key sets) (key w'.sets) g' r.count
    H = D.smaller g' r.count (λ k i. i) ch.0.even ch.1

    full' : (x : Entity) → Full (key w'.sets) g' r.count x
    full' x = full_kept g' r.count x D.same (H.counts x) (ch.0.full x tt)

    not_in : (k : ℕ) → mem k (acc ++ kinds_of (r ∷ rs)) ≡ false → (mem k (g' ++ kinds_of rs) ≡ false) × (mem k g' ≡ false)
    not_in k n =
        let n₁ : mem k (g' ++ kinds_of rs) ≡ false = rw append_assoc n in
        (n₁, or_false (mem k g') (mem k (kinds_of rs)) (sym (mem_append k g' (kinds_of rs)) ∙ n₁))

    kept : meets gone g' ≡ false → Down acc sets (r ∷ rs) (record { sets = w'.sets; groups = r ∷ w'.groups })
    kept m =
        record {
          same = D.same;
          chain = (record { head = ch.0.head; even = H.even; others = λ x w. full' x; out = λ u. absurd (true≢false (sym u ∙ m)); stay = λ u. full' e }, D.falls r.count ch.1, D.chain);
          smaller = λ ks h sub v b. D.smaller ks h (λ k i. in_left acc r.new_kinds k (sub k i)) v (below_le r.count h rs b ch.1);
          other = λ k n. D.other k (not_in k n).0;
          falls = λ m b. b;
          kinds = ap (λ (l : List ℕ). r.new_kinds ++ l) D.kinds;
        }

    left : meets gone g' ≡ true → Down acc sets (r ∷ rs) (record { sets = s'.sets; groups = s'.group ∷ w'.groups })
    left m =
        let S : Stepped' g' r w'.sets s' = ungroup_components_good g' r w'.sets ch.0.head (in_right acc r.new_kinds _ ch.0.head) (λ k. rw (D.same.entities e k) (once k)) H.even full' in
        record {
          same = record { entities = λ x k. S.same.entities x k ∙ D.same.entities x k; lengths = λ k. S.same.lengths k ∙ D.same.lengths k };
          chain = rw S.kinds (S.left m, S.below w'.groups m (D.falls r.count ch.1) D.chain, S.larger w'.groups m D.chain);
          smaller = λ ks h sub v b.
              let h₁ = D.smaller ks h (λ k i. in_left acc r.new_kinds k (sub k i)) v (below_le r.count h rs b ch.1) in
              let h₂ = S.smaller ks h (λ k i. in_left acc r.new_kinds k (sub k i)) h₁.even b in
              record { even = h₂.even; counts = λ x k i. h₂.counts x k i ∙ h₁.counts x k i };
          other = λ k n. S.other k (not_in k n).1 ∙ D.other k (not_in k n).0;
          falls = λ m b. omega (arith, S.falls);
          kinds = ap₂ (λ (a b : List ℕ). a ++ b) S.kinds D.kinds;
        }

  pub ungroup_family_good : (acc : List ℕ) (sets : List SparseSet) (rs : Family) → ((k : ℕ) → cnt e (key sets k) ≤ 1) → Chain (key sets) Every acc rs → Down acc sets rs (ungroup_family e gone acc sets rs)
  unfolding ungroup_family
  ungroup_family_good acc sets [] once ch =
      record {
        same = record { entities = λ x k. refl; lengths = λ k. refl };
        chain = tt;
        smaller = λ ks h sub v b. record { even = v; counts = λ x k i. refl };
        other = λ k n. refl;
        falls = λ m b. b;
        kinds = refl;
      }
  ungroup_family_good acc sets (r ∷ rs) once ch =
      cond_case (Down acc sets (r ∷ rs)) (meets gone (acc ++ r.new_kinds)) _ _
      (left acc sets r rs once ch (ungroup_family_good (acc ++ r.new_kinds) sets rs once ch.2))
      (kept acc sets r rs once ch (ungroup_family_good (acc ++ r.new_kinds) sets rs once ch.2))
