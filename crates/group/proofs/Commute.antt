-- A family's walk downward reads and changes only the sparse sets of its own kinds, so that families can be walked in any order. Assumes nothing.
use mathlib.Core.Path.{◌≡◌, refl, ap, ap₂, sym, ◌∙◌}
use mathlib.Core.Bool.{Bool, false, cond}
use mathlib.Core.List.{List, [], ◌∷◌, ◌++◌, append_assoc}
use Prim.Native.Nat.{ℕ, ◌-◌}
use native.Mathlib.Nat.{zero-add}
use lib.Dec.{ltb}
use lib.ListN.{length}
use lib.Seq.{ext_get_or}
use Rattle.model.specs.Model.{Entity, SparseSet, Group, Family, Storage, Walked, mem, meets, set_of, at, swap_to, is_grouped, head_kind, kinds_of, ungroup_components, ungroup_family, ungroup}
use Rattle.model.proofs.SparseSets.{set_of_map_on}
use Rattle.model.proofs.BoolLaws.{cond_case, cond_same, bool_cases}
use Rattle.model.proofs.Walk.{Chain, Every}
use Rattle.model.proofs.KindLists.{in_left, in_right, in_cases, not_in_parts, not_both}
use Rattle.model.proofs.Families.{Fams, Apart, all_kinds, fam_kinds}
use Rattle.model.proofs.Removal.{length_ungroup_family, length_ungroup_family_all}
use Rattle.model.specs.Sound.{In}
use Rattle.group.specs.Flat.{with_count}

-- each group's first new kind is one
abbrev pub Headed : Family → Type 0
Headed [] = Unit {0}
Headed (r ∷ rs) = In r.new_kinds (head_kind r.new_kinds) × Headed rs

abbrev pub HeadedAll : List Family → Type 0
HeadedAll [] = Unit {0}
HeadedAll (f ∷ fs) = Headed f × HeadedAll fs

pub headed : (key : ℕ → List Entity) (W : Entity → Type 0) (acc : List ℕ) (rs : Family) → Chain key W acc rs → Headed rs
headed key W acc [] ch = tt
headed key W acc (r ∷ rs) ch = (ch.0.head, headed key W (acc ++ r.new_kinds) rs ch.2)

pub headed_all : (key : ℕ → List Entity) (fs : List Family) → Fams key fs → HeadedAll fs
headed_all key [] fm = tt
headed_all key (f ∷ fs) fm = (headed key Every [] f fm.0, headed_all key fs fm.1)

-- the same rows at the kinds of js
abbrev Same : List ℕ → List SparseSet → List SparseSet → Type 0
Same js a b = (k : ℕ) → In js k → set_of a k ≡ set_of b k

module _ (e : Entity) where
  -- ---- one group

  stepped_sets : (ks : List ℕ) (r : Group) (sets : List SparseSet) (k : ℕ)
      → set_of (ungroup_components e ks r sets).sets k ≡ cond (is_grouped e r sets) (cond (mem k ks) (swap_to e (r.count - 1) (set_of sets k)) (set_of sets k)) (set_of sets k)
  unfolding ungroup_components
  stepped_sets ks r sets k =
      bool_cases (is_grouped e r sets)
      (λ b. rw b (set_of_map_on ks (swap_to e (r.count - 1)) refl 0 sets k ∙ ap (λ (n : ℕ). cond (mem n ks) (swap_to e (r.count - 1) (set_of sets k)) (set_of sets k)) (zero-add k)))
      (λ b. rw b)

  stepped_group : (ks : List ℕ) (r : Group) (sets : List SparseSet) → (ungroup_components e ks r sets).group ≡ cond (is_grouped e r sets) (with_count (r.count - 1) r) r
  unfolding ungroup_components
  stepped_group ks r sets = bool_cases (is_grouped e r sets) (λ b. rw b) (λ b. rw b)

  stepped_other : (ks : List ℕ) (r : Group) (sets : List SparseSet) (k : ℕ) → mem k ks ≡ false → set_of (ungroup_components e ks r sets).sets k ≡ set_of sets k
  stepped_other ks r sets k n = stepped_sets ks r sets k ∙ rw n (cond_same (is_grouped e r sets) (set_of sets k))

  module _ (ks js : List ℕ) (r : Group) (a b : List SparseSet) (head : In js (head_kind r.new_kinds)) (s : Same js a b) where
    inside_same : is_grouped e r a ≡ is_grouped e r b
    inside_same = ap (λ (rows : SparseSet). ltb (at e rows) r.count) (s (head_kind r.new_kinds) head)

    stepped_same : Same js (ungroup_components e ks r a).sets (ungroup_components e ks r b).sets
    stepped_same k i =
        stepped_sets ks r a k
        ∙ ap₂ (λ (t : Bool) (rows : SparseSet). cond t (cond (mem k ks) (swap_to e (r.count - 1) rows) rows) rows) inside_same (s k i)
        ∙ sym (stepped_sets ks r b k)

    stepped_count : (ungroup_components e ks r a).group ≡ (ungroup_components e ks r b).group
    stepped_count = stepped_group ks r a ∙ ap (λ (t : Bool). cond t (with_count (r.count - 1) r) r) inside_same ∙ sym (stepped_group ks r b)

  module _ (gone : List ℕ) where
    -- ---- a family

    pub family_other : (acc : List ℕ) (sets : List SparseSet) (rs : Family) (k : ℕ) → mem k (acc ++ kinds_of rs) ≡ false → set_of (ungroup_family e gone acc sets rs).sets k ≡ set_of sets k
    unfolding ungroup_family
    family_other acc sets [] k n = refl
    family_other acc sets (r ∷ rs) k n =
        let n₁ : mem k ((acc ++ r.new_kinds) ++ kinds_of rs) ≡ false = rw append_assoc n in
        let n₂ : mem k (acc ++ r.new_kinds) ≡ false = (not_in_parts k (acc ++ r.new_kinds) (kinds_of rs) n₁).0 in
        let rest = family_other (acc ++ r.new_kinds) sets rs k n₁ in
        cond_case (λ (w : Walked). set_of w.sets k ≡ set_of sets k) (meets gone (acc ++ r.new_kinds)) _ _
        (λ m. stepped_other (acc ++ r.new_kinds) r (ungroup_family e gone (acc ++ r.new_kinds) sets rs).sets k n₂ ∙ rest)
        (λ m. rest)

    pub record AlikeOn (js : List ℕ) (w v : Walked) : Type 0 where
      pub groups : w.groups ≡ v.groups
      pub same : Same js w.sets v.sets

    pub family_local : (js acc : List ℕ) (a b : List SparseSet) (rs : Family) → ((k : ℕ) → In (acc ++ kinds_of rs) k → In js k) → Headed rs → Same js a b
        → AlikeOn js (ungroup_family e gone acc a rs) (ungroup_family e gone acc b rs)
    unfolding ungroup_family
    family_local js acc a b [] sub hd s = record { groups = refl; same = s }
    family_local js acc a b (r ∷ rs) sub hd s =
        let sub' : (k : ℕ) → In ((acc ++ r.new_kinds) ++ kinds_of rs) k → In js k = λ k i. sub k (rw append_assoc at i) in
        let A = family_local js (acc ++ r.new_kinds) a b rs sub' hd.1 s in
        bool_cases (meets gone (acc ++ r.new_kinds))
        (λ m. rw m (record { groups = ap₂ {C = Family} (λ x xs. x ∷ xs) (stepped_count g js r _ _ head A.same) A.groups; same = stepped_same g js r _ _ head A.same }))
        (λ m. rw m (record { groups = ap (λ (xs : Family). r ∷ xs) A.groups; same = A.same }))
      where
        g : List ℕ
        g = acc ++ r.new_kinds

        head : In js (head_kind r.new_kinds)
        head = sub (head_kind r.new_kinds) (in_right acc (r.new_kinds ++ kinds_of rs) (head_kind r.new_kinds) (in_left r.new_kinds (kinds_of rs) (head_kind r.new_kinds) hd.0))

    -- ---- all families, the first one first and the last one first

    unfoldable pub ungroup_back : List SparseSet → List Family → Storage
    ungroup_back sets [] = record { sets = sets; layout = [] }
    ungroup_back sets (f ∷ fs) =
        let p = ungroup_back sets fs in
        let w = ungroup_family e gone [] p.sets f in
        record { sets = w.sets; layout = w.groups ∷ p.layout }

    ungroup_other : (sets : List SparseSet) (fs : List Family) (k : ℕ) → mem k (all_kinds (fam_kinds fs)) ≡ false → set_of (ungroup e gone sets fs).sets k ≡ set_of sets k
    unfolding ungroup
    ungroup_other sets [] k n = refl
    ungroup_other sets (f ∷ fs) k n =
        let out = not_in_parts k (kinds_of f) (all_kinds (fam_kinds fs)) n in
        ungroup_other (ungroup_family e gone [] sets f).sets fs k out.1 ∙ family_other [] sets f k out.0

    pub back_other : (sets : List SparseSet) (fs : List Family) (k : ℕ) → mem k (all_kinds (fam_kinds fs)) ≡ false → set_of (ungroup_back sets fs).sets k ≡ set_of sets k
    unfolding ungroup_back
    back_other sets [] k n = refl
    back_other sets (f ∷ fs) k n =
        let out = not_in_parts k (kinds_of f) (all_kinds (fam_kinds fs)) n in
        family_other [] (ungroup_back sets fs).sets f k out.0 ∙ back_other sets fs k out.1

    length_back : (sets : List SparseSet) (fs : List Family) → length (ungroup_back sets fs).sets ≡ length sets
    unfolding ungroup_back
    length_back sets [] = refl
    length_back sets (f ∷ fs) = length_ungroup_family e gone [] (ungroup_back sets fs).sets f ∙ length_back sets fs

    record AlikeAll (js : List ℕ) (p q : Storage) : Type 0 where
      pub layout : p.layout ≡ q.layout
      pub same : Same js p.sets q.sets

    both_ways : (a b : List SparseSet) (fs : List Family) → Apart (fam_kinds fs) → HeadedAll fs → Same (all_kinds (fam_kinds fs)) a b → AlikeAll (all_kinds (fam_kinds fs)) (ungroup_back a fs) (ungroup e gone b fs)
    unfolding ungroup_back ungroup
    both_ways a b [] apart hd s = record { layout = refl; same = s }
    both_ways a b (f ∷ fs) apart hd s =
        let K : List ℕ = all_kinds (fam_kinds fs) in
        let w : Walked = ungroup_family e gone [] b f in
        let R = both_ways a w.sets fs apart.1 hd.1 (λ k i. s k (in_right (kinds_of f) K k i) ∙ sym (family_other [] b f k (not_both (kinds_of f) K k (apart.0 k) i))) in
        let F = family_local (kinds_of f) [] (ungroup_back a fs).sets b f (λ k i. i) hd.0 (λ k i. back_other a fs k (apart.0 k i) ∙ s k (in_left (kinds_of f) K k i)) in
        record {
          layout = ap₂ {C = List Family} (λ x xs. x ∷ xs) F.groups R.layout;
          same = λ k i.
              in_cases (kinds_of f) K k i
              (λ j. F.same k j ∙ sym (ungroup_other w.sets fs k (apart.0 k j)))
              (λ j. family_other [] (ungroup_back a fs).sets f k (not_both (kinds_of f) K k (apart.0 k) j) ∙ R.same k j);
        }

    pub commutes : (sets : List SparseSet) (fs : List Family) → Apart (fam_kinds fs) → HeadedAll fs → ungroup_back sets fs ≡ ungroup e gone sets fs
    commutes sets fs apart hd =
        let wide = length_back sets fs ∙ sym (length_ungroup_family_all e gone sets fs) in
        λ i. record { sets = ext_get_or [] (ungroup_back sets fs).sets (ungroup e gone sets fs).sets wide (λ k h. each k) i; layout = B.layout i }
      where
        B : AlikeAll (all_kinds (fam_kinds fs)) (ungroup_back sets fs) (ungroup e gone sets fs)
        B = both_ways sets sets fs apart hd (λ k i. refl)

        each : (k : ℕ) → set_of (ungroup_back sets fs).sets k ≡ set_of (ungroup e gone sets fs).sets k
        each k = bool_cases (mem k (all_kinds (fam_kinds fs))) (B.same k) (λ n. back_other sets fs k n ∙ sym (ungroup_other sets fs k n))
