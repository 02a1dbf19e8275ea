-- The positions of several kinds are the union of each kind's, and each kind's are a run from its own group or its family's first. Assumes nothing.
use mathlib.Core.Path.{◌≡◌, refl, ap, ap₂, sym, ◌∙◌}
use mathlib.Core.Bool.{Bool, true, false}
use mathlib.Core.List.{List, [], ◌∷◌, ◌++◌, append-nil, append_assoc}
use Prim.Native.Nat.{ℕ, zero, suc, ◌+◌, ◌-◌, ◌≤◌, ◌<◌}
use native.Mathlib.Omega.{arith}
use native.Mathlib.Nat.{le_of_suc-le-suc, not-suc-le-zero}
use lib.ListN.{length, get_or}
use Rattle.model.specs.Model.{Family, mem, meets, head_kind, kinds_of, groups_of}
use Rattle.model.specs.Sound.{In, Distinct, layout_kinds}
use Rattle.model.proofs.KindLists.{mem_append, in_left, in_right, not_in_parts, not_both, any_in, any_append, meets_one, distinct_left, distinct_right, distinct_apart}
use Rattle.masks.specs.Masks.{up_from, union_of}
use Rattle.masks.proofs.Lists.{up_split}
use Rattle.group.specs.Flat.{nowhere, family_groups, group_list, located, family_members, passing, positions_where, insert_positions, delete_positions}
use Rattle.group.proofs.Fronts.{by_family}
use Rattle.group.proofs.Counts.{family_at_law, placed_from}
use Rattle.group.proofs.Commute.{Headed, HeadedAll}
use Rattle.group.proofs.Positions.{where_family, family_all, where_union}

-- ---- several kinds

pub insert_union : (w : ℕ) (ks js : List ℕ) (fs : List Family) → groups_of fs ≤ w → insert_positions (ks ++ js) fs ≡ union_of w (insert_positions ks fs) (insert_positions js fs)
insert_union w ks js fs le =
    ap (λ (t : Family → List ℕ → Bool). positions_where t 0 fs) (λ i f is. any_append (λ k. mem k (kinds_of f)) ks js i)
    ∙ where_union w (λ f is. meets ks (kinds_of f)) (λ f is. meets js (kinds_of f)) fs le

pub delete_union : (w : ℕ) (ks js : List ℕ) (fs : List Family) → groups_of fs ≤ w → delete_positions (ks ++ js) fs ≡ union_of w (delete_positions ks fs) (delete_positions js fs)
delete_union w ks js fs le =
    ap (λ (t : Family → List ℕ → Bool). positions_where t 0 fs) (λ i f is. any_append (λ k. mem k is) ks js i)
    ∙ where_union w (λ f is. meets ks is) (λ f is. meets js is) fs le

-- ---- one kind, and a test that no group passes where its family lacks the kind

module _ (k : ℕ) (t : Family → List ℕ → Bool) (misses : (f : Family) (ks : List ℕ) → mem k (kinds_of f) ≡ false → mem k ks ≡ false → t f ks ≡ false) where
  none_in : (p : ℕ) (f : Family) (acc : List ℕ) (rs : Family) → mem k (kinds_of f) ≡ false → mem k (acc ++ kinds_of rs) ≡ false → passing t p (family_members f acc rs) ≡ []
  unfolding passing
  none_in p f acc [] m n = refl
  none_in p f acc (r ∷ rs) m n =
      let n' : mem k ((acc ++ r.new_kinds) ++ kinds_of rs) ≡ false = rw append_assoc n in
      rw (misses f (acc ++ r.new_kinds) m (not_in_parts k (acc ++ r.new_kinds) (kinds_of rs) n').0) (none_in (suc p) f (acc ++ r.new_kinds) rs m n')

  none_of : (p : ℕ) (fs : List Family) → mem k (layout_kinds fs) ≡ false → positions_where t p fs ≡ []
  unfolding passing
  none_of p [] n = refl
  none_of p (f ∷ fs) n =
      let out = not_in_parts k (kinds_of f) (layout_kinds fs) n in
      where_family t p f fs ∙ rw (none_in p f [] f out.0 out.0) (none_of (p + length f) fs out.1)

  -- where the kind's own group is at p + i, those of its family from low on pass
  module _ (low : ℕ → ℕ → ℕ)
      (own : (p : ℕ) (f : Family) (i : ℕ) → Distinct (kinds_of f) → i < length f → In (get_or (family_groups p (p + length f) [] f) i nowhere).new_kinds k
      → passing t p (family_members f [] f) ≡ up_from (low p (p + i)) (p + length f - low p (p + i))) where
    run_of : (p : ℕ) (fs : List Family) (i : ℕ) → Distinct (layout_kinds fs) → i < groups_of fs → In (get_or (group_list p fs) i nowhere).new_kinds k
        → positions_where t p fs ≡ up_from (low (get_or (group_list p fs) i nowhere).first (p + i)) ((get_or (group_list p fs) i nowhere).top - low (get_or (group_list p fs) i nowhere).first (p + i))
    run_of p [] i d h = absurd (not-suc-le-zero h)
    run_of p (f ∷ fs) i d h =
        by_family (λ l i. In l.new_kinds k → positions_where t p (f ∷ fs) ≡ up_from (low l.first (p + i)) (l.top - low l.first (p + i))) p f fs i
        (λ q n.
        let F = family_at_law p (p + length f) [] f i q in
        where_family t p f fs
        ∙ rw (own p f i (distinct_left (kinds_of f) (layout_kinds fs) d) q n, none_of (p + length f) fs (distinct_apart (kinds_of f) (layout_kinds fs) d k (F.has k n)), F.first, F.top)
        (append-nil (up_from (low p (p + i)) (p + length f - low p (p + i)))))
        (λ j e n.
        let m : mem k (kinds_of f) ≡ false = not_both (kinds_of f) (layout_kinds fs) k (distinct_apart (kinds_of f) (layout_kinds fs) d k) ((placed_from (p + length f) fs j (omega arith)).has k n) in
        let z : p + i ≡ p + length f + j = omega arith in
        where_family t p f fs ∙ rw (none_in p f [] f m m, z) (run_of (p + length f) fs j (distinct_right (kinds_of f) (layout_kinds fs) d) (omega arith) n))

-- ---- insertion walks all groups of the kind's family, removal those that have the kind

pub insert_none : (k : ℕ) (fs : List Family) → mem k (layout_kinds fs) ≡ false → insert_positions (k ∷ []) fs ≡ []
insert_none k fs n = none_of k (λ f ks. meets (k ∷ []) (kinds_of f)) (λ f ks a b. meets_one k (kinds_of f) ∙ a) 0 fs n

pub delete_none : (k : ℕ) (fs : List Family) → mem k (layout_kinds fs) ≡ false → delete_positions (k ∷ []) fs ≡ []
delete_none k fs n = none_of k (λ f ks. meets (k ∷ []) ks) (λ f ks a b. meets_one k ks ∙ b) 0 fs n

-- every group above one that has the kind has it
delete_above : (k p : ℕ) (f : Family) (acc : List ℕ) (rs : Family) → mem k acc ≡ true → passing (λ f ks. meets (k ∷ []) ks) p (family_members f acc rs) ≡ up_from p (length rs)
unfolding passing up_from
delete_above k p f acc [] i = refl
delete_above k p f acc (r ∷ rs) i =
    let m : mem k (acc ++ r.new_kinds) ≡ true = in_left acc r.new_kinds k i in
    rw (meets_one k (acc ++ r.new_kinds), m, delete_above k (suc p) f (acc ++ r.new_kinds) rs m)

delete_in : (k first top p : ℕ) (f : Family) (acc : List ℕ) (rs : Family) (i : ℕ) → mem k acc ≡ false → Distinct (kinds_of rs) → i < length rs → In (get_or (family_groups first top acc rs) i nowhere).new_kinds k
    → passing (λ f ks. meets (k ∷ []) ks) p (family_members f acc rs) ≡ up_from (p + i) (length rs - i)
unfolding passing up_from
delete_in k first top p f acc [] i a d h n = absurd (not-suc-le-zero h)
delete_in k first top p f acc (r ∷ rs) zero a d h n =
    let m : mem k (acc ++ r.new_kinds) ≡ true = in_right acc r.new_kinds k n in
    let z : p + 0 ≡ p = omega arith in
    let l : suc (length rs) - 0 ≡ suc (length rs) = omega arith in
    rw (meets_one k (acc ++ r.new_kinds), m, z, l, delete_above k (suc p) f (acc ++ r.new_kinds) rs m)
delete_in k first top p f acc (r ∷ rs) (suc i) a d h n =
    let kin : In (kinds_of rs) k = (family_at_law first top (acc ++ r.new_kinds) rs i (le_of_suc-le-suc h)).has k n in
    let m : mem k (acc ++ r.new_kinds) ≡ false = mem_append k acc r.new_kinds ∙ rw (a, not_both r.new_kinds (kinds_of rs) k (distinct_apart r.new_kinds (kinds_of rs) d k) kin) in
    let z : p + suc i ≡ suc p + i = omega arith in
    let l : suc (length rs) - suc i ≡ length rs - i = omega arith in
    rw (meets_one k (acc ++ r.new_kinds), m, z, l) (delete_in k first top (suc p) f (acc ++ r.new_kinds) rs i m (distinct_right r.new_kinds (kinds_of rs) d) (le_of_suc-le-suc h) n)

-- the same at the layout's positions: g is the kind's own group
module _ (fs : List Family) (d : Distinct (layout_kinds fs)) (k g : ℕ) (lt : g < groups_of fs) (own : In (located fs g).new_kinds k) where
  pub insert_run : insert_positions (k ∷ []) fs ≡ up_from (located fs g).first ((located fs g).top - (located fs g).first)
  insert_run =
      run_of k (λ f ks. meets (k ∷ []) (kinds_of f)) (λ f ks a b. meets_one k (kinds_of f) ∙ a) (λ first own. first)
      (λ p f i d q n.
      let len : length f ≡ p + length f - p = omega arith in
      family_all (λ f ks. meets (k ∷ []) (kinds_of f)) f (λ ks. meets_one k (kinds_of f) ∙ (family_at_law p (p + length f) [] f i q).has k n) p [] f ∙ ap (up_from p) len)
      0 fs g d lt own

  pub delete_run : delete_positions (k ∷ []) fs ≡ up_from g ((located fs g).top - g)
  delete_run =
      let z : 0 + g ≡ g = omega arith in
      run_of k (λ f ks. meets (k ∷ []) ks) (λ f ks a b. meets_one k ks ∙ b) (λ first own. own)
      (λ p f i d q n.
      let len : length f - i ≡ p + length f - (p + i) = omega arith in
      delete_in k p (p + length f) p f [] f i refl d q n ∙ ap (up_from (p + i)) len)
      0 fs g d lt own
      ∙ ap (λ (n : ℕ). up_from n ((located fs g).top - n)) z

-- ---- where every kind of the layout goes, every group is left

delete_all_in : (gone : List ℕ) (p : ℕ) (f : Family) (acc : List ℕ) (rs : Family) → Headed rs → ((k : ℕ) → In (kinds_of rs) k → In gone k)
    → passing (λ f ks. meets gone ks) p (family_members f acc rs) ≡ up_from p (length rs)
unfolding passing up_from
delete_all_in gone p f acc [] hd sub = refl
delete_all_in gone p f acc (r ∷ rs) hd sub =
    let k : ℕ = head_kind r.new_kinds in
    let m : meets gone (acc ++ r.new_kinds) ≡ true = any_in (λ j. mem j (acc ++ r.new_kinds)) gone k (sub k (in_left r.new_kinds (kinds_of rs) k hd.0)) (in_right acc r.new_kinds k hd.0) in
    rw (m, delete_all_in gone (suc p) f (acc ++ r.new_kinds) rs hd.1 (λ j i. sub j (in_right r.new_kinds (kinds_of rs) j i)))

pub delete_all : (gone : List ℕ) (p : ℕ) (fs : List Family) → HeadedAll fs → ((k : ℕ) → In (layout_kinds fs) k → In gone k) → positions_where (λ f ks. meets gone ks) p fs ≡ up_from p (groups_of fs)
unfolding passing up_from
delete_all gone p [] hd sub = refl
delete_all gone p (f ∷ fs) hd sub =
    where_family (λ f ks. meets gone ks) p f fs
    ∙ ap₂ ◌++◌ (delete_all_in gone p f [] f hd.0 (λ k i. sub k (in_left (kinds_of f) (layout_kinds fs) k i))) (delete_all gone (p + length f) fs hd.1 (λ k i. sub k (in_right (kinds_of f) (layout_kinds fs) k i)))
    ∙ sym (up_split p (length f) (groups_of fs))
