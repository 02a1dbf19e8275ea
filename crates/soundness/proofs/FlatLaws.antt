-- The groups' clause by the number of the group: all families are right where each group is. Assumes nothing.
use mathlib.Core.Path.{◌≡◌, ap, ap₂, sym, ◌∙◌, subst}
use mathlib.Core.List.{List, [], ◌∷◌}
use Prim.Native.Nat.{ℕ, zero, suc, ◌+◌, ◌-◌, ◌≤◌, ◌<◌}
use native.Mathlib.Nat.{le_of_suc-le-suc, not-suc-le-zero}
use native.Mathlib.Decide.{dec_le}
use native.Mathlib.Omega.{arith}
use lib.ListN.{length, get_or}
use Rattle.model.specs.Model.{SparseSet, Family, head_kind, kinds_of}
use Rattle.model.specs.Sound.{key}
use Rattle.model.proofs.KindLists.{head_first}
use Rattle.words.specs.Part.{between}
use Rattle.words.proofs.Part.{get_d_between}
use Rattle.words.specs.Table.{table}
use Rattle.layout.specs.Layout.{Arrays, start_of, group_count, kinds_at, arities_at, groups_from, family_at, families_of, WellFormed}
use Rattle.layout.specs.ByValue.{ArraysSized}
use Rattle.layout.specs.Group.{InFamily, prior_of, member_at}
use Rattle.layout.proofs.Arrays.{groups_inside, arities_length, family_kinds_of_law}
use Rattle.layout.proofs.Groups.{prior_first, prior_next, prior_at, arity_at, same_family, place_is, place_inside}
use Rattle.soundness.specs.Groups.{GroupOk, GroupsOk, FamilyOk, FamiliesOk}
use Rattle.soundness.specs.ByNumber.{GroupAt}

-- ---- one family, by the place of the group in it

-- the group at place j; p is the arity before the first, b the count
abbrev At : List SparseSet → ℕ → ℕ → List ℕ → ℕ → List ℕ → ℕ → List ℕ → ℕ → Type 0
At sets h b counts g ks p ars j = GroupOk sets h (between (get_or (p ∷ ars) j 0) (get_or ars j 0) ks) (prior_of counts g (g + j) b) (get_or counts (g + j) 0)

counted_cons : (b : ℕ) (counts : List ℕ) (g j : ℕ) → prior_of counts (suc g) (suc g + j) (get_or counts g 0) ≡ prior_of counts g (g + suc j) b
counted_cons b counts g zero =
    let n : g + 1 ≡ suc g = omega arith in
    prior_first counts (suc g) (suc g + 0) (get_or counts g 0) (omega arith) ∙ sym (ap (λ (i : ℕ). prior_of counts g i b) n ∙ prior_next counts g g b (omega arith))
counted_cons b counts g (suc j) =
    let m : suc g + suc j ≡ suc (suc g + j) = omega arith in
    let n : g + suc (suc j) ≡ suc (suc g + j) = omega arith in
    ap (λ (i : ℕ). prior_of counts (suc g) i (get_or counts g 0)) m ∙ prior_next counts (suc g) (suc g + j) (get_or counts g 0) (omega arith)
    ∙ sym (ap (λ (i : ℕ). prior_of counts g i b) n ∙ prior_next counts g (suc g + j) b (omega arith))

at_zero : (sets : List SparseSet) (h b : ℕ) (counts : List ℕ) (g : ℕ) (ks : List ℕ) (p a : ℕ) (ars : List ℕ)
    → At sets h b counts g ks p (a ∷ ars) 0 ≡ GroupOk sets h (between p a ks) b (get_or counts g 0)
at_zero sets h b counts g ks p a ars =
    ap₂ (λ (x y : ℕ). GroupOk sets h (between p a ks) x (get_or counts y 0)) (prior_first counts g (g + 0) b (omega arith)) (omega arith)

at_cons : (sets : List SparseSet) (h b : ℕ) (counts : List ℕ) (g : ℕ) (ks : List ℕ) (p a : ℕ) (ars : List ℕ) (j : ℕ)
    → At sets h (get_or counts g 0) counts (suc g) ks a ars j ≡ At sets h b counts g ks p (a ∷ ars) (suc j)
at_cons sets h b counts g ks p a ars j =
    ap₂ (λ (x y : ℕ). GroupOk sets h (between (get_or (a ∷ ars) j 0) (get_or ars j 0) ks) x (get_or counts y 0)) (counted_cons b counts g j) (omega arith)

module _ (sets : List SparseSet) (h : ℕ) (counts ks : List ℕ) where
  groups_each : (b g p : ℕ) (ars : List ℕ) → GroupsOk sets h b (groups_from counts g ks p ars) → (j : ℕ) → j < length ars → At sets h b counts g ks p ars j
  unfolding groups_from
  groups_each b g p [] G j lt = absurd (not-suc-le-zero lt)
  groups_each b g p (a ∷ ars) G zero lt = subst (λ (T : Type 0). T) (sym (at_zero sets h b counts g ks p a ars)) G.0
  groups_each b g p (a ∷ ars) G (suc j) lt = subst (λ (T : Type 0). T) (at_cons sets h b counts g ks p a ars j) (groups_each (get_or counts g 0) (suc g) a ars G.1 j (le_of_suc-le-suc lt))

  each_groups : (b g p : ℕ) (ars : List ℕ) → ((j : ℕ) → j < length ars → At sets h b counts g ks p ars j) → GroupsOk sets h b (groups_from counts g ks p ars)
  unfolding groups_from
  each_groups b g p [] f = tt
  each_groups b g p (a ∷ ars) f = (
    subst (λ (T : Type 0). T) (at_zero sets h b counts g ks p a ars) (f 0 (omega arith)),
    each_groups (get_or counts g 0) (suc g) a ars (λ j lt. subst (λ (T : Type 0). T) (sym (at_cons sets h b counts g ks p a ars j)) (f (suc j) (omega arith))),
  )

-- ---- one family, by the number of the group

module _ (sets : List SparseSet) (counts : List ℕ) (a : Arrays) (good : WellFormed a) (sized : ArraysSized a) (f : ℕ) (hf : f < a.families) where
  abbrev start : ℕ
  start = start_of a.ends f

  abbrev ars : List ℕ
  ars = arities_at a f

  -- h is the family's first kind
  head_at_law : head_kind (kinds_of (family_at counts a f)) ≡ member_at a f 0
  head_at_law =
      let s = start_of a.kind_ends f in
      ap head_kind (family_kinds_of_law a good sized counts f hf) ∙ head_first (kinds_at a f)
      ∙ get_d_between s (get_or a.kind_ends f 0) 0 a.kinds 0 (omega (arith, (good.family f hf).least))

  abbrev h : ℕ
  h = member_at a f 0

  group_at_law : (j : ℕ) → j < length ars → At sets h (length (key sets h)) counts start (kinds_at a f) 0 ars j ≡ GroupAt sets counts a f (start + j)
  group_at_law j lt =
      let inside : start + j < get_or a.ends f 0 = omega (arith, arities_length a good sized f hf) in
      ap₂ (λ (x y : ℕ). GroupOk sets h (between x y (kinds_at a f)) (prior_of counts start (start + j) (length (key sets h))) (get_or counts (start + j) 0))
      (sym (prior_at a.arities start (get_or a.ends f 0) j 0 (omega (arith, inside)))) (arity_at a f j inside)

  family_is : FamilyOk sets (family_at counts a f) ≡ GroupsOk sets h (length (key sets h)) (family_at counts a f)
  family_is = ap (λ (k : ℕ). GroupsOk sets k (length (key sets k)) (family_at counts a f)) head_at_law

  family_each : FamilyOk sets (family_at counts a f) → (g : ℕ) → InFamily a f g → GroupAt sets counts a f g
  family_each F g G =
      let lt = place_inside a good sized f g G in
      subst (λ (i : ℕ). GroupAt sets counts a f i) (place_is a good sized f g G)
      (subst (λ (T : Type 0). T) (group_at_law (g - start) lt)
      (groups_each sets h counts (kinds_at a f) (length (key sets h)) start 0 ars (subst (λ (T : Type 0). T) family_is F) (g - start) lt))

  each_family : ((g : ℕ) → InFamily a f g → GroupAt sets counts a f g) → FamilyOk sets (family_at counts a f)
  each_family G =
      subst (λ (T : Type 0). T) (sym family_is)
      (each_groups sets h counts (kinds_at a f) (length (key sets h)) start 0 ars
      (λ j lt.
      subst (λ (T : Type 0). T) (sym (group_at_law j lt))
      (G (start + j) (record { family = hf; low = omega arith; high = omega (arith, arities_length a good sized f hf) }))))

-- ---- all families

table_each : (sets : List SparseSet) (n : ℕ) (F : ℕ → Family) → FamiliesOk sets (table n F) → (i : ℕ) → i < n → FamilyOk sets (F i)
unfolding table
table_each sets zero F G i lt = absurd (not-suc-le-zero lt)
table_each sets (suc n) F G zero lt = G.0
table_each sets (suc n) F G (suc i) lt = table_each sets n (λ j. F (suc j)) G.1 i (le_of_suc-le-suc lt)

each_table : (sets : List SparseSet) (n : ℕ) (F : ℕ → Family) → ((i : ℕ) → i < n → FamilyOk sets (F i)) → FamiliesOk sets (table n F)
unfolding table
each_table sets zero F f = tt
each_table sets (suc n) F f = (f 0 (omega arith), each_table sets n (λ j. F (suc j)) (λ i lt. f (suc i) (omega arith)))

module _ (sets : List SparseSet) (counts : List ℕ) (a : Arrays) (good : WellFormed a) (sized : ArraysSized a) (of : ℕ → ℕ) (right : (g : ℕ) → g < group_count a → InFamily a (of g) g) where
  pub families_each : FamiliesOk sets (families_of counts a) → (g : ℕ) → g < group_count a → GroupAt sets counts a (of g) g
  families_each F g lt =
      let w = right g lt in
      family_each sets counts a good sized (of g) w.family (table_each sets a.families (family_at counts a) F (of g) w.family) g w

  pub each_families : ((g : ℕ) → g < group_count a → GroupAt sets counts a (of g) g) → FamiliesOk sets (families_of counts a)
  each_families G =
      each_table sets a.families (family_at counts a)
      (λ f hf.
      each_family sets counts a good sized f hf
      (λ g w.
      let lt : g < group_count a = omega (arith, w.high, groups_inside a good f hf) in
      subst (λ (e : ℕ). GroupAt sets counts a e g) (same_family a good (of g) f g (right g lt) w) (G g lt)))

  -- ---- a group's count is no more than the family's first kind has rows

  pub prior_fits : ((g : ℕ) → g < group_count a → GroupAt sets counts a (of g) g) → (g : ℕ) → g < group_count a
      → prior_of counts (start_of a.ends (of g)) g (length (key sets (member_at a (of g) 0))) ≤ length (key sets (member_at a (of g) 0))
  prior_fits G zero lt = let whole = length (key sets (member_at a (of 0) 0)) in omega (arith, prior_first counts (start_of a.ends (of 0)) 0 whole (omega arith))
  prior_fits G (suc g) lt =
      let f = of (suc g) in
      let s = start_of a.ends f in
      let whole = length (key sets (member_at a f 0)) in
      let w = right (suc g) lt in
      elim (dec_le s g) [
        | yes q ↦
            let e : of g ≡ f = same_family a good (of g) f g (right g (omega arith)) (record { family = w.family; low = q; high = omega (arith, w.high) }) in
            let i = prior_fits G g (omega arith) in
            let j : prior_of counts s g whole ≤ whole = subst (λ (x : ℕ). prior_of counts (start_of a.ends x) g (length (key sets (member_at a x 0))) ≤ length (key sets (member_at a x 0))) e i in
            let l : get_or counts g 0 ≤ prior_of counts s g whole = (subst (λ (x : ℕ). GroupAt sets counts a x g) e (G g (omega arith))).less in
            omega (arith, prior_next counts s g whole q)
        | no q ↦ omega (arith, prior_first counts s (suc g) whole (omega arith))
      ]
