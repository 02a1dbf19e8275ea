-- Arrays that agree on their used parts mean the same, and one is well formed where the other is. Assumes nothing.
use mathlib.Core.Path.{◌≡◌, refl, sym, ap, ap₂, ◌∙◌}
use mathlib.Core.List.{List, []}
use Prim.Native.Nat.{ℕ, zero, suc, ◌≤◌, ◌<◌}
use native.Mathlib.Omega.{arith}
use lib.ListN.{get_or}
use Rattle.model.proofs.ListLaws.{front_agree}
use Rattle.words.specs.Part.{between}
use Rattle.words.proofs.Tables.{table_same}
use Rattle.words.proofs.Part.{between_same}
use Rattle.layout.specs.Layout.{Arrays, arrays_in, start_of, kinds_at, arities_at, groups_from, family_at, families_of, FamilyFormed, WellFormed}
use Rattle.layout.specs.ByValue.{ArraysSized}
use Rattle.layout.proofs.Arrays.{kinds_inside, groups_inside}

module _ (n : ℕ) (ks ars kes ges ks' ars' kes' ges' : List ℕ) (good : WellFormed (arrays_in ks ars kes ges n)) (sized : ArraysSized (arrays_in ks ars kes ges n)) (sized' : ArraysSized (arrays_in ks' ars' kes' ges' n))
    (kind_ends : (i : ℕ) → i < n → get_or kes i 0 ≡ get_or kes' i 0) (ends : (i : ℕ) → i < n → get_or ges i 0 ≡ get_or ges' i 0)
    (kinds : (i : ℕ) → i < start_of kes n → get_or ks i 0 ≡ get_or ks' i 0) (arities : (i : ℕ) → i < start_of ges n → get_or ars i 0 ≡ get_or ars' i 0) where
  abbrev a : Arrays
  a = arrays_in ks ars kes ges n

  abbrev a' : Arrays
  a' = arrays_in ks' ars' kes' ges' n

  start_kinds : (i : ℕ) → i ≤ n → start_of kes' i ≡ start_of kes i
  start_kinds zero h = refl
  start_kinds (suc i) h = sym (kind_ends i h)

  start_groups : (i : ℕ) → i ≤ n → start_of ges' i ≡ start_of ges i
  start_groups zero h = refl
  start_groups (suc i) h = sym (ends i h)

  same_kinds : (i : ℕ) → i < n → kinds_at a' i ≡ kinds_at a i
  same_kinds i h =
      ap₂ (λ (s e : ℕ). between s e ks') (start_kinds i (omega arith)) (sym (kind_ends i h))
      ∙ between_same (start_of kes i) (get_or kes i 0) ks ks' (omega (arith, kinds_inside a good i h, good.wide, sized.kinds)) (omega (arith, kinds_inside a good i h, good.wide, sized'.kinds))
      (λ j m l. sym (kinds j (omega (arith, kinds_inside a good i h))))

  same_arities : (i : ℕ) → i < n → arities_at a' i ≡ arities_at a i
  same_arities i h =
      ap₂ (λ (s e : ℕ). between s e ars') (start_groups i (omega arith)) (sym (ends i h))
      ∙ between_same (start_of ges i) (get_or ges i 0) ars ars' (omega (arith, groups_inside a good i h, good.many, sized.arities)) (omega (arith, groups_inside a good i h, good.many, sized'.arities))
      (λ j m l. sym (arities j (omega (arith, groups_inside a good i h))))

  pub agree_means : (counts : List ℕ) → families_of counts a' ≡ families_of counts a
  agree_means counts =
      table_same [] n (family_at counts a) (family_at counts a')
      (λ i h. ap₂ (λ (k : List ℕ) (r : List ℕ). groups_from counts (start_of ges' i) k 0 r) (same_kinds i h) (same_arities i h) ∙ ap (λ (g : ℕ). groups_from counts g (kinds_at a i) 0 (arities_at a i)) (start_groups i (omega arith)))

  pub agree_formed : WellFormed a'
  agree_formed =
      record {
        few = good.few;
        wide = omega (arith, start_kinds n (omega arith), good.wide);
        many = omega (arith, start_groups n (omega arith), good.many);
        kinds = rw (start_kinds n (omega arith), front_agree ks ks' (start_of kes n) (omega (arith, good.wide, sized.kinds)) (omega (arith, good.wide, sized'.kinds)) kinds) good.kinds;
        family = λ i h. formed i h;
      }
    where
      formed : (i : ℕ) → i < n → FamilyFormed a' i
      formed i h =
          let f = good.family i h in
          let s = start_kinds i (omega arith) in
          let e = sym (kind_ends i h) in
          let gs = start_groups i (omega arith) in
          let ge = sym (ends i h) in
          record {
            least = omega (arith, f.least);
            most = omega (arith, f.most);
            some = omega (arith, f.some);
            rising = rw (same_arities i h, s, e) f.rising;
          }

  pub agree_width : start_of kes' n ≡ start_of kes n
  agree_width = start_kinds n (omega arith)

  pub agree_groups : start_of ges' n ≡ start_of ges n
  agree_groups = start_groups n (omega arith)
