-- Removal keeps the invariant: the entity leaves its groups, and then its rows go. Assumes nothing.
use mathlib.Core.Path.{◌≡◌, refl, ap, ap₂, sym, ◌∙◌, subst}
use mathlib.Core.Logic.{◌⊎◌, inl, inr, ⊎_elim}
use mathlib.Core.Bool.{Bool, true, false, cond, true≢false}
use mathlib.Core.List.{List, [], ◌∷◌, ◌++◌, append_assoc}
use Prim.Native.Nat.{ℕ, ◌+◌, ◌-◌, ◌≤◌, ◌<◌}
use native.Mathlib.Omega.{arith}
use native.Mathlib.Nat.{zero-add}
use lib.ListN.{length, take, get_or, set, length-set}
use lib.Seq.{length-take-le, take-take, take-set-le}
use Rattle.model.specs.Lists.{one, cut_at}
use Rattle.model.proofs.ListLaws.{count_cut, map_cut_at, count_place, place_le}
use Rattle.model.specs.Model.{Entity, SparseSet, Group, Family, Storage, Walked, GroupStep, same_entity, no_entity, no_row, mem, meets, set_of, keys, entity_of, at, held, kinds_of, on_kinds, swap_to, remove_row, is_grouped, ungroup_components, ungroup_family, ungroup, remove}
use Rattle.model.proofs.SparseSets.{entity_eq, entity_same, set_of_map_on}
use Rattle.model.proofs.BoolLaws.{cond_case, or_false, or_false_right, bool_cases}
use Rattle.model.proofs.Groups.{plc, Full, SameEntities}
use Rattle.model.proofs.Walk.{Chain, Every, But, GroupRight, full_lacks, either, held_count, lacks_count}
use Rattle.model.proofs.KindLists.{in_left, mem_append, not_both, any_in, any_at}
use Rattle.model.proofs.WalkDown.{Left, LeftChain, Down, ungroup_family_good, out_place}
use Rattle.model.proofs.Families.{Fams, Apart, all_kinds, fam_kinds, fams_other}
use Rattle.model.proofs.Invariant.{Fit, length_map_on}
use Rattle.model.specs.Sound.{key, cnt, In}

-- ---- a row goes, and the last takes its place

abbrev cut : Entity → List Entity → List Entity
cut e l = cut_at no_entity (plc e l) l

module _ (e : Entity) (l : List Entity) (has : 1 ≤ cnt e l) where
  abbrev q : ℕ
  q = length l - 1

  at_place : plc e l < length l
  at_place = count_place same_entity e l has

  cut_count : (x : Entity) → cnt x (cut e l) + one (same_entity x e) ≡ cnt x l
  cut_count x = count_cut same_entity entity_eq no_entity e l has x

  cut_first : (h : ℕ) → h ≤ plc e l → take h (cut e l) ≡ take h l
  cut_first h le =
      let p = at_place in
      take-take h q (set l (plc e l) (get_or l q no_entity)) (omega arith) ∙ take-set-le h l (plc e l) (get_or l q no_entity) le

  cut_length : length (cut e l) ≡ q
  cut_length = let p = at_place in length-take-le q (set l (plc e l) (get_or l q no_entity)) (rw (length-set l (plc e l) (get_or l q no_entity)) (omega arith))

keys_take : (e : Entity) (rows : SparseSet) → keys (remove_row e rows) ≡ cond (held e rows) (cut e (keys rows)) (keys rows)
keys_take e rows = go (held e rows)
  where
    go : (b : Bool) → keys (cond b (cut_at no_row (at e rows) rows) rows) ≡ cond b (cut e (keys rows)) (keys rows)
    go true = map_cut_at entity_of no_row (at e rows) rows
    go false = refl

-- what the removal of entity e's rows at the kinds of gone does
pub record Del (e : Entity) (gone : List ℕ) (key new : ℕ → List Entity) : Type 0 where
  pub counts : (x : Entity) → But e x → (k : ℕ) → cnt x (new k) ≡ cnt x (key k)
  pub lost : (k : ℕ) → In gone k → cnt e (key k) ≤ 1 → cnt e (new k) ≡ 0
  pub fewer : (x : Entity) (k : ℕ) → cnt x (new k) ≤ cnt x (key k)
  pub firsts : (h k : ℕ) → h ≤ plc e (key k) → take h (new k) ≡ take h (key k)
  pub fits : (h k : ℕ) → h ≤ plc e (key k) → h ≤ length (new k)
  pub other : (k : ℕ) → mem k gone ≡ false → new k ≡ key k

abbrev Which : Entity → List ℕ → ℕ → List Entity → List Entity → Type 0
Which e gone k l m = ((m ≡ l) × (In gone k → cnt e l ≡ 0)) ⊎ ((1 ≤ cnt e l) × (m ≡ cut e l))

del_of : (e : Entity) (gone : List ℕ) (key new : ℕ → List Entity) → ((k : ℕ) → Which e gone k (key k) (new k)) → ((k : ℕ) → mem k gone ≡ false → new k ≡ key k) → Del e gone key new
del_of e gone key new w o =
    record {
      counts = λ x ne k. ⊎_elim (λ p. ap (cnt x) p.0) (λ p. ap (cnt x) p.1 ∙ step x ne k p.0) (w k);
      lost = λ k i once. ⊎_elim (λ p. ap (cnt e) p.0 ∙ p.1 i) (λ p. ap (cnt e) p.1 ∙ gone_one k p.0 once) (w k);
      fewer = λ x k. ⊎_elim (λ p. rw p.0 (omega arith)) (λ p. rw p.1 (omega (arith, cut_count e (key k) p.0 x))) (w k);
      firsts = λ h k le. ⊎_elim (λ p. rw p.0) (λ p. rw p.1 (cut_first e (key k) p.0 h le)) (w k);
      fits = λ h k le. ⊎_elim (λ p. rw p.0 (omega (arith, place_le same_entity e (key k)))) (λ p. rw (p.1, cut_length e (key k) p.0) (omega (arith, count_place same_entity e (key k) p.0))) (w k);
      other = o;
    }
  where
    step : (x : Entity) → But e x → (k : ℕ) → 1 ≤ cnt e (key k) → cnt x (cut e (key k)) ≡ cnt x (key k)
    step x ne k h = let c = rw ne at (cut_count e (key k) h x) in omega arith

    gone_one : (k : ℕ) → 1 ≤ cnt e (key k) → cnt e (key k) ≤ 1 → cnt e (cut e (key k)) ≡ 0
    gone_one k h once = let c = rw (entity_same e) at (cut_count e (key k) h e) in omega arith

pub removed : (e : Entity) (gone : List ℕ) (sets : List SparseSet) → Del e gone (key sets) (key (on_kinds gone (remove_row e) sets))
removed e gone sets = del_of e gone (key sets) new (λ k. bool_cases (mem k gone) (taken k) (λ t. inl (kept k t, λ i. absurd (true≢false (sym i ∙ t))))) kept
  where
    new : ℕ → List Entity
    new = key (on_kinds gone (remove_row e) sets)

    kept : (k : ℕ) → mem k gone ≡ false → new k ≡ key sets k
    kept k t = ap keys (set_of_map_on gone (remove_row e) refl 0 sets k) ∙ rw (zero-add k, t)

    there : (k : ℕ) → mem k gone ≡ true → new k ≡ cond (held e (set_of sets k)) (cut e (key sets k)) (key sets k)
    there k t = ap keys (set_of_map_on gone (remove_row e) refl 0 sets k) ∙ rw (zero-add k, t) (keys_take e (set_of sets k))

    taken : (k : ℕ) → mem k gone ≡ true → Which e gone k (key sets k) (new k)
    taken k t =
        bool_cases (held e (set_of sets k))
        (λ u. inr (held_count e sets k u, there k t ∙ rw u))
        (λ u. inl (there k t ∙ rw u, λ i. lacks_count e sets k u))

-- ---- the groups after it

group_del : (e : Entity) (gone : List ℕ) (key new : ℕ → List Entity) → Del e gone key new → ((k : ℕ) → cnt e (key k) ≤ 1) → (g : List ℕ) (r : Group) → Left e gone key g r → GroupRight new Every g r
group_del e gone key new d once g r l = bool_cases (meets gone g) met unmet
  where
    met : meets gone g ≡ true → GroupRight new Every g r
    met m =
        let c = any_at (λ k. mem k g) gone m in
        let o : (k : ℕ) → In g k → r.count ≤ plc e (key k) = λ k i. out_place e gone key k r.count (l.even.fit k i) (l.out m k i) in
        let t : (k : ℕ) → In g k → take r.count (new k) ≡ take r.count (key k) = λ k i. d.firsts r.count k (o k i) in
        record {
          head = l.head;
          even = record { fit = λ k i. d.fits r.count k (o k i); align = λ j k i i'. t j i ∙ l.even.align j k i i' ∙ sym (t k i') };
          full = λ x w. full_lacks new (But e) e c.0 (d.lost c.0 c.1 (once c.0)) g r.count c.2 (λ y ne all k i. rw (t k i) (l.others y ne (λ k' i'. rw (d.counts y ne k') at (all k' i')) k i)) x (either e x);
        }

    unmet : meets gone g ≡ false → GroupRight new Every g r
    unmet m =
        let s : (k : ℕ) → In g k → new k ≡ key k = λ k i. d.other k (bool_cases (mem k gone) (λ t. absurd (true≢false (sym (any_in (λ j. mem j g) gone k t i) ∙ m))) (λ t. t)) in
        let f : (x : Entity) → Full key g r.count x = λ x. bool_cases (same_entity x e) (λ t. subst (λ (y : Entity). Full key g r.count y) (sym (entity_eq x e t)) (l.stay m)) (λ t. l.others x t) in
        record {
          head = l.head;
          even = record { fit = λ k i. rw (s k i) (l.even.fit k i); align = λ j k i i'. rw (s j i, s k i') (l.even.align j k i i') };
          full = λ x w all k i. rw (s k i) (f x (λ k' i'. rw (s k' i') at (all k' i')) k i);
        }

chain_del : (e : Entity) (gone : List ℕ) (key new : ℕ → List Entity) → Del e gone key new → ((k : ℕ) → cnt e (key k) ≤ 1) → (acc : List ℕ) (rs : Family) → LeftChain e gone key acc rs → Chain new Every acc rs
chain_del e gone key new d once acc [] ch = tt
chain_del e gone key new d once acc (r ∷ rs) ch = (group_del e gone key new d once (acc ++ r.new_kinds) r ch.0, ch.1, chain_del e gone key new d once (acc ++ r.new_kinds) rs ch.2)

-- ---- all families are walked

left_other : (e : Entity) (gone : List ℕ) (key new : ℕ → List Entity) (acc : List ℕ) (rs : Family) → ((k : ℕ) → In (acc ++ kinds_of rs) k → new k ≡ key k) → LeftChain e gone key acc rs → LeftChain e gone new acc rs
left_other e gone key new acc [] s ch = tt
left_other e gone key new acc (r ∷ rs) s ch =
    let s₁ : (k : ℕ) → In ((acc ++ r.new_kinds) ++ kinds_of rs) k → new k ≡ key k = λ k i. s k (rw append_assoc at i) in
    let s₂ : (k : ℕ) → In (acc ++ r.new_kinds) k → new k ≡ key k = λ k i. s₁ k (in_left (acc ++ r.new_kinds) (kinds_of rs) k i) in
    let f : (x : Entity) → Full key (acc ++ r.new_kinds) r.count x → Full new (acc ++ r.new_kinds) r.count x = λ x f all k i. rw (s₂ k i) (f (λ k' i'. rw (s₂ k' i') at (all k' i')) k i) in (
      record {
        head = ch.0.head;
        even = record { fit = λ k i. rw (s₂ k i) (ch.0.even.fit k i); align = λ j k i i'. rw (s₂ j i, s₂ k i') (ch.0.even.align j k i i') };
        others = λ x w. f x (ch.0.others x w);
        out = λ u k i. rw (s₂ k i) (ch.0.out u k i);
        stay = λ u. f e (ch.0.stay u);
      },
      ch.1,
      left_other e gone key new (acc ++ r.new_kinds) rs s₁ ch.2,
    )

module _ (e : Entity) (gone : List ℕ) where
  abbrev LeftFams : (ℕ → List Entity) → List Family → Type 0
  LeftFams key [] = Unit {0}
  LeftFams key (f ∷ fs) = LeftChain e gone key [] f × LeftFams key fs

  record DownAll (sets : List SparseSet) (fs : List Family) (p : Storage) : Type 0 where
    pub same : SameEntities (key sets) (key p.sets)
    pub fams : LeftFams (key p.sets) p.layout
    pub other : (k : ℕ) → mem k (all_kinds (fam_kinds fs)) ≡ false → key p.sets k ≡ key sets k
    pub kinds : fam_kinds p.layout ≡ fam_kinds fs

  ungroup_family_all_good : (sets : List SparseSet) (fs : List Family) → ((k : ℕ) → cnt e (key sets k) ≤ 1) → Apart (fam_kinds fs) → Fams (key sets) fs → DownAll sets fs (ungroup e gone sets fs)
  unfolding ungroup
  ungroup_family_all_good sets [] once a fm = record { same = record { entities = λ x k. refl; lengths = λ k. refl }; fams = tt; other = λ k n. refl; kinds = refl }
  ungroup_family_all_good sets (f ∷ fs) once a fm =
      let w : Walked = ungroup_family e gone [] sets f in
      let K : List ℕ = all_kinds (fam_kinds fs) in
      let D : Down e gone [] sets f (ungroup_family e gone [] sets f) = ungroup_family_good e gone [] sets f once fm.0 in
      let R : DownAll w.sets fs (ungroup e gone w.sets fs) = ungroup_family_all_good (ungroup_family e gone [] sets f).sets fs (λ k. rw (D.same.entities e k) (once k)) a.1 (fams_other (key sets) (key w.sets) Every fs (λ k i. D.other k (not_both (kinds_of f) K k (a.0 k) i)) fm.1) in
      record {
        same = record { entities = λ x k. R.same.entities x k ∙ D.same.entities x k; lengths = λ k. R.same.lengths k ∙ D.same.lengths k };
        fams = (left_other e gone (key w.sets) (key (ungroup e gone w.sets fs).sets) [] w.groups (λ k i. R.other k (a.0 k (rw D.kinds at i))) D.chain, R.fams);
        other = λ k n.
            let n' = sym (mem_append k (kinds_of f) K) ∙ n in
            R.other k (or_false_right (mem k (kinds_of f)) (mem k K) n') ∙ D.other k (or_false (mem k (kinds_of f)) (mem k K) n');
        kinds = ap₂ {C = List (List ℕ)} (λ x xs. x ∷ xs) D.kinds R.kinds;
      }

  fams_del : (key new : ℕ → List Entity) → Del e gone key new → ((k : ℕ) → cnt e (key k) ≤ 1) → (fs : List Family) → LeftFams key fs → Fams new fs
  fams_del key new d once [] l = tt
  fams_del key new d once (f ∷ fs) l = (chain_del e gone key new d once [] f l.0, fams_del key new d once fs l.1)

  -- ---- the number of sparse sets stays

  length_ungroup_components : (ks : List ℕ) (r : Group) (sets : List SparseSet) → length (ungroup_components e ks r sets).sets ≡ length sets
  unfolding ungroup_components
  length_ungroup_components ks r sets = cond_case (λ (s : GroupStep). length s.sets ≡ length sets) (is_grouped e r sets) _ _ (λ t. length_map_on ks (swap_to e (r.count - 1)) 0 sets) (λ t. refl)

  pub length_ungroup_family : (acc : List ℕ) (sets : List SparseSet) (rs : Family) → length (ungroup_family e gone acc sets rs).sets ≡ length sets
  unfolding ungroup_family
  length_ungroup_family acc sets [] = refl
  length_ungroup_family acc sets (r ∷ rs) =
      cond_case (λ (s : Walked). length s.sets ≡ length sets) (meets gone (acc ++ r.new_kinds)) _ _
      (λ t. length_ungroup_components (acc ++ r.new_kinds) r (ungroup_family e gone (acc ++ r.new_kinds) sets rs).sets ∙ length_ungroup_family (acc ++ r.new_kinds) sets rs)
      (λ t. length_ungroup_family (acc ++ r.new_kinds) sets rs)

  pub length_ungroup_family_all : (sets : List SparseSet) (fs : List Family) → length (ungroup e gone sets fs).sets ≡ length sets
  unfolding ungroup
  length_ungroup_family_all sets [] = refl
  length_ungroup_family_all sets (f ∷ fs) = length_ungroup_family_all (ungroup_family e gone [] sets f).sets fs ∙ length_ungroup_family [] sets f

  pub remove_fit : (p : Storage) → Fit p → Fit (remove e gone p)
  unfolding remove
  remove_fit p f =
      let w : Storage = ungroup e gone p.sets p.layout in
      let D : DownAll p.sets p.layout (ungroup e gone p.sets p.layout) = ungroup_family_all_good p.sets p.layout (f.once e) f.apart f.fams in
      let d : Del e gone (key w.sets) (key (on_kinds gone (remove_row e) w.sets)) = removed e gone w.sets in
      record {
        once = λ x k. omega (arith, d.fewer x k, D.same.entities x k, f.once x k);
        fams = fams_del (key w.sets) (key (on_kinds gone (remove_row e) w.sets)) d (λ k. rw (D.same.entities e k) (f.once e k)) w.layout D.fams;
        apart = rw D.kinds f.apart;
        wide = length_map_on gone (remove_row e) 0 w.sets ∙ length_ungroup_family_all p.sets p.layout ∙ f.wide;
      }

  -- what removal does to the entities of each sparse set
  module _ (p : Storage) (f : Fit p) where
    walked : DownAll p.sets p.layout (ungroup e gone p.sets p.layout)
    walked = ungroup_family_all_good p.sets p.layout (f.once e) f.apart f.fams

    pub remove_fewer : (x : Entity) (k : ℕ) → cnt x (key (remove e gone p).sets k) ≤ cnt x (key p.sets k)
    unfolding remove
    remove_fewer x k = omega (arith, (removed e gone (ungroup e gone p.sets p.layout).sets).fewer x k, walked.same.entities x k)

    pub remove_lost : (k : ℕ) → In gone k → cnt e (key (remove e gone p).sets k) ≡ 0
    unfolding remove
    remove_lost k i = (removed e gone (ungroup e gone p.sets p.layout).sets).lost k i (rw (walked.same.entities e k) (f.once e k))
