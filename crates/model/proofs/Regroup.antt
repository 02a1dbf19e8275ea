-- Applying a layout, and wiping, establish the invariant. Assumes nothing.
use mathlib.Core.Path.{◌≡◌, refl, ap, ap₂, sym, ◌∙◌}
use mathlib.Core.Logic.{◌⊎◌, inl, inr, ⊎_elim}
use mathlib.Core.Bool.{false, false≢true}
use mathlib.Core.List.{List, [], ◌∷◌, ◌++◌, map}
use Prim.Native.Nat.{ℕ, ◌≤◌}
use native.Mathlib.Omega.{arith}
use lib.ListN.{length, length-map, get_or-map}
use Rattle.model.specs.Model.{Entity, SparseSet, Group, Family, Storage, Walked, same_entity, mem, head_kind, kinds_of, new_group, group_family, group_all, regroup, set_layout, clear_all, zero_count}
use Rattle.model.proofs.Groups.{SameEntities}
use Rattle.model.proofs.Walk.{Below, Chain, Every, Plus, Up, group_family_good, chain_weaken}
use Rattle.model.proofs.KindLists.{in_right, mem_append, not_both}
use Rattle.model.proofs.BoolLaws.{bool_cases, or_false, or_false_right}
use Rattle.model.proofs.Families.{all_kinds, fam_kinds, chain_other, fams_other, Apart, Fams, FamsFor}
use Rattle.model.proofs.Invariant.{Fit, length_group_family}
use Rattle.model.specs.Sound.{key, cnt, In, Uncounted, AllUncounted}

-- ---- families that are right for the entities of W

fams_weaken : (key : ℕ → List Entity) (Z W : Entity → Type 0) → ((x : Entity) → Z x → W x) → (fs : List Family) → FamsFor key W fs → FamsFor key Z fs
fams_weaken key Z W f [] fm = tt
fams_weaken key Z W f (r ∷ rs) fm = (chain_weaken key Z W f [] r fm.0, fams_weaken key Z W f rs fm.1)

pub record UpEvery (W : Entity → Type 0) (e : Entity) (sets : List SparseSet) (fs : List Family) (p : Storage) : Type 0 where
  pub same : SameEntities (key sets) (key p.sets)
  pub fams : FamsFor (key p.sets) (Plus W e) p.layout
  pub other : (k : ℕ) → mem k (all_kinds (fam_kinds fs)) ≡ false → key p.sets k ≡ key sets k
  pub kinds : fam_kinds p.layout ≡ fam_kinds fs
  pub wide : length p.sets ≡ length sets

pub group_family_every_good : (W : Entity → Type 0) (e : Entity) (sets : List SparseSet) (fs : List Family) → Apart (fam_kinds fs) → FamsFor (key sets) W fs → UpEvery W e sets fs (group_all e sets fs)
unfolding group_all
group_family_every_good W e sets [] a fm = record { same = record { entities = λ x k. refl; lengths = λ k. refl }; fams = tt; other = λ k n. refl; kinds = refl; wide = refl }
group_family_every_good W e sets (f ∷ fs) a fm =
    let w : Walked = group_family e [] sets f in
    let K : List ℕ = all_kinds (fam_kinds fs) in
    let U : Up W e [] sets f (group_family e [] sets f) = group_family_good W e [] sets f (λ k i. absurd (false≢true i)) fm.0 in
    let R : UpEvery W e w.sets fs (group_all e w.sets fs) = group_family_every_good W e (group_family e [] sets f).sets fs a.1 (fams_other (key sets) (key w.sets) W fs (λ k i. U.other k (not_both (kinds_of f) K k (a.0 k) i)) fm.1) in
    record {
      same = record { entities = λ x k. R.same.entities x k ∙ U.same.entities x k; lengths = λ k. R.same.lengths k ∙ U.same.lengths k };
      fams = (chain_other (key w.sets) (key (group_all e w.sets fs).sets) (Plus W e) [] w.groups (λ k i. R.other k (a.0 k (rw U.kinds at i))) U.chain, R.fams);
      other = λ k n.
          let n' = sym (mem_append k (kinds_of f) K) ∙ n in
          R.other k (or_false_right (mem k (kinds_of f)) (mem k K) n') ∙ U.other k (or_false (mem k (kinds_of f)) (mem k K) n');
      kinds = ap₂ {C = List (List ℕ)} (λ x xs. x ∷ xs) U.kinds R.kinds;
      wide = R.wide ∙ length_group_family e [] sets f;
    }

-- ---- all live entities are walked

abbrev Or : (Entity → Type 0) → List Entity → Entity → Type 0
Or W es x = W x ⊎ (1 ≤ cnt x es)

record Regrouped (W : Entity → Type 0) (es : List Entity) (s p : Storage) : Type 0 where
  pub same : SameEntities (key s.sets) (key p.sets)
  pub fams : FamsFor (key p.sets) (Or W es) p.layout
  pub kinds : fam_kinds p.layout ≡ fam_kinds s.layout
  pub wide : length p.sets ≡ length s.sets

regroup_good : (W : Entity → Type 0) (es : List Entity) (s : Storage) → Apart (fam_kinds s.layout) → FamsFor (key s.sets) W s.layout → Regrouped W es s (regroup es s)
unfolding regroup
regroup_good W [] s a fm =
    record { same = record { entities = λ x k. refl; lengths = λ k. refl }; fams = fams_weaken (key s.sets) (Or W []) W (λ x. ⊎_elim (λ w. w) (λ h. absurd (omega arith))) s.layout fm; kinds = refl; wide = refl }
regroup_good W (e ∷ es) s a fm =
    let q : Storage = group_all e s.sets s.layout in
    let U : UpEvery W e s.sets s.layout (group_all e s.sets s.layout) = group_family_every_good W e s.sets s.layout a fm in
    let R : Regrouped (Plus W e) es q (regroup es q) = regroup_good (Plus W e) es (group_all e s.sets s.layout) (rw U.kinds a) U.fams in
    record {
      same = record { entities = λ x k. R.same.entities x k ∙ U.same.entities x k; lengths = λ k. R.same.lengths k ∙ U.same.lengths k };
      fams = fams_weaken (key (regroup es q).sets) (Or W (e ∷ es)) (Or (Plus W e) es) (λ x. ⊎_elim (λ w. inl (inl w)) (λ h. bool_cases (same_entity x e) (λ t. inl (inr t)) (λ t. inr (omega (arith, rw t at h))))) (regroup es q).layout R.fams;
      kinds = R.kinds ∙ U.kinds;
      wide = R.wide ∙ U.wide;
    }

-- ---- a draft's families, all counts 0

abbrev pub Fresh : Family → Type 0
Fresh [] = Unit {0}
Fresh (r ∷ rs) = In r.new_kinds (head_kind r.new_kinds) × (r.count ≡ 0) × Fresh rs

abbrev pub FreshAll : List Family → Type 0
FreshAll [] = Unit {0}
FreshAll (f ∷ fs) = Fresh f × FreshAll fs

abbrev pub None : Entity → Type 0
None x = ⊥

chain_fresh : (key : ℕ → List Entity) (acc : List ℕ) (rs : Family) → Fresh rs → Chain key None acc rs
chain_fresh key acc [] fr = tt
chain_fresh key acc (r ∷ rs) fr = (
  record { head = fr.0; even = rw fr.1 (record { fit = λ k i. omega arith; align = λ j k i i'. refl }); full = λ x w. absurd w },
  below rs fr.2,
  chain_fresh key (acc ++ r.new_kinds) rs fr.2,
)
  where
    below : (ss : Family) → Fresh ss → Below r.count ss
    below [] g = tt
    below (t ∷ ts) g = omega (arith, g.1)

pub fams_fresh : (key : ℕ → List Entity) (fs : List Family) → FreshAll fs → FamsFor key None fs
fams_fresh key [] fr = tt
fams_fresh key (f ∷ fs) fr = (chain_fresh key [] f fr.0, fams_fresh key fs fr.1)

-- where each entity of a sparse set is one of W, what is right for W is right
chain_all : (key : ℕ → List Entity) (W : Entity → Type 0) → ((x : Entity) (k : ℕ) → 1 ≤ cnt x (key k) → W x) → (acc : List ℕ) (rs : Family) → Chain key W acc rs → Chain key Every acc rs
chain_all key W f acc [] ch = tt
chain_all key W f acc (r ∷ rs) ch = (
  record { head = ch.0.head; even = ch.0.even; full = λ x w all k i. ch.0.full x (f x (head_kind r.new_kinds) (all (head_kind r.new_kinds) (in_right acc r.new_kinds (head_kind r.new_kinds) ch.0.head))) all k i },
  ch.1,
  chain_all key W f (acc ++ r.new_kinds) rs ch.2,
)

fams_all : (key : ℕ → List Entity) (W : Entity → Type 0) → ((x : Entity) (k : ℕ) → 1 ≤ cnt x (key k) → W x) → (fs : List Family) → FamsFor key W fs → Fams key fs
fams_all key W f [] fm = tt
fams_all key W f (r ∷ rs) fm = (chain_all key W f [] r fm.0, fams_all key W f rs fm.1)

-- a group that counts nothing is a new group of its ring
pub zeroed : (r : Group) → r.count ≡ 0 → new_group r.new_kinds ≡ r
zeroed r z = λ i. record { new_kinds = r.new_kinds; count = sym z i }

zeroed_family : (f : Family) → Uncounted f → map zero_count f ≡ f
zeroed_family [] z = refl
zeroed_family (r ∷ f) z = ap₂ {C = Family} (λ x xs. x ∷ xs) (zeroed r z.0) (zeroed_family f z.1)

pub zeroed_families : (fs : List Family) → AllUncounted fs → map (map zero_count) fs ≡ fs
zeroed_families [] z = refl
zeroed_families (f ∷ fs) z = ap₂ {C = List Family} (λ x xs. x ∷ xs) (zeroed_family f z.0) (zeroed_families fs z.1)

fresh_uncounted : (f : Family) → Fresh f → Uncounted f
fresh_uncounted [] fr = tt
fresh_uncounted (r ∷ rs) fr = (fr.1, fresh_uncounted rs fr.2)

all_uncounted : (fs : List Family) → FreshAll fs → AllUncounted fs
all_uncounted [] fr = tt
all_uncounted (f ∷ fs) fr = (fresh_uncounted f fr.0, all_uncounted fs fr.1)

-- a draft's counts are 0 as they stand
pub set_layout_is : (live : List Entity) (draft : List Family) (p : Storage) → FreshAll draft → set_layout live draft p ≡ regroup live (record { sets = p.sets; layout = draft })
unfolding set_layout
set_layout_is live draft p fr = ap (λ (l : List Family). regroup live (record { sets = p.sets; layout = l })) (zeroed_families draft (all_uncounted draft fr))

pub set_layout_fit : (live : List Entity) (draft : List Family) (p : Storage) → ((x : Entity) (k : ℕ) → 1 ≤ cnt x (key p.sets k) → 1 ≤ cnt x live) → FreshAll draft → Apart (fam_kinds draft) → Fit p → Fit (set_layout live draft p)
set_layout_fit live draft p alive fr a f =
    let s : Storage = record { sets = p.sets; layout = draft } in
    let R : Regrouped None live s (regroup live s) = regroup_good None live s a (fams_fresh (key p.sets) draft fr) in
    rw (set_layout_is live draft p fr)
    record {
      once = λ x k. rw (R.same.entities x k) (f.once x k);
      fams = fams_all (key (regroup live s).sets) (Or None live) (λ x k h. inr (alive x k (rw (R.same.entities x k) at h))) (regroup live s).layout R.fams;
      apart = rw R.kinds a;
      wide = R.wide ∙ f.wide;
    }

pub set_layout_entities : (live : List Entity) (draft : List Family) (p : Storage) → FreshAll draft → Apart (fam_kinds draft) → (x : Entity) (k : ℕ) → cnt x (key (set_layout live draft p).sets k) ≡ cnt x (key p.sets k)
set_layout_entities live draft p fr a x k = rw (set_layout_is live draft p fr) ((regroup_good None live (record { sets = p.sets; layout = draft }) a (fams_fresh (key p.sets) draft fr)).same.entities x k)

-- ---- a wiped store

pub zero_kinds : (f : Family) → kinds_of (map zero_count f) ≡ kinds_of f
zero_kinds [] = refl
zero_kinds (r ∷ rs) = ap (λ (l : List ℕ). r.new_kinds ++ l) (zero_kinds rs)

zero_fam_kinds : (fs : List Family) → fam_kinds (map (map zero_count) fs) ≡ fam_kinds fs
zero_fam_kinds [] = refl
zero_fam_kinds (f ∷ fs) = ap₂ {C = List (List ℕ)} (λ x xs. x ∷ xs) (zero_kinds f) (zero_fam_kinds fs)

zero_fresh : (key : ℕ → List Entity) (W : Entity → Type 0) (acc : List ℕ) (f : Family) → Chain key W acc f → Fresh (map zero_count f)
zero_fresh key W acc [] ch = tt
zero_fresh key W acc (r ∷ rs) ch = (ch.0.head, refl, zero_fresh key W (acc ++ r.new_kinds) rs ch.2)

zero_fresh_all : (key : ℕ → List Entity) (fs : List Family) → Fams key fs → FreshAll (map (map zero_count) fs)
zero_fresh_all key [] fm = tt
zero_fresh_all key (f ∷ fs) fm = (zero_fresh key Every [] f fm.0, zero_fresh_all key fs fm.1)

pub clear_all_entities : (p : Storage) (x : Entity) (k : ℕ) → cnt x (key (clear_all p).sets k) ≡ 0
unfolding clear_all
clear_all_entities p x k = rw (get_or-map {B = SparseSet} (λ c. []) p.sets k [])

pub clear_all_fit : (p : Storage) → Fit p → Fit (clear_all p)
unfolding clear_all
clear_all_fit p f =
    let no : (x : Entity) (k : ℕ) → cnt x (key (map (λ (c : SparseSet). []) p.sets) k) ≡ 0 = λ x k. rw (get_or-map {B = SparseSet} (λ c. []) p.sets k []) in
    record {
      once = λ x k. omega (arith, no x k);
      fams = fams_all (key (map (λ (c : SparseSet). []) p.sets)) None (λ x k h. omega (arith, no x k)) (map (map zero_count) p.layout) (fams_fresh (key (map (λ (c : SparseSet). []) p.sets)) (map (map zero_count) p.layout) (zero_fresh_all (key p.sets) p.layout f.fams));
      apart = rw (zero_fam_kinds p.layout) f.apart;
      wide = length-map p.sets (λ (c : SparseSet). []) ∙ f.wide;
    }
