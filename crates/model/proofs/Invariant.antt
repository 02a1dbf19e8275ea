-- The invariant of the components, and that insertion keeps it; a group's count is the number of live entities that hold all its kinds. Assumes nothing.
use mathlib.Core.Path.{◌≡◌, refl, ap, sym, ◌∙◌}
use mathlib.Core.Bool.{false, cond, true≢false}
use mathlib.Core.List.{List, [], ◌∷◌, ◌++◌, map}
use Prim.Native.Nat.{ℕ, suc, ◌≤◌}
use native.Mathlib.Omega.{arith}
use lib.ListN.{length, take, set, length-set}
use lib.Seq.{length-take-le}
use Rattle.model.specs.Numbers.{MAX_KINDS}
use Rattle.model.proofs.ListLaws.{count_take_le, count_kept, count_length}
use Rattle.model.specs.Model.{Entity, SparseSet, Group, Family, Component, Storage, Walked, GroupStep, same_entity, mem, meets, set_of, held, all_held, kinds_of, kind_of, insert_row, insert_all, map_on, swap_to, is_grouped, group_components, group_family, group_touched, insert_components}
use Rattle.model.specs.Sound.{holders, key, cnt, In}
use Rattle.model.proofs.SparseSets.{entity_eq, entity_same}
use Rattle.model.proofs.BoolLaws.{cond_case, bool_cases}
use Rattle.model.proofs.Groups.{SameEntities}
use Rattle.model.proofs.Walk.{Every, But, GroupRight, held_count, lacks_count}
use Rattle.model.proofs.KindLists.{Missing, all_missing, all_in, any_in}
use Rattle.model.proofs.Families.{Fams, Apart, fam_kinds, chain_other, Put, Kinds, put_all, chain_put, Pending, UpAll, group_family_all_good}

pub record Fit (p : Storage) : Type 0 where
  pub once : (x : Entity) (k : ℕ) → cnt x (key p.sets k) ≤ 1
  pub fams : Fams (key p.sets) p.layout
  pub apart : Apart (fam_kinds p.layout)
  pub wide : length p.sets ≡ MAX_KINDS

-- ---- the number of sparse sets stays

pub length_map_on : (ks : List ℕ) (f : SparseSet → SparseSet) (i : ℕ) (sets : List SparseSet) → length (map_on ks f i sets) ≡ length sets
length_map_on ks f i [] = refl
length_map_on ks f i (c ∷ cs) = ap suc (length_map_on ks f (suc i) cs)

length_group_components : (e : Entity) (ks : List ℕ) (r : Group) (sets : List SparseSet) → length (group_components e ks r sets).sets ≡ length sets
unfolding group_components
length_group_components e ks r sets = cond_case (λ (s : GroupStep). length s.sets ≡ length sets) (is_grouped e r sets) _ _ (λ t. refl) (λ t. length_map_on ks (swap_to e r.count) 0 sets)

pub length_group_family : (e : Entity) (acc : List ℕ) (sets : List SparseSet) (rs : Family) → length (group_family e acc sets rs).sets ≡ length sets
unfolding group_family
length_group_family e acc sets [] = refl
length_group_family e acc sets (r ∷ rs) =
    cond_case (λ (s : Walked). length s.sets ≡ length sets) (all_held e r.new_kinds sets) _ _
    (λ t. length_group_family e (acc ++ r.new_kinds) (group_components e (acc ++ r.new_kinds) r sets).sets rs ∙ length_group_components e (acc ++ r.new_kinds) r sets)
    (λ t. refl)

length_group_family_all : (e : Entity) (ks : List ℕ) (sets : List SparseSet) (fs : List Family) → length (group_touched e ks sets fs).sets ≡ length sets
unfolding group_touched
length_group_family_all e ks sets [] = refl
length_group_family_all e ks sets (f ∷ fs) =
    cond_case (λ (s : Storage). length s.sets ≡ length sets) (meets ks (kinds_of f)) _ _
    (λ t. length_group_family_all e ks (group_family e [] sets f).sets fs ∙ length_group_family e [] sets f)
    (λ t. length_group_family_all e ks sets fs)

pub length_put : (e : Entity) (staged : List Component) (sets : List SparseSet) → length (insert_all e staged sets) ≡ length sets
length_put e [] sets = refl
length_put e (p ∷ ps) sets = length_put e ps (set sets p.kind (insert_row e p.value (set_of sets p.kind))) ∙ length-set sets p.kind (insert_row e p.value (set_of sets p.kind))

-- ---- insertion

pending : (e : Entity) (ks : List ℕ) (key new : ℕ → List Entity) → Put e ks key new → (fs : List Family) → Fams key fs → Pending e ks new fs
pending e ks key new p [] fm = tt
pending e ks key new p (f ∷ fs) fm = (
  (λ m. chain_put e ks key new p [] f fm.0),
  (λ m. chain_other key new Every [] f (λ k i. p.other k (bool_cases (mem k ks) (λ t. absurd (true≢false (sym (any_in (λ j. mem j (kinds_of f)) ks k t i) ∙ m))) (λ t. t))) fm.0),
  pending e ks key new p fs fm.1,
)

pub insert_fit : (e : Entity) (staged : List Component) (p : Storage) → Kinds (length p.sets) staged → Fit p → Fit (insert_components e staged p)
unfolding insert_components
insert_fit e staged p lt f =
    let P : Put e (map kind_of staged) (key p.sets) (key (insert_all e staged p.sets)) = put_all e staged p.sets lt in
    let U : UpAll (insert_all e staged p.sets) p.layout (group_touched e (map kind_of staged) (insert_all e staged p.sets) p.layout) = group_family_all_good e (map kind_of staged) (insert_all e staged p.sets) p.layout f.apart (pending e (map kind_of staged) (key p.sets) (key (insert_all e staged p.sets)) P p.layout f.fams) in
    record {
      once = λ x k. rw (U.same.entities x k) (bool_cases (same_entity x e) (λ t. rw (entity_eq x e t) (P.once k (f.once e k))) (λ t. rw (P.counts x t k) (f.once x k)));
      fams = U.fams;
      apart = rw U.kinds f.apart;
      wide = length_group_family_all e (map kind_of staged) (insert_all e staged p.sets) p.layout ∙ length_put e staged p.sets ∙ f.wide;
    }

-- what insertion does to the other entities, and to the kinds that are not staged
module _ (e : Entity) (staged : List Component) (p : Storage) (lt : Kinds (length p.sets) staged) (f : Fit p) where
  inserted : SameEntities (key (insert_all e staged p.sets)) (key (insert_components e staged p).sets)
  unfolding insert_components
  inserted =
      (group_family_all_good e (map kind_of staged) (insert_all e staged p.sets) p.layout f.apart (pending e (map kind_of staged) (key p.sets) (key (insert_all e staged p.sets)) (put_all e staged p.sets lt) p.layout f.fams)).same

  pub insert_walked : (x : Entity) (k : ℕ) → cnt x (key (insert_components e staged p).sets k) ≡ cnt x (key (insert_all e staged p.sets) k)
  insert_walked x k = inserted.entities x k

  pub insert_others : (x : Entity) → But e x → (k : ℕ) → cnt x (key (insert_components e staged p).sets k) ≡ cnt x (key p.sets k)
  insert_others x ne k = insert_walked x k ∙ (put_all e staged p.sets lt).counts x ne k

  pub insert_kinds : (x : Entity) (k : ℕ) → mem k (map kind_of staged) ≡ false → cnt x (key (insert_components e staged p).sets k) ≡ cnt x (key p.sets k)
  insert_kinds x k n = insert_walked x k ∙ ap (cnt x) ((put_all e staged p.sets lt).other k n)

-- ---- what a right group's count is

pub holders_count : (g : List ℕ) (sets : List SparseSet) (live : List Entity) (x : Entity) → cnt x (holders g sets live) ≡ cond (all_held x g sets) (cnt x live) 0
holders_count g sets = count_kept same_entity entity_eq (λ e. all_held e g sets) (holders g sets) refl (λ e l. refl)

pub count_is : (sets : List SparseSet) (live : List Entity) (g : List ℕ) (r : Group) (k : ℕ) → In g k
    → ((x : Entity) (k : ℕ) → cnt x (key sets k) ≤ 1)
    → ((x : Entity) → cnt x live ≤ 1)
    → ((x : Entity) (k : ℕ) → 1 ≤ cnt x (key sets k) → 1 ≤ cnt x live)
    → GroupRight (key sets) Every g r → (x : Entity) → cnt x (take r.count (key sets k)) ≡ cnt x (holders g sets live)
count_is sets live g r k i once lonce alive G x =
    bool_cases (all_held x g sets)
    (λ t.
    let a : 1 ≤ cnt x (take r.count (key sets k)) = G.full x tt (λ j u. held_count x sets j (all_in (λ y. held x (set_of sets y)) g t j u)) k i in
    let b : cnt x (holders g sets live) ≡ cnt x live = holders_count g sets live x ∙ rw t in
    omega (arith, count_take_le same_entity x r.count (key sets k), once x k, lonce x, alive x k (omega (arith, count_take_le same_entity x r.count (key sets k)))))
    (λ t.
    let m : Missing (λ y. held x (set_of sets y)) g = all_missing (λ y. held x (set_of sets y)) g t in
    let z = lacks_count x sets m.kind m.fails in
    let e = ap (cnt x) (G.even.align k m.kind i m.is_in) in
    let b : cnt x (holders g sets live) ≡ 0 = holders_count g sets live x ∙ rw t in
    omega (arith, count_take_le same_entity x r.count (key sets m.kind)))

-- a group's count is the number of live entities that hold all its kinds
pub count_number : (sets : List SparseSet) (live : List Entity) (g : List ℕ) (r : Group) (k : ℕ) → In g k
    → ((x : Entity) (k : ℕ) → cnt x (key sets k) ≤ 1)
    → ((x : Entity) → cnt x live ≤ 1)
    → ((x : Entity) (k : ℕ) → 1 ≤ cnt x (key sets k) → 1 ≤ cnt x live)
    → GroupRight (key sets) Every g r → r.count ≡ length (holders g sets live)
count_number sets live g r k i once lonce alive G =
    sym (length-take-le r.count (key sets k) (G.even.fit k i))
    ∙ count_length same_entity entity_eq entity_same (take r.count (key sets k)) (holders g sets live) (count_is sets live g r k i once lonce alive G)
