-- What the operations keep, as entities, kinds and components together; it is equivalent to the soundness of those. Assumes nothing.
use mathlib.Core.Path.{◌≡◌, refl, ap, sym, ◌∙◌, subst}
use mathlib.Core.Bool.{true, false, true≢false, or-true}
use mathlib.Core.List.{List, [], ◌∷◌, ◌++◌, map}
use Prim.Native.Nat.{ℕ, ◌≤◌, ◌<◌}
use native.Mathlib.Omega.{arith}
use borrow.Author.Tests.{eq-eqb}
use lib.Dec.{eqb}
use lib.ListN.{length, take}
use Rattle.model.specs.Numbers.{MAX_KINDS}
use Rattle.model.specs.Lists.{one}
use Rattle.model.proofs.ListLaws.{count_take_le}
use Rattle.model.specs.Model.{Entity, Entities, SparseSet, Group, Family, Component, Storage, same_entity, mem, set_of, held, all_held, kind_of, kinds_of, head_kind, insert_components, remove, clear_all, set_layout, destroy}
use Rattle.model.specs.Sound.{Distinct, layout_kinds, Rising, BuildableFamilies, Uncounted, AllUncounted, Right, RightFrom, AllRight, key, cnt, In, holders}
use Rattle.model.proofs.SparseSets.{entity_eq}
use Rattle.model.proofs.BoolLaws.{cond_case, and_left, not_true, bool_cases}
use Rattle.model.proofs.Walk.{Chain, Every, Below, GroupRight, count_held}
use Rattle.model.proofs.KindLists.{in_right, all_true, head_in, distinct_right, distinct_apart, all_joined}
use Rattle.model.proofs.Families.{Fams, Kinds, Apart, all_kinds, fam_kinds}
use Rattle.model.proofs.Invariant.{Fit, holders_count, count_is, count_number, insert_fit, insert_others, insert_kinds}
use Rattle.model.proofs.Removal.{remove_fit, remove_fewer, remove_lost}
use Rattle.model.proofs.Regroup.{Fresh, FreshAll, set_layout_fit, set_layout_entities, clear_all_fit, clear_all_entities}
use Rattle.model.proofs.Numbers.{EntitiesOk, destroy_ok, cnt_cut, live_once}

-- entities, kinds and components together
pub record Held (entities : Entities) (kinds : List ℕ) (storage : Storage) : Type 0 where
  pub numbers : EntitiesOk entities
  pub fit : Fit storage
  pub alive : (x : Entity) (k : ℕ) → 1 ≤ cnt x (key storage.sets k) → 1 ≤ cnt x entities.live
  pub bare : (k : ℕ) → mem k kinds ≡ false → (x : Entity) → cnt x (key storage.sets k) ≡ 0
  pub small : (k : ℕ) → In kinds k → k < MAX_KINDS

-- ---- the operations

pub kinds_of_law : (staged : List Component) (n : ℕ) → ((k : ℕ) → In (map kind_of staged) k → k < n) → Kinds n staged
kinds_of_law [] n h = tt
kinds_of_law (p ∷ ps) n h = (h p.kind (rw (eq-eqb p.kind p.kind refl)), kinds_of_law ps n (λ k i. h k (rw i (or-true (eqb k p.kind)))))

module _ (entities : Entities) (kinds : List ℕ) (storage : Storage) (H : Held entities kinds storage) where
  pub staged_kinds_law : (staged : List Component) → ((k : ℕ) → In (map kind_of staged) k → In kinds k) → Kinds (length storage.sets) staged
  staged_kinds_law staged h = kinds_of_law staged (length storage.sets) (λ k i. omega (arith, H.small k (h k i), H.fit.wide))

  -- insertion into an entity that is live in entities', where those live before still are
  pub insert_held : (entities' : Entities) → EntitiesOk entities' → ((x : Entity) → 1 ≤ cnt x entities.live → 1 ≤ cnt x entities'.live) → (e : Entity) (staged : List Component) → ((k : ℕ) → In (map kind_of staged) k → In kinds k) → 1 ≤ cnt e entities'.live → Held entities' kinds (insert_components e staged storage)
  insert_held entities' ok' more' e staged h live =
      let lt = staged_kinds_law staged h in
      record {
        numbers = ok';
        fit = insert_fit e staged storage lt H.fit;
        alive = λ x k i. bool_cases (same_entity x e)
            (λ t. subst (λ (y : Entity). 1 ≤ cnt y entities'.live) (sym (entity_eq x e t)) live)
            (λ t. more' x (H.alive x k (rw (insert_others e staged storage lt H.fit x t k) at i)));
        bare = λ k n x. insert_kinds e staged storage lt H.fit x k (not_true (mem k (map kind_of staged)) (λ t. true≢false (sym (h k t) ∙ n))) ∙ H.bare k n x;
        small = H.small;
      }

  pub remove_held : (e : Entity) (gone : List ℕ) → Held entities kinds (remove e gone storage)
  remove_held e gone =
      record {
        numbers = H.numbers;
        fit = remove_fit e gone storage H.fit;
        alive = λ x k i. H.alive x k (omega (arith, remove_fewer e gone storage H.fit x k));
        bare = λ k n x. omega (arith, remove_fewer e gone storage H.fit x k, H.bare k n x);
        small = H.small;
      }

  -- an entity that holds nothing is destroyed
  pub destroy_held : (e : Entity) → 1 ≤ cnt e entities.live → ((k : ℕ) → cnt e (key storage.sets k) ≡ 0) → Held (destroy e entities) kinds storage
  destroy_held e live none =
      record {
        numbers = destroy_ok e entities live H.numbers;
        fit = H.fit;
        alive = λ x k i. bool_cases (same_entity x e)
            (λ t. absurd (omega (arith, none k, subst (λ (y : Entity). 1 ≤ cnt y (key storage.sets k)) (entity_eq x e t) i)))
            (λ t. omega (arith, cnt_cut e entities live x, ap one t, H.alive x k i));
        bare = H.bare;
        small = H.small;
      }

  -- which it is after the removal of all kinds
  pub removed_none : (e : Entity) (k : ℕ) → cnt e (key (remove e kinds storage).sets k) ≡ 0
  removed_none e k = bool_cases (mem k kinds) (λ t. remove_lost e kinds storage H.fit k t) (λ t. (remove_held e kinds).bare k t e)

  pub clear_all_held : Held entities kinds (clear_all storage)
  clear_all_held =
      record {
        numbers = H.numbers;
        fit = clear_all_fit storage H.fit;
        alive = λ x k i. absurd (omega (arith, clear_all_entities storage x k));
        bare = λ k n x. clear_all_entities storage x k;
        small = H.small;
      }

  pub apply_held : (draft : List Family) → FreshAll draft → Apart (fam_kinds draft) → Held entities kinds (set_layout entities.live draft storage)
  apply_held draft fr a =
      record {
        numbers = H.numbers;
        fit = set_layout_fit entities.live draft storage H.alive fr a H.fit;
        alive = λ x k i. H.alive x k (rw (set_layout_entities entities.live draft storage fr a x k) at i);
        bare = λ k n x. set_layout_entities entities.live draft storage fr a x k ∙ H.bare k n x;
        small = H.small;
      }

-- ---- a store so held has its groups as demand 3 says

module _ (entities : Entities) (kinds : List ℕ) (storage : Storage) (H : Held entities kinds storage) where
  abbrev C : List SparseSet
  C = storage.sets

  abbrev L : List Entity
  L = entities.live

  right : (g : List ℕ) (r : Group) (k : ℕ) → In g k → GroupRight (key C) Every g r → Right C L g r.count
  right g r k i G =
      let e : (k : ℕ) → In g k → (x : Entity) → cnt x (take r.count (key C k)) ≡ cnt x (holders g C L) = λ k i. count_is C L g r k i H.fit.once (live_once entities H.numbers.single) H.alive G in
      record {
        number = count_number C L g r k i H.fit.once (live_once entities H.numbers.single) H.alive G;
        places = G.even.fit;
        aligned = G.even.align;
        exact = e;
        once = λ k i x. omega (arith, H.fit.once x k, count_take_le same_entity x r.count (key C k));
      }

  right_from : (acc : List ℕ) (rs : Family) → Chain (key C) Every acc rs → RightFrom C L acc rs
  right_from acc [] ch = tt
  right_from acc (r ∷ rs) ch = (right (acc ++ r.new_kinds) r (head_kind r.new_kinds) (in_right acc r.new_kinds (head_kind r.new_kinds) ch.0.head) ch.0, right_from (acc ++ r.new_kinds) rs ch.2)

  all_right : (fs : List Family) → Fams (key C) fs → AllRight C L fs
  all_right [] fm = tt
  all_right (f ∷ fs) fm = (right_from [] f fm.0, all_right fs fm.1)

  pub held_right : AllRight C L storage.layout
  held_right = all_right storage.layout H.fit.fams

-- ---- and groups as demand 3 says are held so

-- a larger group has no more entities
pub holders_fewer : (g h : List ℕ) (sets : List SparseSet) (l : List Entity) → length (holders (g ++ h) sets l) ≤ length (holders g sets l)
holders_fewer g h sets [] = omega arith
holders_fewer g h sets (e ∷ l) =
    let r = holders_fewer g h sets l in
    bool_cases (all_held e (g ++ h) sets)
    (λ t. rw (t, and_left (all_held e g sets) (all_held e h sets) (sym (all_joined (λ k. held e (set_of sets k)) g h) ∙ t)) (omega arith))
    (λ t. rw t (cond_case (λ (m : List Entity). length (holders (g ++ h) sets l) ≤ length m) (all_held e g sets) _ _ (λ u. omega arith) (λ u. r)))

module _ (sets : List SparseSet) (live : List Entity) (alive : (x : Entity) (k : ℕ) → 1 ≤ cnt x (key sets k) → 1 ≤ cnt x live) where
  right_group : (g : List ℕ) (r : Group) (hd : ℕ) → In g hd → In r.new_kinds (head_kind r.new_kinds) → Right sets live g r.count → GroupRight (key sets) Every g r
  right_group g r hd i h R =
      record {
        head = h;
        even = record { fit = R.places; align = R.aligned };
        full = λ x w all_of k j.
            let a : all_held x g sets ≡ true = all_true (λ y. held x (set_of sets y)) g (λ y u. count_held x sets y (all_of y u)) in
            omega (arith, R.exact k j x, rw a at (holders_count g sets live x), alive x hd (all_of hd i));
      }

  right_chain : (acc : List ℕ) (rs : Family) → Rising rs → RightFrom sets live acc rs → Chain (key sets) Every acc rs
  right_chain acc [] up R = tt
  right_chain acc (r ∷ rs) up R = (
    right_group (acc ++ r.new_kinds) r (head_kind r.new_kinds) (in_right acc r.new_kinds (head_kind r.new_kinds) (head_in r.new_kinds up.0)) (head_in r.new_kinds up.0) R.0,
    below rs R.1,
    right_chain (acc ++ r.new_kinds) rs up.1 R.1,
  )
    where
      below : (qs : Family) → RightFrom sets live (acc ++ r.new_kinds) qs → Below r.count qs
      below [] Q = tt
      below (q ∷ qs) Q = omega (arith, R.0.number, Q.0.number, holders_fewer (acc ++ r.new_kinds) q.new_kinds sets live)

  pub right_fams : (fs : List Family) → BuildableFamilies fs → AllRight sets live fs → Fams (key sets) fs
  right_fams [] b R = tt
  right_fams ([] ∷ fs) b R = absurd b.0
  right_fams ((r ∷ rs) ∷ fs) b R = (right_chain [] (r ∷ rs) (omega (arith, b.0.0), b.0.1) R.0, right_fams fs b.1 R.1)

-- ---- layouts that commands can build

kinds_of_families : (fs : List Family) → all_kinds (fam_kinds fs) ≡ layout_kinds fs
kinds_of_families [] = refl
kinds_of_families (f ∷ fs) = ap (λ (l : List ℕ). kinds_of f ++ l) (kinds_of_families fs)

pub distinct_families : (fs : List Family) → Distinct (layout_kinds fs) → Apart (fam_kinds fs)
distinct_families [] d = tt
distinct_families (f ∷ fs) d = ((λ k i. rw (kinds_of_families fs) (distinct_apart (kinds_of f) (layout_kinds fs) d k i)), distinct_families fs (distinct_right (kinds_of f) (layout_kinds fs) d))

rising_fresh : (f : Family) → Rising f → Uncounted f → Fresh f
rising_fresh [] up u = tt
rising_fresh (r ∷ rs) up u = (head_in r.new_kinds up.0, u.0, rising_fresh rs up.1 u.1)

pub buildable_fresh : (fs : List Family) → BuildableFamilies fs → AllUncounted fs → FreshAll fs
buildable_fresh [] b u = tt
buildable_fresh ([] ∷ fs) b u = absurd b.0
buildable_fresh ((r ∷ rs) ∷ fs) b u = (rising_fresh (r ∷ rs) (omega (arith, b.0.0), b.0.1) u.0, buildable_fresh fs b.1 u.1)
