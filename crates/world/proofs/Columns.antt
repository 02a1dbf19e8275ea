-- The loops that put the staged components into many entities, kind by kind: it is entity by entity, since each kind has its own sparse set.
-- Assumes nothing.
use mathlib.Core.Path.{◌≡◌, refl, ap, sym, ◌∙◌, subst}
use mathlib.Core.Bool.{true, false}
use mathlib.Core.List.{List, [], ◌∷◌, ◌++◌, map}
use Prim.Native.Nat.{ℕ, ◌+◌, ◌≤◌, ◌<◌}
use native.Mathlib.Omega.{arith}
use native.Mathlib.Numerals.{add-one}
use borrow.Author.Tests.{eq-eqb, eqb-false}
use lib.Dec.{eqb}
use lib.ListN.{length, get_or, set, take, drop, drop_of_length-le, length-set}
use lib.Seq.{set-get_or, set-set, set_comm, get_or-set_same, get_or-set_other, take_all, take-suc}
use Rattle.model.specs.Lists.{one}
use Rattle.model.specs.Model.{Entity, Component, SparseSet, Storage, same_entity, no_entity, mem, set_of, kind_of, is_live, insert_row, insert_all, entity}
use Rattle.model.specs.Store.{Store, staged_kinds, on_set, on_storage}
use Rattle.model.specs.Sound.{In, Distinct, cnt, no_component}
use Rattle.model.proofs.BoolLaws.{bool_cases, or_false, or_false_right}
use Rattle.model.proofs.ListLaws.{count_at_law, count_drop_le}
use Rattle.model.proofs.KindLists.{distinct_apart}
use Rattle.model.proofs.SparseSets.{entity_eq, entity_same}
use Rattle.model.proofs.Families.{Kinds, put_all}
use Rattle.model.proofs.Invariant.{length_put}
use Rattle.model.proofs.Operations.{count_live}
use Rattle.model.proofs.Behind.{insert_each}
use Rattle.words.specs.declared.Shape.{Shape}
use Rattle.words.specs.Shape.{shape_of}
use Rattle.component.specs.Stored.{Current}
use Rattle.component.specs.Changes.{Lent, Only}
use Rattle.component.specs.Columns.{rows_of}
use Rattle.memory.specs.Meaning.{meaning}
use Rattle.memory.specs.Arranged.{Arranged, Becomes}
use Rattle.memory.proofs.Becomes.{sets_wide}
use Rattle.kinds.specs.Steps.{InSlot}
use Rattle.kinds.proofs.Slot.{known_slot, known_small, slot_alike, lent_at, rows_at, only_becomes}
use Rattle.group.proofs.Storing.{becomes_then, shape_kept, SoFar, so_far_next, so_far_is, live_same, live_next}
use Rattle.world.specs.Insert.{OnlyLive, AllInsertable, insert_rows, insert_column, insert_columns, inserted_each, inserted}
use Rattle.world.proofs.Live.{current, live_index, live_version_law}
use Rattle.world.proofs.Removing.{staged_in_law}

-- ---- kind by kind is entity by entity

module _ (e : Entity) where
  -- a kind that is not among those of ps
  all_other : (ps : List Component) (sets : List SparseSet) (k : ℕ) → mem k (map kind_of ps) ≡ false → set_of (insert_all e ps sets) k ≡ set_of sets k
  all_other [] sets k n = refl
  all_other (p ∷ ps) sets k n =
      all_other ps (set sets p.kind (insert_row e p.value (set_of sets p.kind))) k (or_false_right (eqb k p.kind) (mem k (map kind_of ps)) n)
      ∙ get_or-set_other sets p.kind k (insert_row e p.value (set_of sets p.kind)) [] (eqb-false k p.kind (or_false (eqb k p.kind) (mem k (map kind_of ps)) n))

  all_beside : (ps : List Component) (sets : List SparseSet) (k : ℕ) (b : SparseSet) → mem k (map kind_of ps) ≡ false → insert_all e ps (set sets k b) ≡ set (insert_all e ps sets) k b
  all_beside [] sets k b n = refl
  all_beside (p ∷ ps) sets k b n =
      let j : ℕ = p.kind in
      let ne : k ≡ p.kind → ⊥ = eqb-false k p.kind (or_false (eqb k p.kind) (mem k (map kind_of ps)) n) in
      ap (λ (r : SparseSet). insert_all e ps (set (set sets k b) j (insert_row e p.value r))) (get_or-set_other sets k j b [] (λ q. ne (sym q)))
      ∙ ap (insert_all e ps) (set_comm sets k j b (insert_row e p.value (set_of sets j)) ne)
      ∙ all_beside ps (set sets j (insert_row e p.value (set_of sets j))) k b (or_false_right (eqb k p.kind) (mem k (map kind_of ps)) n)

  -- one entity before the others
  entity_first : (es : List Entity) (ps : List Component) (sets : List SparseSet) → Kinds (length sets) ps → Distinct (map kind_of ps) → insert_columns (e ∷ es) ps sets ≡ insert_columns es ps (insert_all e ps sets)
  entity_first es [] sets lt d = refl
  entity_first es (p ∷ ps) sets lt d =
      let k : ℕ = p.kind in
      let A : SparseSet = insert_row e p.value (set_of sets p.kind) in
      let B : SparseSet = insert_rows es p.value (insert_row e p.value (set_of sets p.kind)) in
      let Z : List SparseSet = insert_all e ps (set sets p.kind (insert_row e p.value (set_of sets p.kind))) in
      let out : mem p.kind (map kind_of ps) ≡ false = distinct_apart (p.kind ∷ []) (map kind_of ps) d p.kind (rw (eq-eqb p.kind p.kind refl)) in
      let here : set_of Z k ≡ A = all_other ps (set sets k A) k out ∙ get_or-set_same sets k A [] lt.0 in
      let beside : insert_all e ps (set sets k B) ≡ set Z k (insert_rows es p.value (set_of Z k)) =
      ap (insert_all e ps) (sym (set-set sets k A B)) ∙ all_beside ps (set sets k A) k B out ∙ ap (λ (r : SparseSet). set Z k (insert_rows es p.value r)) (sym here) in
      entity_first es ps (set sets k B) (rw (length-set sets k B) lt.1) (λ j. omega (arith, d j))
      ∙ ap (insert_columns es ps) beside

none_inserted : (ps : List Component) (sets : List SparseSet) → insert_columns [] ps sets ≡ sets
none_inserted [] sets = refl
none_inserted (p ∷ ps) sets = ap (insert_columns [] ps) (set-get_or sets p.kind []) ∙ none_inserted ps sets

pub columns_each : (es : List Entity) (ps : List Component) (sets : List SparseSet) → Kinds (length sets) ps → Distinct (map kind_of ps) → insert_columns es ps sets ≡ insert_each es ps sets
columns_each [] ps sets lt d = none_inserted ps sets
columns_each (e ∷ es) ps sets lt d = entity_first e es ps sets lt d ∙ columns_each es ps (insert_all e ps sets) (rw (length_put e ps sets) lt) d

-- ---- what insertion into a live entity rests on stays

live_inserted : (s : Store) (e : Entity) (ps : List Component) → Kinds (length s.storage.sets) ps → 1 ≤ cnt e s.entities.live → OnlyLive s → OnlyLive (on_storage (inserted e ps) s)
live_inserted s e ps lt live L =
    let P = put_all e ps s.storage.sets lt in
    record {
      entities = L.entities;
      alive = λ x k i. bool_cases (same_entity x e)
          (λ t. subst (λ (y : Entity). 1 ≤ cnt y s.entities.live) (sym (entity_eq x e t)) live)
          (λ t. L.alive x k (rw (P.counts x t k) at i));
    }

-- one row after another is all of them
rows_next : (e : Entity) (es : List Entity) (k v : ℕ) (p : Storage) → k < length p.sets → on_set k (insert_rows es v) (on_set k (insert_row e v) p) ≡ on_set k (insert_rows (e ∷ es) v) p
rows_next e es k v p lt =
    let A : SparseSet = insert_row e v (set_of p.sets k) in
    let sets : set (set p.sets k A) k (insert_rows es v (set_of (set p.sets k A) k)) ≡ set p.sets k (insert_rows es v A) =
    ap (λ (r : SparseSet). set (set p.sets k A) k (insert_rows es v r)) (get_or-set_same p.sets k A [] lt) ∙ set-set p.sets k A (insert_rows es v A) in
    λ i. record { sets = sets i; layout = p.layout }

rows_none : (k v : ℕ) (p : Storage) → on_set k (insert_rows [] v) p ≡ p
rows_none k v p = let sets : set p.sets k (set_of p.sets k) ≡ p.sets = set-get_or p.sets k [] in λ i. record { sets = sets i; layout = p.layout }

live_rows : (es : List Entity) (k v : ℕ) (s : Store) → k < length s.storage.sets → ((x : Entity) → 1 ≤ cnt x es → 1 ≤ cnt x s.entities.live) → OnlyLive s → OnlyLive (on_storage (on_set k (insert_rows es v)) s)
live_rows [] k v s lt alive L = subst (λ (p : Storage). OnlyLive (on_storage (λ (x : Storage). p) s)) (sym (rows_none k v s.storage)) L
live_rows (e ∷ es) k v s lt alive L =
    let t : Store = on_storage (on_set k (insert_row e v)) s in
    let one_live : OnlyLive t = live_inserted s e (record { kind = k; value = v } ∷ []) (lt, tt) (alive e (omega (arith, ap one (entity_same e)))) L in
    subst (λ (p : Storage). OnlyLive (on_storage (λ (x : Storage). p) s)) (rows_next e es k v s.storage lt)
    (live_rows es k v t (rw (length-set s.storage.sets k (insert_row e v (set_of s.storage.sets k))) lt) (λ x h. alive x (omega (arith, h))) one_live)

-- ---- the loop over the entities: of the live ones from place start on, those from place i on are left

pub record Filling (w₀ : List ℕ) (k v start : ℕ) (w : List ℕ) (i : ℕ) : Type 0 where
  pub so_far : SoFar w₀ w
  pub still : on_set k (insert_rows (drop i (meaning w₀).entities.live) v) (meaning w).storage ≡ on_set k (insert_rows (drop start (meaning w₀).entities.live) v) (meaning w₀).storage
  pub live : OnlyLive (meaning w)

module _ (w₀ : List ℕ) (k v start : ℕ) (w : List ℕ) (i : ℕ) (F : Filling w₀ k v start w i) where
  abbrev all : List Entity
  all = (meaning w₀).entities.live

  pub filling_end : (p : Component) → record { kind = k; value = v } ≡ p → length all ≤ i → Becomes w₀ w (on_storage (insert_column (drop start (meaning w₀).entities.live) p) (meaning w₀))
  filling_end p q h =
      let e : (meaning w).storage ≡ on_set k (insert_rows (drop start all) v) (meaning w₀).storage =
      sym (rows_none k v (meaning w).storage) ∙ ap (λ (l : List Entity). on_set k (insert_rows l v) (meaning w).storage) (sym (drop_of_length-le all {i = i} h)) ∙ F.still in
      so_far_is F.so_far _ (e ∙ ap (λ (c : Component). insert_column (drop start all) c (meaning w₀).storage) q)

  module _ (A : Arranged w₀) (known : In (meaning w₀).kinds k) (z : Shape) (slot : ℕ) (en : z ≡ shape_of w₀) (at : InSlot w₀ k slot) where
    shaped : z ≡ shape_of w
    shaped = en ∙ sym (shape_kept w₀ w (λ (s : Storage). (meaning w).storage) F.so_far)

    same_kinds : (meaning w).kinds ≡ (meaning w₀).kinds
    same_kinds = ap (λ (m : Store). m.kinds) F.so_far.means

    still_in : InSlot w k slot
    still_in =
        subst (InSlot w k) (slot_alike w w₀ F.so_far.arranged A same_kinds k known ∙ sym at.is)
        (known_slot w F.so_far.arranged k (subst (λ (l : List ℕ). In l k) (sym same_kinds) known))

    pub filling_lent : Lent z slot w
    filling_lent = lent_at w z k slot shaped still_in

    module _ (x y : ℕ) (h : i < length (meaning w₀).entities.live) (q : entity x y ≡ get_or (meaning w).entities.live i no_entity) where
      here : 1 ≤ cnt (entity x y) (meaning w).entities.live
      here = subst (λ (e : Entity). 1 ≤ cnt e (meaning w).entities.live) (sym q) (count_at_law same_entity entity_same no_entity (meaning w).entities.live i (rw (live_same F.so_far) h))

      here_live : is_live (entity x y) (meaning w).entities ≡ true
      here_live = count_live (entity x y) (meaning w).entities here

      pub filling_bounds : (x < z.capacity) × (1 ≤ y)
      filling_bounds = (rw shaped (live_index w F.live x y here_live), live_version_law w F.live x y here_live)

      pub filling_current : Current x y (rows_of z slot w)
      filling_current = rw (rows_at w z k slot shaped still_in) (current (meaning w) F.live (entity x y) here_live k)

      small : k < length (meaning w).storage.sets
      small = omega (arith, known_small w₀ A k known, sets_wide w)

      pub filling_turn : (w' : List ℕ) → Only z slot (insert_row (entity x y) v) w w' → Filling w₀ k v start w' (i + 1)
      filling_turn w' o =
          let C : Becomes w w' (on_storage (on_set k (insert_row (entity x y) v)) (meaning w)) = only_becomes w z k slot shaped still_in w' (insert_row (entity x y) v) F.so_far.arranged o in
          let left : drop i all ≡ entity x y ∷ drop (i + 1) all = live_next F.so_far i (entity x y) h q in
          record {
            so_far = so_far_next F.so_far (on_set k (insert_row (entity x y) v)) C;
            still =
                ap (λ (m : Store). on_set k (insert_rows (drop (i + 1) all) v) m.storage) C.means
                ∙ rows_next (entity x y) (drop (i + 1) all) k v (meaning w).storage small
                ∙ ap (λ (l : List Entity). on_set k (insert_rows l v) (meaning w).storage) (sym left) ∙ F.still;
            live = subst OnlyLive (sym C.means) (live_inserted (meaning w) (entity x y) (record { kind = k; value = v } ∷ []) (small, tt) here F.live);
          }

-- ---- the loop over the staged components: the first i of them are in

columns_snoc : (es : List Entity) (ps : List Component) (p : Component) (sets : List SparseSet)
    → insert_columns es (ps ++ (p ∷ [])) sets ≡ set (insert_columns es ps sets) p.kind (insert_rows es p.value (set_of (insert_columns es ps sets) p.kind))
columns_snoc es [] p sets = refl
columns_snoc es (q ∷ ps) p sets = columns_snoc es ps p (set sets q.kind (insert_rows es q.value (set_of sets q.kind)))

pub record FillingAll (w₀ : List ℕ) (start : ℕ) (w : List ℕ) (i : ℕ) : Type 0 where
  pub so_far : Becomes w₀ w (on_storage (inserted_each (drop start (meaning w₀).entities.live) (take i (meaning w₀).control.staged)) (meaning w₀))
  pub can : AllInsertable w

module _ (w₀ : List ℕ) (start : ℕ) (w : List ℕ) (i : ℕ) (F : FillingAll w₀ start w i) where
  abbrev staged : List Component
  staged = (meaning w₀).control.staged

  abbrev es : List Entity
  es = drop start (meaning w₀).entities.live

  pub all_end : length staged ≤ i → Becomes w₀ w (on_storage (inserted_each (drop start (meaning w₀).entities.live) (meaning w₀).control.staged) (meaning w₀))
  all_end h = subst (λ (ps : List Component). Becomes w₀ w (on_storage (inserted_each es ps) (meaning w₀))) (take_all i staged h) F.so_far

  same_staged : (meaning w).control.staged ≡ staged
  same_staged = ap (λ (m : Store). m.control.staged) F.so_far.means

  pub all_count : i < length (meaning w₀).control.staged → i < length (meaning w).control.staged
  all_count h = rw same_staged h

  pub all_turn : i < length (meaning w₀).control.staged → (w' : List ℕ)
      → Becomes w w' (on_storage (insert_column (drop start (meaning w).entities.live) (get_or (meaning w).control.staged i no_component)) (meaning w)) → FillingAll w₀ start w' (i + 1)
  all_turn h w' D =
      let p : Component = get_or (meaning w).control.staged i no_component in
      let q : Component = get_or staged i no_component in
      let ps : List Component = take i staged in
      let next : take (i + 1) staged ≡ ps ++ (q ∷ []) = ap (λ (n : ℕ). take n staged) (add-one i) ∙ take-suc staged i no_component h in
      let whole : Becomes w₀ w' (on_storage (λ (s : Storage). insert_column es q (inserted_each es ps s)) (meaning w₀)) =
      becomes_then w₀ w w' (inserted_each es ps) (λ (s : Store). on_storage (insert_column (drop start s.entities.live) (get_or s.control.staged i no_component)) s) F.so_far D in
      let small : p.kind < length (meaning w).storage.sets = omega (arith, known_small w F.can.arranged p.kind (staged_in_law (meaning w) F.can.known i p.kind (all_count h) refl), sets_wide w) in
      record {
        so_far =
            subst (λ (l : List Component). Becomes w₀ w' (on_storage (inserted_each es l) (meaning w₀))) (sym next)
            (subst (λ (l : List SparseSet). Becomes w₀ w' (on_storage (λ (s : Storage). record { sets = l; layout = s.layout }) (meaning w₀))) (sym (columns_snoc es ps q (meaning w₀).storage.sets)) whole);
        can = record {
          arranged = D.arranged;
          live =
              subst OnlyLive (sym D.means)
              (live_rows (drop start (meaning w).entities.live) p.kind p.value (meaning w) small (λ x g. omega (arith, g, count_drop_le same_entity x start (meaning w).entities.live)) F.can.live);
          known = subst (λ (s : Store). (k : ℕ) → In (staged_kinds s) k → In s.kinds k) (sym D.means) F.can.known;
        };
      }
