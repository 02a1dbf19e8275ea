-- A sparse set with further rows behind it is walked as the sparse set itself, so that all insertions first, and then grouping, is one insertion after
-- another. Assumes nothing.
use mathlib.Core.Path.{◌≡◌, refl, ap, ap₂, sym, ◌∙◌, subst}
use mathlib.Core.Bool.{true, false, cond, ◌&&◌, true≢false, false≢true, or-true}
use mathlib.Core.List.{List, [], ◌∷◌, ◌++◌, map, append_assoc, append-nil}
use Prim.Native.Nat.{ℕ, suc, ◌≤◌, ◌<◌}
use native.Mathlib.Omega.{arith}
use native.Mathlib.Nat.{zero-add}
use native.Mathlib.Decide.{ℕ_discrete}
use borrow.Author.Tests.{ltb-true, lt-ltb, eq-eqb, ne_eqb}
use lib.Dec.{eqb, ltb}
use lib.ListN.{length, take, set, length-append, length-map, length-set}
use lib.Seq.{ext_get_or, get_or-set_same, get_or-set_other, take-append-le}
use Rattle.model.specs.Lists.{swap, place, one}
use Rattle.model.proofs.ListLaws.{count_append, place_append, place_count, count_place, swap_append, map_append}
use Rattle.model.specs.Model.{Entity, SparseSet, Group, Family, Component, Storage, Walked, GroupStep, same_entity, no_row, mem, meets, set_of, keys, entity_of, at, held, all_held, is_grouped, head_kind, kinds_of, kind_of, swap_to, on_kinds, insert_row, insert_all, insert_components, group_components, group_family, group_touched, group_each}
use Rattle.model.specs.Sound.{cnt, In, key, Distinct}
use Rattle.model.proofs.SparseSets.{set_of_map_on, entity_same}
use Rattle.model.proofs.BoolLaws.{bool_cases, cond_case, not_true}
use Rattle.model.proofs.Walk.{Chain, But, Entered, enters, enters_room, group_stays, group_moves, holds_more, count_held, chain_low, Up, group_family_good}
use Rattle.model.proofs.Families.{FamsFor, Apart, all_kinds, fam_kinds, fams_other, fams_put, Put, put_all, Kinds}
use Rattle.model.proofs.Regroup.{None}
use Rattle.model.proofs.Invariant.{Fit, length_map_on, length_put, insert_fit, insert_others}
use Rattle.model.proofs.KindLists.{in_right, distinct_apart, not_both}

-- ---- one sparse set, with the rows t behind it

module _ (e : Entity) (rows t : SparseSet) where
  at_behind : held e rows ≡ true → at e (rows ++ t) ≡ at e rows
  at_behind h = ap (place same_entity e) (map_append entity_of rows t) ∙ place_append same_entity e (keys rows) (keys t) (rw (length-map rows entity_of) (ltb-true _ _ h))

  held_behind : cnt e (keys t) ≡ 0 → held e (rows ++ t) ≡ held e rows
  held_behind z =
      bool_cases (held e rows)
      (λ h.
      let p : at e rows < length rows = ltb-true _ _ h in
      let q : at e (rows ++ t) < length (rows ++ t) = omega (arith, at_behind h, p, length-append rows t) in
      lt-ltb _ _ q ∙ sym h)
      (λ h. not_true (held e (rows ++ t)) (λ u.
      let p : at e (rows ++ t) < length (rows ++ t) = ltb-true _ _ u in
      let c : 1 ≤ cnt e (keys (rows ++ t)) = place_count same_entity e (keys (rows ++ t)) (rw (length-map (rows ++ t) entity_of) p) in
      let d : 1 ≤ cnt e (keys rows) = omega (arith, c, ap (cnt e) (map_append entity_of rows t), count_append same_entity e (keys rows) (keys t), z) in
      let o : at e rows < length rows = omega (arith, count_place same_entity e (keys rows) d, length-map rows entity_of) in
      true≢false (sym (lt-ltb _ _ o) ∙ h)) ∙ sym h)

  swap_behind : (c : ℕ) → held e rows ≡ true → c < length rows → swap_to e c (rows ++ t) ≡ swap_to e c rows ++ t
  swap_behind c h l = ap (λ (i : ℕ). swap no_row i c (rows ++ t)) (at_behind h) ∙ swap_append no_row (at e rows) c rows t (ltb-true _ _ h) l

-- ---- all sparse sets: Y is X with the rows T k behind kind k's

record Behind (T : ℕ → SparseSet) (X Y : List SparseSet) : Type 0 where
  pub wide : length Y ≡ length X
  pub rows : (k : ℕ) → set_of Y k ≡ set_of X k ++ T k

behind_one : (T : ℕ → SparseSet) (X Y Z : List SparseSet) → Behind T X Y → Behind T X Z → Y ≡ Z
behind_one T X Y Z B C = ext_get_or [] Y Z (B.wide ∙ sym C.wide) (λ i h. B.rows i ∙ sym (C.rows i))

on_set_law : (g : List ℕ) (e : Entity) (c : ℕ) (sets : List SparseSet) (k : ℕ) → set_of (on_kinds g (swap_to e c) sets) k ≡ cond (mem k g) (swap_to e c (set_of sets k)) (set_of sets k)
on_set_law g e c sets k = set_of_map_on g (swap_to e c) refl 0 sets k ∙ ap (λ (i : ℕ). cond (mem i g) (swap_to e c (set_of sets k)) (set_of sets k)) (zero-add k)

-- none of the rows behind is e's
module _ (e : Entity) (T : ℕ → SparseSet) (none : (k : ℕ) → cnt e (keys (T k)) ≡ 0) where
  module _ (X Y : List SparseSet) (B : Behind T X Y) where
    held_same : (k : ℕ) → held e (set_of Y k) ≡ held e (set_of X k)
    held_same k = ap (held e) (B.rows k) ∙ held_behind e (set_of X k) (T k) (none k)

    all_same : (ks : List ℕ) → all_held e ks Y ≡ all_held e ks X
    all_same [] = refl
    all_same (k ∷ ks) = ap₂ ◌&&◌ (held_same k) (all_same ks)

    inside_same : (r : Group) → held e (set_of X (head_kind r.new_kinds)) ≡ true → is_grouped e r Y ≡ is_grouped e r X
    inside_same r h = ap (λ (i : ℕ). ltb i r.count) (ap (at e) (B.rows (head_kind r.new_kinds)) ∙ at_behind e (set_of X (head_kind r.new_kinds)) (T (head_kind r.new_kinds)) h)

    swapped_behind : (g : List ℕ) (c : ℕ) → ((k : ℕ) → In g k → held e (set_of X k) ≡ true) → ((k : ℕ) → In g k → c < length (set_of X k)) → Behind T (on_kinds g (swap_to e c) X) (on_kinds g (swap_to e c) Y)
    swapped_behind g c h l =
        record {
          wide = length_map_on g (swap_to e c) 0 Y ∙ B.wide ∙ sym (length_map_on g (swap_to e c) 0 X);
          rows = λ k.
              on_set_law g e c Y k
              ∙ bool_cases (mem k g)
              (λ i. rw i (ap (swap_to e c) (B.rows k) ∙ swap_behind e (set_of X k) (T k) c (h k i) (l k i)))
              (λ i. rw i (B.rows k))
              ∙ sym (ap (λ (s : SparseSet). s ++ T k) (on_set_law g e c X k));
        }

  -- ---- a family

  record WalkedBehind (x y : Walked) : Type 0 where
    pub sets : Behind T x.sets y.sets
    pub groups : y.groups ≡ x.groups

  stop : (acc : List ℕ) (sets : List SparseSet) (r : Group) (rs : Family) → all_held e r.new_kinds sets ≡ false → group_family e acc sets (r ∷ rs) ≡ record { sets = sets; groups = r ∷ rs }
  unfolding group_family
  stop acc sets r rs a = rw a

  goes_on : (acc : List ℕ) (sets : List SparseSet) (r : Group) (rs : Family) (t : GroupStep) → all_held e r.new_kinds sets ≡ true → group_components e (acc ++ r.new_kinds) r sets ≡ t
      → group_family e acc sets (r ∷ rs) ≡ record { sets = (group_family e (acc ++ r.new_kinds) t.sets rs).sets; groups = t.group ∷ (group_family e (acc ++ r.new_kinds) t.sets rs).groups }
  unfolding group_family
  goes_on acc sets r rs t a q = rw (a, q)

  cons_behind : (q : Group) (x y : Walked) → WalkedBehind x y → WalkedBehind (record { sets = x.sets; groups = q ∷ x.groups }) (record { sets = y.sets; groups = q ∷ y.groups })
  cons_behind q x y w = record { sets = w.sets; groups = ap {B = Family} (λ l. q ∷ l) w.groups }

  family_behind : (W : Entity → Type 0) (acc : List ℕ) (X Y : List SparseSet) (rs : Family) → Behind T X Y → ((k : ℕ) → In acc k → 1 ≤ cnt e (key X k)) → Chain (key X) W acc rs → WalkedBehind (group_family e acc X rs) (group_family e acc Y rs)
  unfolding group_family
  family_behind W acc X Y [] B has ch = record { sets = B; groups = refl }
  family_behind W acc X Y (r ∷ rs) B has ch =
      bool_cases (all_held e r.new_kinds X)
      (λ a.
      let a' : all_held e r.new_kinds Y ≡ true = all_same X Y B r.new_kinds ∙ a in
      let hasg : (k : ℕ) → In g k → 1 ≤ cnt e (key X k) = holds_more e acc X r has a in
      let heldg : (k : ℕ) → In g k → held e (set_of X k) ≡ true = λ k i. count_held e X k (hasg k i) in
      bool_cases (is_grouped e r X)
      (λ b.
      let b' : is_grouped e r Y ≡ true = inside_same X Y B r (heldg (head_kind r.new_kinds) head) ∙ b in
      rw (goes_on acc X r rs (record { sets = X; group = r }) a (group_stays e g r X b), goes_on acc Y r rs (record { sets = Y; group = r }) a' (group_stays e g r Y b'))
      (cons_behind r (group_family e g X rs) (group_family e g Y rs) (family_behind W g X Y rs B hasg ch.2)))
      (λ b.
      let b' : is_grouped e r Y ≡ false = inside_same X Y B r (heldg (head_kind r.new_kinds) head) ∙ b in
      let E : Entered W e acc g r X (record { sets = M X; group = q }) = enters W e acc r X head hasg ch.0.even ch.0.full b in
      rw (goes_on acc X r rs (record { sets = M X; group = q }) a (group_moves e g r X b), goes_on acc Y r rs (record { sets = M Y; group = q }) a' (group_moves e g r Y b'))
      (cons_behind q (group_family e g (M X) rs) (group_family e g (M Y) rs)
      (family_behind W g (M X) (M Y) rs (swapped_behind X Y B g r.count heldg (enters_room W e acc r X head hasg ch.0.even ch.0.full b)) (λ k i. rw (E.same.entities e k) (hasg k i)) (chain_low W r.count E.same E.lower g rs ch.1 ch.2)))))
      (λ a.
      rw (stop acc X r rs a, stop acc Y r rs (all_same X Y B r.new_kinds ∙ a))
      (record { sets = B; groups = refl }))
    where
      g : List ℕ
      g = acc ++ r.new_kinds

      head : In (acc ++ r.new_kinds) (head_kind r.new_kinds)
      head = in_right acc r.new_kinds (head_kind r.new_kinds) ch.0.head

      q : Group
      q = record { new_kinds = r.new_kinds; count = suc r.count }

      M : List SparseSet → List SparseSet
      M sets = on_kinds (acc ++ r.new_kinds) (swap_to e r.count) sets

  -- ---- the touched families

  record StoredBehind (x y : Storage) : Type 0 where
    pub sets : Behind T x.sets y.sets
    pub layout : y.layout ≡ x.layout

  touched_behind : (W : Entity → Type 0) (ks : List ℕ) (X Y : List SparseSet) (fs : List Family) → Apart (fam_kinds fs) → Behind T X Y → FamsFor (key X) W fs → StoredBehind (group_touched e ks X fs) (group_touched e ks Y fs)
  unfolding group_touched
  touched_behind W ks X Y [] apart B a = record { sets = B; layout = refl }
  touched_behind W ks X Y (f ∷ fs) apart B a =
      bool_cases (meets ks (kinds_of f))
      (λ m.
      let w : WalkedBehind (group_family e [] X f) (group_family e [] Y f) = family_behind W [] X Y f B (λ k i. absurd (false≢true i)) a.0 in
      let U : Up W e [] X f (group_family e [] X f) = group_family_good W e [] X f (λ k i. absurd (false≢true i)) a.0 in
      let rest : StoredBehind (group_touched e ks (group_family e [] X f).sets fs) (group_touched e ks (group_family e [] Y f).sets fs) =
      touched_behind W ks (group_family e [] X f).sets (group_family e [] Y f).sets fs apart.1 w.sets
      (fams_other (key X) (key (group_family e [] X f).sets) W fs (λ k i. U.other k (not_both (kinds_of f) (all_kinds (fam_kinds fs)) k (apart.0 k) i)) a.1) in
      rw m (record { sets = rest.sets; layout = ap₂ {C = List Family} (λ x xs. x ∷ xs) w.groups rest.layout }))
      (λ m.
      let rest : StoredBehind (group_touched e ks X fs) (group_touched e ks Y fs) = touched_behind W ks X Y fs apart.1 B a.1 in
      rw m (record { sets = rest.sets; layout = ap {B = List Family} (λ xs. f ∷ xs) rest.layout }))

-- ---- the rows that insertions put behind the sparse sets

abbrev row_for : Entity → List Component → ℕ → SparseSet
row_for e [] k = []
row_for e (p ∷ ps) k = cond (eqb k p.kind) (record { entity = e; value = p.value } ∷ []) (row_for e ps k)

abbrev rows_for : List Entity → List Component → ℕ → SparseSet
rows_for [] h k = []
rows_for (e ∷ es) h k = row_for e h k ++ rows_for es h k

row_none : (e : Entity) (h : List Component) (k : ℕ) → mem k (map kind_of h) ≡ false → row_for e h k ≡ []
row_none e [] k n = refl
row_none e (p ∷ ps) k n = bool_cases (eqb k p.kind) (λ t. absurd (true≢false (sym (rw t) ∙ n))) (λ t. rw t (row_none e ps k (rw t at n)))

row_others : (e x : Entity) (h : List Component) (k : ℕ) → same_entity x e ≡ false → cnt x (keys (row_for e h k)) ≡ 0
row_others e x [] k ne = refl
row_others e x (p ∷ ps) k ne = cond_case (λ (s : SparseSet). cnt x (keys s) ≡ 0) (eqb k p.kind) _ _ (λ t. rw ne) (λ t. row_others e x ps k ne)

insert_appends : (e : Entity) (v : ℕ) (rows : SparseSet) → cnt e (keys rows) ≡ 0 → insert_row e v rows ≡ rows ++ (record { entity = e; value = v } ∷ [])
insert_appends e v rows z =
    let n : held e rows ≡ false = not_true (held e rows) (λ t. omega (arith, z, place_count same_entity e (keys rows) (rw (length-map rows entity_of) (ltb-true _ _ t)))) in
    rw n

-- those of one entity, which held none of the kinds
one_behind : (e : Entity) (h : List Component) (X : List SparseSet) → Kinds (length X) h → Distinct (map kind_of h) → ((k : ℕ) → In (map kind_of h) k → cnt e (key X k) ≡ 0) → Behind (row_for e h) X (insert_all e h X)
one_behind e [] X lt d z = record { wide = refl; rows = λ k. sym (append-nil (set_of X k)) }
one_behind e (p ∷ ps) X lt d z =
    let R : Behind (row_for e ps) Z (insert_all e ps Z) =
    one_behind e ps Z (rw (length-set X p.kind new) lt.1) (λ k. omega (arith, d k))
    (λ k i. ap (λ (s : SparseSet). cnt e (keys s)) (get_or-set_other X p.kind k new [] (other k i)) ∙ z k (rw i (or-true (eqb k p.kind)))) in
    record {
      wide = R.wide ∙ length-set X p.kind new;
      rows = λ k. R.rows k ∙ at_kind k (ℕ_discrete k p.kind);
    }
  where
    new : SparseSet
    new = insert_row e p.value (set_of X p.kind)

    Z : List SparseSet
    Z = set X p.kind (insert_row e p.value (set_of X p.kind))

    own : eqb p.kind p.kind ≡ true
    own = eq-eqb p.kind p.kind refl

    out : mem p.kind (map kind_of ps) ≡ false
    out = distinct_apart (p.kind ∷ []) (map kind_of ps) d p.kind (rw own)

    other : (k : ℕ) → In (map kind_of ps) k → k ≡ p.kind → ⊥
    other k i q = true≢false (sym (subst (λ (j : ℕ). In (map kind_of ps) j) q i) ∙ out)

    at_kind : (k : ℕ) → Dec (k ≡ p.kind) → set_of Z k ++ row_for e ps k ≡ set_of X k ++ cond (eqb k p.kind) (record { entity = e; value = p.value } ∷ []) (row_for e ps k)
    at_kind k (yes q) =
        rw (q, own, get_or-set_same X p.kind new [] lt.0, row_none e ps p.kind out, append-nil)
        (insert_appends e p.value (set_of X p.kind) (z p.kind (rw own)))
    at_kind k (no q) = rw (ne_eqb k p.kind q, get_or-set_other X p.kind k new [] q)

-- ---- entities that hold nothing, each once

pub record Fresh (es : List Entity) (X : List SparseSet) : Type 0 where
  pub once : (x : Entity) → cnt x es ≤ 1
  pub none : (x : Entity) → 1 ≤ cnt x es → (k : ℕ) → cnt x (key X k) ≡ 0

fresh_head : (e : Entity) (es : List Entity) (X : List SparseSet) → Fresh (e ∷ es) X → (k : ℕ) → cnt e (key X k) ≡ 0
fresh_head e es X F k = F.none e (omega (arith, ap one (entity_same e))) k

fresh_apart : (e : Entity) (es : List Entity) (X : List SparseSet) → Fresh (e ∷ es) X → (x : Entity) → 1 ≤ cnt x es → same_entity x e ≡ false
fresh_apart e es X F x h = not_true (same_entity x e) (λ t. omega (arith, F.once x, h, ap one t))

-- the others stay fresh where the sparse sets hold no other entity more
fresh_tail : (e : Entity) (es : List Entity) (X Y : List SparseSet) → Fresh (e ∷ es) X → ((x : Entity) → same_entity x e ≡ false → (k : ℕ) → cnt x (key Y k) ≡ cnt x (key X k)) → Fresh es Y
fresh_tail e es X Y F s =
    record {
      once = λ x. omega (arith, F.once x);
      none = λ x h k. s x (fresh_apart e es X F x h) k ∙ F.none x (omega (arith, h)) k;
    }

-- the staged components h go into each of them, and no group is walked
abbrev pub insert_each : List Entity → List Component → List SparseSet → List SparseSet
insert_each [] h sets = sets
insert_each (e ∷ es) h sets = insert_each es h (insert_all e h sets)

abbrev pub pending : List Entity → List Component → Storage → Storage
pending es h p = record { sets = insert_each es h p.sets; layout = p.layout }

each_behind : (es : List Entity) (h : List Component) (X : List SparseSet) → Kinds (length X) h → Distinct (map kind_of h) → Fresh es X → Behind (rows_for es h) X (insert_each es h X)
each_behind [] h X lt d F = record { wide = refl; rows = λ k. sym (append-nil (set_of X k)) }
each_behind (e ∷ es) h X lt d F =
    let A : Behind (row_for e h) X (insert_all e h X) = one_behind e h X lt d (λ k i. fresh_head e es X F k) in
    let P : Put e (map kind_of h) (key X) (key (insert_all e h X)) = put_all e h X lt in
    let R : Behind (rows_for es h) (insert_all e h X) (insert_each es h (insert_all e h X)) =
    each_behind es h (insert_all e h X) (rw (length_put e h X) lt) d (fresh_tail e es X (insert_all e h X) F P.counts) in
    record {
      wide = R.wide ∙ A.wide;
      rows = λ k. R.rows k ∙ ap (λ (s : SparseSet). s ++ rows_for es h k) (A.rows k) ∙ append_assoc (set_of X k) (row_for e h k) (rows_for es h k);
    }

rows_others : (x : Entity) (es : List Entity) (h : List Component) (k : ℕ) → cnt x es ≡ 0 → cnt x (keys (rows_for es h k)) ≡ 0
rows_others x [] h k z = refl
rows_others x (e ∷ es) h k z =
    let a : same_entity x e ≡ false = not_true (same_entity x e) (λ t. omega (arith, z, ap one t)) in
    let b = row_others e x h k a in
    let c = rows_others x es h k (omega (arith, z)) in
    omega (arith, ap (cnt x) (map_append entity_of (row_for e h k) (rows_for es h k)), count_append same_entity x (keys (row_for e h k)) (keys (rows_for es h k)), b, c)

-- ---- one entity is grouped while the rows of the others stand behind

-- the groups' first places stay, whatever stands behind
chain_behind : (T : ℕ → SparseSet) (X Y : List SparseSet) → Behind T X Y → (W : Entity → Type 0) (acc : List ℕ) (rs : Family) → Chain (key X) W acc rs → Chain (key Y) None acc rs
chain_behind T X Y B W acc [] ch = tt
chain_behind T X Y B W acc (r ∷ rs) ch = (
  record {
    head = ch.0.head;
    even = record {
      fit = λ k i. omega (arith, ch.0.even.fit k i, ap length (rows k), length-append (key X k) (keys (T k)));
      align = λ j k i i'. front j i ∙ ch.0.even.align j k i i' ∙ sym (front k i');
    };
    full = λ x w. absurd w;
  },
  ch.1,
  chain_behind T X Y B W (acc ++ r.new_kinds) rs ch.2,
)
  where
    rows : (k : ℕ) → key Y k ≡ key X k ++ keys (T k)
    rows k = ap keys (B.rows k) ∙ map_append entity_of (set_of X k) (T k)

    front : (k : ℕ) → In (acc ++ r.new_kinds) k → take r.count (key Y k) ≡ take r.count (key X k)
    front k i = ap (take r.count) (rows k) ∙ take-append-le r.count (key X k) (keys (T k)) (ch.0.even.fit k i)

fams_behind : (T : ℕ → SparseSet) (X Y : List SparseSet) → Behind T X Y → (W : Entity → Type 0) (fs : List Family) → FamsFor (key X) W fs → FamsFor (key Y) None fs
fams_behind T X Y B W [] fm = tt
fams_behind T X Y B W (f ∷ fs) fm = (chain_behind T X Y B W [] f fm.0, fams_behind T X Y B W fs fm.1)

module _ (e : Entity) (es : List Entity) (h : List Component) (p : Storage) (f : Fit p) (lt : Kinds (length p.sets) h) (d : Distinct (map kind_of h)) (F : Fresh (e ∷ es) p.sets) where
  abbrev X : List SparseSet
  X = insert_all e h p.sets

  put : Put e (map kind_of h) (key p.sets) (key (insert_all e h p.sets))
  put = put_all e h p.sets lt

  behind : Behind (rows_for es h) X (insert_each es h X)
  behind = each_behind es h X (rw (length_put e h p.sets) lt) d (fresh_tail e es p.sets X F put.counts)

  fams : FamsFor (key X) (But e) p.layout
  fams = fams_put e (map kind_of h) (key p.sets) (key X) put p.layout f.fams

  pub after_kinds : Kinds (length (insert_components e h p).sets) h
  after_kinds = rw ((insert_fit e h p lt f).wide ∙ sym f.wide) lt

  pub after_fresh : Fresh es (insert_components e h p).sets
  after_fresh = fresh_tail e es p.sets (insert_components e h p).sets F (λ x ne k. insert_others e h p lt f x ne k)

  -- the groups' first places are even, though the groups are not right for the entities that wait to be grouped
  pub pending_even : FamsFor (key (insert_each es h X)) None p.layout
  pending_even = fams_behind (rows_for es h) X (insert_each es h X) behind (But e) p.layout fams

  pub group_first : group_touched e (map kind_of h) (insert_each es h X) p.layout ≡ pending es h (insert_components e h p)
  unfolding insert_components
  group_first =
      let z : cnt e es ≡ 0 = omega (arith, F.once e, ap one (entity_same e)) in
      let W = touched_behind e (rows_for es h) (λ k. rows_others e es h k z) (But e) (map kind_of h) X (insert_each es h X) p.layout f.apart behind fams in
      let G : Storage = group_touched e (map kind_of h) X p.layout in
      let same = behind_one (rows_for es h) G.sets _ _ W.sets (each_behind es h G.sets after_kinds d after_fresh) in
      λ i. record { sets = same i; layout = W.layout i }

-- ---- all insertions first, then grouping, is one insertion after another

unfoldable pub inserts_of : List Entity → List Component → Storage → Storage
inserts_of [] h p = p
inserts_of (e ∷ es) h p = inserts_of es h (insert_components e h p)

pub extend_inserts : (es : List Entity) (h : List Component) (p : Storage) → Fit p → Kinds (length p.sets) h → Distinct (map kind_of h) → Fresh es p.sets → group_each es (map kind_of h) (pending es h p) ≡ inserts_of es h p
unfolding group_each inserts_of
extend_inserts [] h p f lt d F = refl
extend_inserts (e ∷ es) h p f lt d F =
    ap (group_each es (map kind_of h)) (group_first e es h p f lt d F)
    ∙ extend_inserts es h (insert_components e h p) (insert_fit e h p lt f) (after_kinds e es h p f lt d F) d (after_fresh e es h p f lt d F)
