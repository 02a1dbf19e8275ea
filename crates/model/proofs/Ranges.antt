-- 01's range: it shows exactly the entities that hand and bar describe, with the values that they hold; none exactly where 01 says none. Both rules rest
-- on these (Rules.antt). Assumes nothing.
use mathlib.Core.Path.{◌≡◌, refl, ap, ap₂, sym, ◌∙◌, subst}
use mathlib.Core.Logic.{◌↔◌, ◌⊎◌, inl, inr, ⊎_elim}
use mathlib.Core.Bool.{true, false, cond, ◌&&◌}
use mathlib.Core.Option.{Option, some, none}
use mathlib.Core.List.{List, [], ◌∷◌, ◌++◌, map, map-map, append_assoc, append-nil}
use Prim.Native.Nat.{ℕ, zero, suc, ◌+◌, ◌-◌, ◌≤◌, ◌<◌}
use native.Mathlib.Omega.{arith}
use borrow.Author.Tests.{eqb-true, eq-eqb, lt-ltb}
use lib.Dec.{eqb}
use lib.ListN.{length, take, drop, get_or, length-drop, length-map, get_or-map, take-append-drop}
use lib.Seq.{length-take-le, take_all, drop-cons}
use Rattle.model.proofs.ListLaws.{count_append, count_left_out, count_length, length_zero, map_at, map_drop, map_take, place_once}
use Rattle.model.specs.Model.{Entity, Row, SparseSet, Group, Family, Range, none, found, same_entity, no_entity, no_row, same_set, set_of, entity_of, keys, at, held, all_held, head_kind, kinds_of, new_group, first_range, range_at, range_in, range_all, single, range_for}
use Rattle.model.specs.Store.{Store}
use Rattle.model.specs.Snapshot.{value_at}
use Rattle.model.specs.Entries.{row_value, part}
use Rattle.model.specs.Sound.{cnt, In, key, holders, Distinct, layout_kinds, Rising, BuildableFamilies, Right, RightFrom, AllRight, Between, StoreSound}
use Rattle.model.specs.Shown.{lacking, described, Showing, EqualGroup, EqualNewKinds, Shows, one_kind, a_group, two_groups, Hold}
use Rattle.model.proofs.SparseSets.{entity_eq, entity_same}
use Rattle.model.proofs.BoolLaws.{cond_case, and_left, and_right, bool_cases}
use Rattle.model.proofs.Walk.{held_count, lacks_count}
use Rattle.model.proofs.KindLists.{in_left, in_right, in_one, not_both, all_same, same_to, same_from, differ_left, head_in, length_one, distinct_left, distinct_right, distinct_apart, all_joined}
use Rattle.model.proofs.Invariant.{holders_count}
use Rattle.model.proofs.Numbers.{live_once}
use Rattle.model.proofs.Demand.{between}

-- ---- equal sets

module _ (sets : List SparseSet) where
  held_same : (x : Entity) (h g : List ℕ) → same_set h g ≡ true → all_held x h sets ≡ all_held x g sets
  held_same x h g s = all_same (λ k. held x (set_of sets k)) h g s

  holders_same : (h g : List ℕ) → same_set h g ≡ true → (l : List Entity) → holders h sets l ≡ holders g sets l
  holders_same h g s [] = refl
  holders_same h g s (e ∷ l) = rw (held_same e h g s, holders_same h g s l)

  lacking_count : (b : List ℕ) (l : List Entity) (x : Entity) → cnt x (lacking b sets l) ≡ cond (all_held x b sets) 0 (cnt x l)
  lacking_count b l x = count_left_out same_entity entity_eq (λ e. all_held e b sets) (lacking b sets) refl (λ e r. refl) l x

-- ---- a range that is right shows them

module _ (sets : List SparseSet) (live : List Entity) where
  -- the start, from the rest
  showing : (h b : List ℕ) (a e k : ℕ) → In h k → a ≤ e → e ≡ length (holders h sets live)
      → ((k : ℕ) → In h k → e ≤ length (key sets k))
      → ((j k : ℕ) → In h j → In h k → take e (key sets j) ≡ take e (key sets k))
      → ((k : ℕ) → In h k → (x : Entity) → cnt x (drop a (take e (key sets k))) ≡ cnt x (described false h b sets live))
      → ((k : ℕ) → In h k → (x : Entity) → cnt x (take e (key sets k)) ≤ 1)
      → Showing false sets live h b a e
  showing h b a e k i le end places aligned exact once =
      let n : length (drop a (take e (key sets k))) ≡ length (take e (key sets k)) - a = length-drop a (take e (key sets k)) in
      let m : length (take e (key sets k)) ≡ e = length-take-le e (key sets k) (places k i) in
      let c : length (drop a (take e (key sets k))) ≡ length (described false h b sets live) = count_length same_entity entity_eq entity_same (drop a (take e (key sets k))) (described false h b sets live) (exact k i) in
      record {
        start = omega arith;
        end = end;
        places = places;
        aligned = λ j k i i'. ap (λ (l : List Entity). drop a l) (aligned j k i i');
        exact = exact;
        once = λ k i x. omega (arith, once k i x, count_append same_entity x (take a (take e (key sets k))) (drop a (take e (key sets k))), ap (cnt x) (take-append-drop a (take e (key sets k))));
      }

  -- a hand equal to a group, no bar
  group_shown : (h g : List ℕ) (c k : ℕ) → In g k → same_set h g ≡ true → Right sets live g c → Showing false sets live h [] 0 c
  group_shown h g c k i s R =
      showing h [] 0 c k (same_from h g s k i) (omega arith) (R.number ∙ ap (λ (l : List Entity). length l) (sym (holders_same sets h g s live)))
      (λ j u. R.places j (same_to h g s j u))
      (λ j k u v. R.aligned j k (same_to h g s j u) (same_to h g s k v))
      (λ j u x. R.exact j (same_to h g s j u) x ∙ ap (cnt x) (sym (holders_same sets h g s live)))
      (λ j u x. R.once j (same_to h g s j u) x)

  -- and a bar equal to the next larger group's ring
  bar_shown : (h g b more : List ℕ) (c d k : ℕ) → In g k → 1 ≤ length b → same_set h g ≡ true → same_set b more ≡ true → Right sets live g c → Right sets live (g ++ more) d → Showing false sets live h b d c
  bar_shown h g [] more c d k i nb s z R Q = absurd (omega arith)
  bar_shown h g (b₀ ∷ bs) more c d k i nb s z R Q =
      let B : Between sets live g more c d = between sets live g more c d R Q in
      showing h (b₀ ∷ bs) d c k (same_from h g s k i) B.falls (R.number ∙ ap (λ (l : List Entity). length l) (sym (holders_same sets h g s live)))
      (λ j u. R.places j (same_to h g s j u))
      (λ j k u v. R.aligned j k (same_to h g s j u) (same_to h g s k v))
      (λ j u x. exact j (same_to h g s j u) x (B.exact j (same_to h g s j u) x))
      (λ j u x. R.once j (same_to h g s j u) x)
    where
      exact : (j : ℕ) → In g j → (x : Entity) → cnt x (drop d (take c (key sets j))) + cnt x (holders (g ++ more) sets live) ≡ cnt x (holders g sets live) → cnt x (drop d (take c (key sets j))) ≡ cnt x (lacking (b₀ ∷ bs) sets (holders h sets live))
      exact j u x e =
          let hs : cnt x (holders h sets live) ≡ cnt x (holders g sets live) = ap (cnt x) (holders_same sets h g s live) in
          let lk = lacking_count sets (b₀ ∷ bs) (holders h sets live) x in
          let hb : all_held x (b₀ ∷ bs) sets ≡ all_held x more sets = held_same sets x (b₀ ∷ bs) more z in
          let hm = holders_count (g ++ more) sets live x in
          let hg = holders_count g sets live x in
          let jn : all_held x (g ++ more) sets ≡ (all_held x g sets && all_held x more sets) = all_joined (λ y. held x (set_of sets y)) g more in
          bool_cases (all_held x more sets)
          (λ t. bool_cases (all_held x g sets)
          (λ v. omega (arith, e, hs, rw (hb ∙ t) at lk, rw (jn ∙ ap₂ ◌&&◌ v t) at hm, rw v at hg))
          (λ v. omega (arith, e, hs, rw (hb ∙ t) at lk, rw (jn ∙ ap₂ ◌&&◌ v t) at hm, rw v at hg)))
          (λ t. bool_cases (all_held x g sets)
          (λ v. omega (arith, e, hs, rw (hb ∙ t) at lk, rw (jn ∙ ap₂ ◌&&◌ v t) at hm, rw v at hg))
          (λ v. omega (arith, e, hs, rw (hb ∙ t) at lk, rw (jn ∙ ap₂ ◌&&◌ v t) at hm, rw v at hg)))

-- ---- what the search finds is right

module _ (sets : List SparseSet) (live : List Entity) (h : List ℕ) where
  abbrev ShownBy : List ℕ → Range → Type 0
  ShownBy b none = Unit {0}
  ShownBy b (found a e) = Showing false sets live h b a e

  at_shown : (b g : List ℕ) (c k : ℕ) (rs : Family) → In g k → same_set h g ≡ true → Right sets live g c → RightFrom sets live g rs → ShownBy b (range_at b c rs)
  at_shown [] g c k rs i s R Q = group_shown sets live h g c k i s R
  at_shown (b₀ ∷ bs) g c k [] i s R Q = tt
  at_shown (b₀ ∷ bs) g c k (q ∷ qs) i s R Q = cond_case (ShownBy (b₀ ∷ bs)) (same_set (b₀ ∷ bs) q.new_kinds) _ _ (λ t. bar_shown sets live h g (b₀ ∷ bs) q.new_kinds c q.count k i (omega arith) s t R Q.0) (λ t. tt)

  in_shown : (b acc : List ℕ) (rs : Family) → Rising rs → RightFrom sets live acc rs → ShownBy b (range_in h b acc rs)
  in_shown b acc [] up R = tt
  in_shown b acc (r ∷ rs) up R =
      cond_case (ShownBy b) (same_set h (acc ++ r.new_kinds)) _ _
      (λ t. at_shown b (acc ++ r.new_kinds) r.count (head_kind r.new_kinds) rs (in_right acc r.new_kinds (head_kind r.new_kinds) (head_in r.new_kinds up.0)) t R.0 R.1)
      (λ t. in_shown b (acc ++ r.new_kinds) rs up.1 R.1)

  else_shown : (b : List ℕ) (p q : Range) → ShownBy b p → ShownBy b q → ShownBy b (first_range p q)
  else_shown b none q x y = y
  else_shown b (found a e) q x y = x

  all_shown : (b : List ℕ) (fs : List Family) → BuildableFamilies fs → AllRight sets live fs → ShownBy b (range_all h b fs)
  all_shown b [] B R = tt
  all_shown b ([] ∷ fs) B R = absurd B.0
  all_shown b ((r ∷ rs) ∷ fs) B R =
      else_shown b (range_in h b [] (r ∷ rs)) (range_all h b fs) (in_shown b [] (r ∷ rs) (omega (arith, B.0.0), B.0.1) R.0) (all_shown b fs B.1 R.1)

  -- a hand of one kind, no bar: the whole sparse set
  one_shown : (k : ℕ) → ((x : Entity) (j : ℕ) → cnt x (key sets j) ≤ 1) → ((x : Entity) → cnt x live ≤ 1) → ((x : Entity) (j : ℕ) → 1 ≤ cnt x (key sets j) → 1 ≤ cnt x live) → Showing false sets live (k ∷ []) [] 0 (length (set_of sets k))
  one_shown k once lonce alive =
      let whole : (j : ℕ) → In (k ∷ []) j → take (length (set_of sets k)) (key sets j) ≡ key sets k = λ j i. rw (in_one j k i) (take_all (length (set_of sets k)) (key sets k) (omega (arith, length-map (set_of sets k) entity_of))) in
      let ex : (x : Entity) → cnt x (key sets k) ≡ cnt x (holders (k ∷ []) sets live) = exact in
      showing sets live (k ∷ []) [] 0 (length (set_of sets k)) k (rw (eq-eqb k k refl)) (omega arith)
      (sym (length-map (set_of sets k) entity_of) ∙ count_length same_entity entity_eq entity_same (key sets k) (holders (k ∷ []) sets live) exact)
      (λ j i. rw (in_one j k i) (omega (arith, length-map (set_of sets k) entity_of)))
      (λ i j u v. whole i u ∙ sym (whole j v))
      (λ j i x. ap (cnt x) (whole j i) ∙ exact x)
      (λ j i x. omega (arith, ap (cnt x) (whole j i), once x k))
    where
      exact : (x : Entity) → cnt x (key sets k) ≡ cnt x (holders (k ∷ []) sets live)
      exact x =
          let c = holders_count (k ∷ []) sets live x in
          bool_cases (held x (set_of sets k))
          (λ t. omega (arith, held_count x sets k t, once x k, lonce x, alive x k (held_count x sets k t), rw t at c))
          (λ t. omega (arith, lacks_count x sets k t, rw t at c))

module _ (s : Store) (S : StoreSound s) (h b : List ℕ) where
  abbrev C : List SparseSet
  C = s.storage.sets

  abbrev L : List Entity
  L = s.entities.live

  shown : ShownBy C L h b (range_for h b s.storage)
  unfolding range_for
  shown =
      cond_case (ShownBy C L h b) (single h b) _ _
      (λ t.
      let p : length h ≡ 1 = eqb-true (length h) 1 (and_left (eqb (length h) 1) (eqb (length b) 0) t) in
      let q : length b ≡ 0 = eqb-true (length b) 0 (and_right (eqb (length h) 1) (eqb (length b) 0) t) in
      rw (length_zero b q) (subst (λ (l : List ℕ). Showing false C L l [] 0 (length (set_of C (head_kind h)))) (sym (length_one h p)) (one_shown C L h (head_kind h) S.sets.once (live_once s.entities S.entities.single) S.sets.alive)))
      (λ t. all_shown C L h b s.storage.layout S.layout.families S.groups)

  -- the range found shows exactly the entities that hand and bar describe
  pub range_shows : (a e : ℕ) → range_for h b s.storage ≡ found a e → Showing false C L h b a e
  range_shows a e p = subst (ShownBy C L h b) p shown

-- ---- a range is found only where 01 says so

-- a group of the family rs that the hand is equal to, and the bar's part; acc are the kinds of the group before
record FoundInFamily (h b acc : List ℕ) (rs : Family) : Type 0 where
  pub group : ℕ
  pub there : group < length rs
  pub equal : same_set h (acc ++ kinds_of (take (suc group) rs)) ≡ true
  pub new_kinds : (length b ≡ 0) ⊎ ((1 ≤ length b) × EqualNewKinds b rs group)

pub none_found : (a e : ℕ) → none ≡ found a e → ⊥
none_found a e p = let z : ◌≡◌ {A = ℕ} 0 1 = cc in omega arith

at_where : (b : List ℕ) (c : ℕ) (r : Group) (rs : Family) (a e : ℕ) → range_at b c rs ≡ found a e → (length b ≡ 0) ⊎ ((1 ≤ length b) × EqualNewKinds b (r ∷ rs) 0)
at_where [] c r rs a e p = inl refl
at_where (b₀ ∷ bs) c r [] a e p = absurd (none_found a e p)
at_where (b₀ ∷ bs) c r (q ∷ qs) a e p =
    bool_cases (same_set (b₀ ∷ bs) q.new_kinds)
    (λ t. inr (omega arith, record { there = omega arith; equal = t }))
    (λ t. absurd (none_found a e (rw t at p)))

in_where : (h b acc : List ℕ) (rs : Family) (a e : ℕ) → range_in h b acc rs ≡ found a e → FoundInFamily h b acc rs
in_where h b acc [] a e p = absurd (none_found a e p)
in_where h b acc (r ∷ rs) a e p =
    bool_cases (same_set h (acc ++ r.new_kinds))
    (λ t. record { group = 0; there = omega arith; equal = rw (append-nil r.new_kinds) t; new_kinds = at_where b r.count r rs a e (rw t at p) })
    (λ t. further (in_where h b (acc ++ r.new_kinds) rs a e (rw t at p)))
  where
    further : FoundInFamily h b (acc ++ r.new_kinds) rs → FoundInFamily h b acc (r ∷ rs)
    further f =
        record {
          group = suc f.group;
          there = omega (arith, f.there);
          equal = rw (append_assoc acc r.new_kinds (kinds_of (take (suc f.group) rs))) at f.equal;
          new_kinds = ⊎_elim (λ z. inl z) (λ z. inr (z.0, record { there = omega (arith, z.1.there); equal = z.1.equal })) f.new_kinds;
        }

record FoundInLayout (h b : List ℕ) (fs : List Family) : Type 0 where
  pub family : ℕ
  pub inside : FoundInFamily h b [] (get_or fs family [])

else_where : (P : Type 0) (p q : Range) → ((a e : ℕ) → p ≡ found a e → P) → ((a e : ℕ) → q ≡ found a e → P) → (a e : ℕ) → first_range p q ≡ found a e → P
else_where P none q f g a e x = g a e x
else_where P (found c d) q f g a e x = f c d refl

all_where : (h b : List ℕ) (fs : List Family) (a e : ℕ) → range_all h b fs ≡ found a e → FoundInLayout h b fs
all_where h b [] a e p = absurd (none_found a e p)
all_where h b (f ∷ fs) a e p =
    else_where (FoundInLayout h b (f ∷ fs)) (range_in h b [] f) (range_all h b fs)
    (λ c d x. record { family = 0; inside = in_where h b [] f c d x })
    (λ c d x. let r = all_where h b fs c d x in record { family = suc r.family; inside = r.inside })
    a e p

layout_shows : (h b : List ℕ) (fs : List Family) → FoundInLayout h b fs → Shows h b fs
layout_shows h b fs x =
    let g : EqualGroup h fs = record { family = x.family; group = x.inside.group; there = x.inside.there; equal = x.inside.equal } in
    ⊎_elim (λ z. a_group z g) (λ z. two_groups z.0 g z.1) x.inside.new_kinds

-- ---- and it is found wherever 01 says so

abbrev Found : Range → Type 0
Found none = ⊥
Found (found a e) = Unit {0}

-- the search comes to the group that the hand is equal to: no smaller one is
in_hit : (h b acc : List ℕ) (rs : Family) (j : ℕ) → Distinct (acc ++ kinds_of rs) → Rising rs → j < length rs → same_set h (acc ++ kinds_of (take (suc j) rs)) ≡ true → range_in h b acc rs ≡ range_at b (get_or rs j (new_group [])).count (drop (suc j) rs)
in_hit h b acc [] j d up lt s = absurd (omega arith)
in_hit h b acc (r ∷ rs) zero d up lt s = rw (subst (λ (l : List ℕ). same_set h (acc ++ l) ≡ true) (append-nil r.new_kinds) s)
in_hit h b acc (r ∷ []) (suc j) d up lt s = absurd (omega arith)
in_hit h b acc (r ∷ q ∷ rs) (suc j) d up lt s = rw no_match (in_hit h b (acc ++ r.new_kinds) (q ∷ rs) j (rw append_assoc d) up.1 (omega arith) s')
  where
    s' : same_set h ((acc ++ r.new_kinds) ++ kinds_of (take (suc j) (q ∷ rs))) ≡ true
    s' = rw append_assoc s

    k : ℕ
    k = head_kind q.new_kinds

    k∈q : In q.new_kinds k
    k∈q = head_in q.new_kinds up.1.0

    k∈h : In h k
    k∈h = same_from h ((acc ++ r.new_kinds) ++ kinds_of (take (suc j) (q ∷ rs))) s' k (in_right (acc ++ r.new_kinds) (kinds_of (take (suc j) (q ∷ rs))) k (in_left q.new_kinds (kinds_of (take j rs)) k k∈q))

    no_match : same_set h (acc ++ r.new_kinds) ≡ false
    no_match =
        differ_left h (acc ++ r.new_kinds) k k∈h
        (not_both (acc ++ r.new_kinds) (kinds_of (q ∷ rs)) k (distinct_apart (acc ++ r.new_kinds) (kinds_of (q ∷ rs)) (rw append_assoc d) k) (in_left q.new_kinds (kinds_of rs) k k∈q))

at_hit : (b : List ℕ) (c : ℕ) (f : Family) (j : ℕ) → (length b ≡ 0) ⊎ EqualNewKinds b f j → Found (range_at b c (drop (suc j) f))
at_hit [] c f j x = tt
at_hit (b₀ ∷ bs) c f j x = ⊎_elim (λ z. absurd (omega (arith, z))) (λ z. rw (drop-cons f (suc j) (new_group []) z.there, z.equal) tt) x

else_left : (p q : Range) → Found p → Found (first_range p q)
else_left none q x = absurd x
else_left (found a e) q x = tt

else_right : (p q : Range) → Found q → Found (first_range p q)
else_right none q x = x
else_right (found a e) q x = tt

all_hit : (h b : List ℕ) (fs : List Family) (i : ℕ) → Found (range_in h b [] (get_or fs i [])) → Found (range_all h b fs)
all_hit h b [] i x = absurd x
all_hit h b (f ∷ fs) zero x = else_left (range_in h b [] f) (range_all h b fs) x
all_hit h b (f ∷ fs) (suc i) x = else_right (range_in h b [] f) (range_all h b fs) (all_hit h b fs i x)

family_rising : (fs : List Family) → BuildableFamilies fs → (i : ℕ) → Rising (get_or fs i [])
family_rising [] B i = tt
family_rising ([] ∷ fs) B i = absurd B.0
family_rising ((r ∷ rs) ∷ fs) B zero = (omega (arith, B.0.0), B.0.1)
family_rising ((r ∷ rs) ∷ fs) B (suc i) = family_rising fs B.1 i

pub family_distinct : (fs : List Family) → Distinct (layout_kinds fs) → (i : ℕ) → Distinct (kinds_of (get_or fs i []))
family_distinct [] d i k = omega arith
family_distinct (f ∷ fs) d zero k = distinct_left (kinds_of f) (layout_kinds fs) d k
family_distinct (f ∷ fs) d (suc i) k = family_distinct fs (distinct_right (kinds_of f) (layout_kinds fs) d) i k

module _ (s : Store) (S : StoreSound s) (h b : List ℕ) where
  abbrev F : List Family
  F = s.storage.layout

  hit : (g : EqualGroup h F) → (length b ≡ 0) ⊎ EqualNewKinds b (get_or F g.family []) g.group → Found (range_all h b F)
  hit g x =
      all_hit h b F g.family
      (rw (in_hit h b [] (get_or F g.family []) g.group (family_distinct F S.layout.once g.family) (family_rising F S.layout.families g.family) g.there g.equal)
      (at_hit b (get_or (get_or F g.family []) g.group (new_group [])).count (get_or F g.family []) g.group x))

  searched : Found (range_all h b F) → Found (range_for h b s.storage)
  unfolding range_for
  searched x = cond_case Found (single h b) _ _ (λ t. tt) (λ t. x)

  shows_found : Shows h b F → Found (range_for h b s.storage)
  unfolding range_for
  shows_found (one_kind p q) = rw (eq-eqb (length h) 1 p, eq-eqb (length b) 0 q) tt
  shows_found (a_group p g) = searched (hit g (inl p))
  shows_found (two_groups p g q) = searched (hit g (inr q))

  pub range_where : (a e : ℕ) → range_for h b s.storage ≡ found a e → Shows h b F
  unfolding range_for
  range_where a e p =
      bool_cases (single h b)
      (λ t. one_kind (eqb-true (length h) 1 (and_left (eqb (length h) 1) (eqb (length b) 0) t)) (eqb-true (length b) 0 (and_right (eqb (length h) 1) (eqb (length b) 0) t)))
      (λ t. layout_shows h b F (all_where h b F a e (rw t at p)))

  not_none : (r : Range) → Found r → r ≡ none → ⊥
  not_none none f e = f
  not_none (found a e') f e = none_found a e' (sym e)

  -- none exactly where 01 says none
  pub range_none : (range_for h b s.storage ≡ none) ↔ (Shows h b F → ⊥)
  range_none = ((λ e w. not_none (range_for h b s.storage) (shows_found w) e), (λ f. go (range_for h b s.storage) (λ a e p. f (range_where a e p))))
    where
      go : (r : Range) → ((a e : ℕ) → r ≡ found a e → ⊥) → r ≡ none
      go none f = refl
      go (found a e) f = absurd (f a e refl)

-- ---- the values at a range's places are those of the entities there, since an entity stands once in a sparse set

map_part : {A B : Type 0} (f : A → B) (a e : ℕ) (l : List A) → map f (part a e l) ≡ part a e (map f l)
map_part f a e l = map_drop f a (take e l) ∙ ap (drop a) (map_take f e l)

module _ (rows : SparseSet) (once : (x : Entity) → cnt x (keys rows) ≤ 1) where
  row_held : (i : ℕ) → i < length rows → value_at (entity_of (get_or rows i no_row)) rows ≡ some (row_value (get_or rows i no_row))
  row_held i h =
      let x : Entity = entity_of (get_or rows i no_row) in
      let there : at x rows ≡ i = place_once same_entity entity_same no_entity x (keys rows) (once x) i (rw (length-map rows entity_of) h) (get_or-map entity_of rows i no_row) in
      rw (there, lt-ltb i (length rows) h)

  -- the entities from a to e hold the values from a to e
  pub rows_hold : (a e : ℕ) → Hold rows (part a e (keys rows)) (part a e (map row_value rows))
  rows_hold a e =
      map_part (λ (x : Entity). value_at x rows) a e (keys rows)
      ∙ ap (part a e) (map-map (λ (x : Entity). value_at x rows) entity_of rows ∙ map_at (λ (r : Row). value_at (entity_of r) rows) (λ (r : Row). some (row_value r)) no_row rows row_held ∙ sym (map-map {C = Option ℕ} some row_value rows))
      ∙ sym (map_part {B = Option ℕ} some a e (map row_value rows))
