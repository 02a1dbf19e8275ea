-- The two rules of RANGE (02, No. 8), from what is proved of 01's range: where each finds one, what it shows, and what the bytes of the answer tell.
-- Assumes nothing.
use mathlib.Core.Path.{◌≡◌, refl, ap, sym, ◌∙◌, subst}
use mathlib.Core.Logic.{◌↔◌, inl, inr}
use mathlib.Core.Bool.{Bool, true, false, cond, ◌&&◌, ◌||◌}
use mathlib.Core.List.{List, [], ◌∷◌}
use Prim.Native.Nat.{ℕ, zero, suc, ◌+◌, ◌≤◌}
use native.Mathlib.Omega.{arith}
use borrow.Author.Tests.{le-ltb, ltb-false}
use lib.Dec.{ltb}
use lib.ListN.{length, get_or, take, drop}
use Rattle.model.specs.Numbers.{MAX_ENTITIES}
use Rattle.model.specs.Model.{Entity, SparseSet, Family, Storage, Range, none, found, same_entity, any_of, set_of, held, all_held, kinds_of, new_group, range_for, range_under}
use Rattle.model.specs.Store.{Settings, Store, bytes_of, number, staged_kinds}
use Rattle.model.specs.Commands.{RANGE, range_bytes, accepted}
use Rattle.model.specs.Sound.{cnt, In, key, Distinct, holders, StoreSound}
use Rattle.model.specs.Shown.{lacking, lacking_all, AllAndNone, described, Showing, EqualGroup, EqualNewKinds, Shows, one_kind, a_group, two_groups, OneNewKind, ShowsUnder, found_in, start_in, end_in, RangeAnswer}
use Rattle.model.proofs.ListLaws.{count_left_out, count_length_le}
use Rattle.model.proofs.BoolLaws.{bool_cases, cond_case}
use Rattle.model.proofs.SparseSets.{entity_eq, entity_same}
use Rattle.model.proofs.KindLists.{same_length, distinct_left, distinct_right}
use Rattle.model.proofs.Invariant.{holders_count}
use Rattle.model.proofs.Numbers.{live_few}
use Rattle.model.proofs.Operations.{sound_held}
use Rattle.model.proofs.Encoding.{number_bytes}
use Rattle.model.proofs.Ranges.{range_shows, range_where, range_none, family_distinct, none_found}

-- ---- 01's range

-- "Stores under the older rule keep 01's reading"
pub older_range : (h b : List ℕ) (p : Storage) → range_under false h b p ≡ range_for h b p
older_range h b p = refl

-- with a bar of one kind, or with none, both find it
pub one_under : (newer : Bool) (h b : List ℕ) (p : Storage) → length b ≤ 1 → range_under newer h b p ≡ range_for h b p
one_under false h b p le = refl
one_under true h b p le = ap (λ (t : Bool). cond t none (range_for h b p)) (le-ltb 1 (length b) le)

-- a range that may be hidden: one that is found is not
not_hidden : (t : Bool) (r : Range) (a e : ℕ) → cond t none r ≡ found a e → (t ≡ false) × (r ≡ found a e)
not_hidden true r a e q = absurd (none_found a e q)
not_hidden false r a e q = (refl, q)

-- what is found under either is 01's
pub under_range : (newer : Bool) (h b : List ℕ) (p : Storage) (a e : ℕ) → range_under newer h b p ≡ found a e → range_for h b p ≡ found a e
under_range newer h b p a e q = (not_hidden (newer && ltb 1 (length b)) (range_for h b p) a e q).1

-- ---- a bar of one kind: to lack one or more of it is to have none of it

one_lacking : (k : ℕ) (sets : List SparseSet) (l : List Entity) → lacking (k ∷ []) sets l ≡ lacking_all (k ∷ []) sets l
one_lacking k sets [] = refl
one_lacking k sets (e ∷ l) = go (held e (set_of sets k)) (one_lacking k sets l)
  where
    go : (b : Bool) → lacking (k ∷ []) sets l ≡ lacking_all (k ∷ []) sets l → cond (b && true) (lacking (k ∷ []) sets l) (e ∷ lacking (k ∷ []) sets l) ≡ cond (b || false) (lacking_all (k ∷ []) sets l) (e ∷ lacking_all (k ∷ []) sets l)
    go true r = r
    go false r = ap {B = List Entity} (λ m. e ∷ m) r

-- both rules describe the same entities by a bar of one kind, or none
one_described : (h b : List ℕ) (sets : List SparseSet) (live : List Entity) → length b ≤ 1 → described false h b sets live ≡ described true h b sets live
one_described h [] sets live le = refl
one_described h (k ∷ []) sets live le = one_lacking k sets (holders h sets live)
one_described h (k ∷ j ∷ b) sets live le = absurd (omega arith)

one_showing : (sets : List SparseSet) (live : List Entity) (h b : List ℕ) (a e : ℕ) → length b ≤ 1 → Showing false sets live h b a e → Showing true sets live h b a e
one_showing sets live h b a e le W =
    let d : described false h b sets live ≡ described true h b sets live = one_described h b sets live le in
    record {
      start = subst (λ (l : List Entity). a + length l ≡ e) d W.start;
      end = W.end;
      places = W.places;
      aligned = W.aligned;
      exact = λ k i x. W.exact k i x ∙ ap (cnt x) d;
      once = W.once;
    }

-- ---- whom the newer rule describes

all_lacking_count : (b : List ℕ) (sets : List SparseSet) (l : List Entity) (x : Entity) → cnt x (lacking_all b sets l) ≡ cond (any_of (λ k. held x (set_of sets k)) b) 0 (cnt x l)
all_lacking_count b sets l x = count_left_out same_entity entity_eq (λ e. any_of (λ k. held e (set_of sets k)) b) (lacking_all b sets) refl (λ e r. refl) l x

newer_count : (h b : List ℕ) (sets : List SparseSet) (live : List Entity) (x : Entity) → cnt x (described true h b sets live) ≡ cond (any_of (λ k. held x (set_of sets k)) b) 0 (cnt x (holders h sets live))
newer_count h [] sets live x = refl
newer_count h (k ∷ b) sets live x = all_lacking_count (k ∷ b) sets (holders h sets live) x

-- exactly the live entities with all of the hand and none of the barred
pub newer_describes : (h b : List ℕ) (sets : List SparseSet) (live : List Entity) (x : Entity) → (1 ≤ cnt x (described true h b sets live)) ↔ AllAndNone sets live h b x
newer_describes h b sets live x =
    let c = newer_count h b sets live x in
    let d = holders_count h sets live x in (
      (λ l.
          bool_cases (any_of (λ k. held x (set_of sets k)) b)
          (λ t. absurd (omega (arith, l, rw t at c)))
          (λ t. bool_cases (all_held x h sets)
          (λ u. record { alive = omega (arith, l, rw t at c, rw u at d); all_staged = u; none_excluded = t })
          (λ u. absurd (omega (arith, l, rw t at c, rw u at d))))),
      (λ A. let e = rw A.none_excluded at c in let f = rw A.all_staged at d in omega (arith, e, f, A.alive)),
    )

-- and they are who stands in a range that shows, in each sparse set of the hand
pub newer_exactly : (sets : List SparseSet) (live : List Entity) (h b : List ℕ) (a e : ℕ) → Showing true sets live h b a e → (k : ℕ) → In h k → (x : Entity) → (1 ≤ cnt x (drop a (take e (key sets k)))) ↔ AllAndNone sets live h b x
newer_exactly sets live h b a e W k i x =
    let d = newer_describes h b sets live x in
    ((λ l. d.0 (omega (arith, l, W.exact k i x))), (λ A. omega (arith, d.1 A, W.exact k i x)))

-- ---- the new kinds of a group of a family

new_kinds_distinct : (f : Family) → Distinct (kinds_of f) → (j : ℕ) → Distinct (get_or f j (new_group [])).new_kinds
new_kinds_distinct [] d j = λ k. omega arith
new_kinds_distinct (r ∷ f) d zero = distinct_left r.new_kinds (kinds_of f) d
new_kinds_distinct (r ∷ f) d (suc j) = new_kinds_distinct f (distinct_right r.new_kinds (kinds_of f) d) j

-- ---- where a range is found, and what it shows

module _ (s : Store) (S : StoreSound s) (h b : List ℕ) (once : Distinct b) where
  abbrev F : List Family
  F = s.storage.layout

  -- the excluded kinds are as many as the new kinds that they are equal to
  excluded_length : (g : EqualGroup h F) → EqualNewKinds b (get_or F g.family []) g.group → length b ≡ length (get_or (get_or F g.family []) (suc g.group) (new_group [])).new_kinds
  excluded_length g e =
      same_length b (get_or (get_or F g.family []) (suc g.group) (new_group [])).new_kinds once
      (new_kinds_distinct (get_or F g.family []) (family_distinct F S.layout.once g.family) (suc g.group)) e.equal

  -- where 01 finds one, the larger group has one new kind exactly if one kind at most is excluded
  one_new_kind : (w : Shows h b F) → OneNewKind h b F w ↔ (length b ≤ 1)
  one_new_kind (one_kind p q) = ((λ z. omega (arith, q)), (λ z. tt))
  one_new_kind (a_group p g) = ((λ z. omega (arith, p)), (λ z. tt))
  one_new_kind (two_groups p g e) = ((λ z. omega (arith, excluded_length g e, z)), (λ z. omega (arith, excluded_length g e, p, z)))

  -- how many are excluded where the newer rule finds one
  passes : (a e : ℕ) → range_under true h b s.storage ≡ found a e → length b ≤ 1
  passes a e p = ltb-false 1 (length b) (not_hidden (ltb 1 (length b)) (range_for h b s.storage) a e p).0

  -- found only where the rule says so
  pub under_where : (newer : Bool) (a e : ℕ) → range_under newer h b s.storage ≡ found a e → ShowsUnder newer h b F
  under_where false a e p = range_where s S h b a e p
  under_where true a e p =
      let w : Shows h b F = range_where s S h b a e (under_range true h b s.storage a e p) in
      record { shows = w; one = (one_new_kind w).1 (passes a e p) }

  -- none exactly where it says none
  pub under_none : (newer : Bool) → (range_under newer h b s.storage ≡ none) ↔ (ShowsUnder newer h b F → ⊥)
  under_none false = range_none s S h b
  under_none true = (
    (λ e w. (range_none s S h b).0 (sym (one_under true h b s.storage ((one_new_kind w.shows).0 w.one)) ∙ e) w.shows),
    (λ f. bool_cases (ltb 1 (length b)) (λ t. ap (λ (x : Bool). cond x none (range_for h b s.storage)) t) (λ t.
        let le : length b ≤ 1 = ltb-false 1 (length b) t in
        one_under true h b s.storage le ∙ (range_none s S h b).1 (λ w. f (record { shows = w; one = (one_new_kind w).1 le })))),
  )

  -- what is found shows exactly the entities that hand and bar describe under the rule
  pub under_shows : (newer : Bool) (a e : ℕ) → range_under newer h b s.storage ≡ found a e → Showing newer s.storage.sets s.entities.live h b a e
  under_shows false a e p = range_shows s S h b a e p
  under_shows true a e p = one_showing s.storage.sets s.entities.live h b a e (passes a e p) (range_shows s S h b a e (under_range true h b s.storage a e p))

-- ---- the answer: its bytes tell the range that was found

-- RANGE's answer, after its 0 byte, in a sound store
pub range_answer : (s : Store) → StoreSound s → RangeAnswer (staged_kinds s) s.control.excluded s (0 ∷ (accepted RANGE s).answer)
unfolding accepted
range_answer s S = go (range_under newer h b s.storage) refl
  where
    newer : Bool
    newer = s.settings.newer

    h : List ℕ
    h = staged_kinds s

    b : List ℕ
    b = s.control.excluded

    once : Distinct b
    once = S.excluded.once

    -- no more hold the hand than are live
    few : length (holders h s.storage.sets s.entities.live) ≤ MAX_ENTITIES
    few =
        let all : (x : Entity) → cnt x (holders h s.storage.sets s.entities.live) ≤ cnt x s.entities.live =
        λ x. rw (holders_count h s.storage.sets s.entities.live x) (cond_case (λ (n : ℕ). n ≤ cnt x s.entities.live) (all_held x h s.storage.sets) _ _ (λ t. omega arith) (λ t. omega arith)) in
        omega (arith, count_length_le same_entity entity_eq entity_same (holders h s.storage.sets s.entities.live) s.entities.live all, live_few s.entities (sound_held s S).numbers, S.entities.few, S.limits.most)

    go : (r : Range) → range_under newer h b s.storage ≡ r → RangeAnswer h b s (0 ∷ range_bytes r)
    go none p =
        record {
          size = refl;
          either = inr refl;
          found = ((λ z. absurd (omega (arith, z))), (λ w. absurd ((under_none s S h b once newer).0 p w)));
          shows = λ z. absurd (omega (arith, z));
        }
    go (found a e) p =
        let W : Showing newer s.storage.sets s.entities.live h b a e = under_shows s S h b once newer a e p in
        let starts : number (bytes_of 4 a) ≡ a = number_bytes 4 a (omega (arith, W.start, W.end, few)) in
        let ends : number (bytes_of 4 e) ≡ e = number_bytes 4 e (omega (arith, W.end, few)) in
        record {
          size = refl;
          either = inl (rw (starts, ends) refl);
          found = ((λ z. under_where s S h b once newer a e p), (λ w. refl));
          shows = λ z. rw (starts, ends) W;
        }

-- and in every other store with the same rule, components, groups and live entities
pub range_stays : (h b : List ℕ) (s s' : Store) (bytes : List ℕ) → s.settings ≡ s'.settings → s.storage ≡ s'.storage → s.entities.live ≡ s'.entities.live → RangeAnswer h b s bytes → RangeAnswer h b s' bytes
range_stays h b s s' bytes r p q A =
    record {
      size = A.size;
      either = A.either;
      found = subst (λ (c : Settings). (found_in bytes ≡ 1) ↔ ShowsUnder c.newer h b s'.storage.layout) r (subst (λ (c : Storage). (found_in bytes ≡ 1) ↔ ShowsUnder s.settings.newer h b c.layout) p A.found);
      shows =
          λ f.
          subst (λ (c : Settings). Showing c.newer s'.storage.sets s'.entities.live h b (start_in bytes) (end_in bytes)) r
          (subst (λ (l : List Entity). Showing s.settings.newer s'.storage.sets l h b (start_in bytes) (end_in bytes)) q
          (subst (λ (c : Storage). Showing s.settings.newer c.sets s.entities.live h b (start_in bytes) (end_in bytes)) p (A.shows f)));
    }
