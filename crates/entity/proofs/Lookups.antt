-- What the lookups say of the live list. Assumes nothing.
use mathlib.Core.Path.{◌≡◌, refl, sym, ap, ◌∙◌}
use mathlib.Core.Logic.{◌≢◌}
use mathlib.Core.Bool.{Bool, true, false}
use mathlib.Core.List.{List, [], ◌∷◌}
use Prim.Native.Nat.{ℕ, zero, suc, ◌≤◌, ◌<◌}
use native.Mathlib.Omega.{arith}
use native.Mathlib.Nat.{not-suc-le-zero, le_of_suc-le-suc}
use native.Mathlib.Decide.{dec_le}
use borrow.Author.Tests.{lt-ltb, ltb-true, eq-eqb, ne_eqb}
use lib.ListN.{length, get_or}
use Rattle.model.specs.Lists.{place, after}
use Rattle.model.proofs.ListLaws.{get_d_place}
use Rattle.model.specs.Model.{Entity, Entities, no_entity, same_entity, is_live, entity}
use Rattle.model.specs.Snapshot.{live_version as version_in}
use Rattle.model.proofs.SparseSets.{entity_eq, entity_same}
use Rattle.model.proofs.BoolLaws.{bool_cases}
use Rattle.words.proofs.Tables.{length_table, get_d_table}
use Rattle.words.specs.declared.Found.TheVariants.{At, Nothing}
use Rattle.entity.specs.Meaning.{EntityPartSound, entities_of, entity_at, waiting_at, len_of, issued_of, recycled_len, live_index_at, live_version_at, place_of, held_of}
use Rattle.entity.specs.Answers.{found_of, pick_found}

same_other : (a b : Entity) → b ≢ a → same_entity a b ≡ false
same_other a b ne = bool_cases (same_entity a b) (λ t. absurd (ne (sym (entity_eq a b t)))) (λ t. t)

-- an entity's place is the first that has it
pub place_at : (e : Entity) (l : List Entity) (p : ℕ) → p < length l → get_or l p no_entity ≡ e → ((i : ℕ) → i < p → get_or l i no_entity ≢ e) → place same_entity e l ≡ p
place_at e [] p h g f = absurd (not-suc-le-zero h)
place_at e (y ∷ l) zero h g f = rw g (ap (λ (b : Bool). after b (place same_entity e l)) (entity_same e))
place_at e (y ∷ l) (suc p) h g f =
    rw (same_other e y (f 0 (omega arith)))
    (ap suc (place_at e l p (le_of_suc-le-suc h) g (λ i hi. f (suc i) (omega arith))))

-- an entity that no place has is not live
pub not_live : (e : Entity) (s : Entities) → ((i : ℕ) → i < length s.live → get_or s.live i no_entity ≢ e) → is_live e s ≡ false
not_live e s f =
    bool_cases (is_live e s)
    (λ t. let h = ltb-true (place same_entity e s.live) (length s.live) t in absurd (f _ h (get_d_place same_entity entity_eq e no_entity s.live h)))
    (λ t. t)

version_at_law : (x : ℕ) (l : List Entity) (p : ℕ) → p < length l → (get_or l p no_entity).index ≡ x → ((i : ℕ) → i < p → (get_or l i no_entity).index ≢ x) → version_in x l ≡ (get_or l p no_entity).version
version_at_law x [] p h g f = absurd (not-suc-le-zero h)
version_at_law x (y ∷ l) zero h g f = rw (eq-eqb x y.index (sym g))
version_at_law x (y ∷ l) (suc p) h g f =
    rw (ne_eqb x y.index (λ e. f 0 (omega arith) (sym e)))
    (version_at_law x l p (le_of_suc-le-suc h) g (λ i hi. f (suc i) (omega arith)))

version_none : (x : ℕ) (l : List Entity) → ((i : ℕ) → i < length l → (get_or l i no_entity).index ≢ x) → version_in x l ≡ 0
version_none x [] f = refl
version_none x (y ∷ l) f = rw (ne_eqb x y.index (λ e. f 0 (omega arith) (sym e))) (version_none x l (λ i hi. f (suc i) (omega arith)))

module _ (n : ℕ) (w : List ℕ) where
  pub length_live : length (entities_of n w).live ≡ len_of w
  unfolding entities_of
  length_live = length_table (len_of w) (entity_at w)

  pub get_d_live : (i : ℕ) → i < len_of w → get_or (entities_of n w).live i no_entity ≡ entity_at w i
  unfolding entities_of
  get_d_live i h = get_d_table (len_of w) (entity_at w) i no_entity h

  pub length_recycled : length (entities_of n w).recycled ≡ recycled_len w
  unfolding entities_of
  length_recycled = length_table (recycled_len w) (waiting_at n w)

  pub get_d_recycled : (j : ℕ) → j < recycled_len w → get_or (entities_of n w).recycled j no_entity ≡ waiting_at n w j
  unfolding entities_of
  get_d_recycled j h = get_d_table (recycled_len w) (waiting_at n w) j no_entity h

  pub issued_is : (entities_of n w).issued ≡ issued_of w
  unfolding entities_of
  issued_is = refl

  -- the live list is no longer than there is room for
  pub live_most : EntityPartSound n w → length (entities_of n w).live ≤ n
  live_most s = omega (arith, length_live, s.linked.room)

  module _ (s : EntityPartSound n w) where
    -- the live list's place i with index x is what x's lookup says
    looked_up : (i x : ℕ) → i < length (entities_of n w).live → (get_or (entities_of n w).live i no_entity).index ≡ x → (place_of n w x ≡ i) × (held_of n w x ≡ live_version_at w i) × (1 ≤ live_version_at w i)
    looked_up i x hi e =
        let h : i < len_of w = omega (arith, length_live) in
        let ix : live_index_at w i ≡ x = sym (ap (λ (q : Entity). q.index) (get_d_live i h)) ∙ e in
        let t = s.linked.tied i h in
        (ap (place_of n w) (sym ix) ∙ t.placed, ap (held_of n w) (sym ix) ∙ t.agreed, t.issued)

    module _ (x : ℕ) (hx : x < n) (hh : 1 ≤ held_of n w x) where
      pub place_inside : place_of n w x < len_of w
      place_inside = s.linked.inside x hx hh

      place_within : place_of n w x < length (entities_of n w).live
      place_within = omega (arith, length_live, place_inside)

      index_there : (get_or (entities_of n w).live (place_of n w x) no_entity).index ≡ x
      index_there = ap (λ (q : Entity). q.index) (get_d_live (place_of n w x) place_inside) ∙ s.linked.back x hx hh

      version_there : (get_or (entities_of n w).live (place_of n w x) no_entity).version ≡ held_of n w x
      version_there =
          ap (λ (q : Entity). q.version) (get_d_live (place_of n w x) place_inside)
          ∙ sym (s.linked.tied (place_of n w x) place_inside).agreed
          ∙ ap (held_of n w) (s.linked.back x hx hh)

      first_there : (i : ℕ) → i < place_of n w x → (get_or (entities_of n w).live i no_entity).index ≢ x
      first_there i hi e = omega (arith, (looked_up i x (omega (arith, place_within)) e).0)

      -- a live index's lookup: the model's place
      pub place_is : place same_entity (entity x (held_of n w x)) (entities_of n w).live ≡ place_of n w x
      place_is =
          place_at (entity x (held_of n w x)) (entities_of n w).live (place_of n w x) place_within
          (λ i. record { index = index_there i; version = version_there i })
          (λ i hi e. first_there i hi (ap (λ (q : Entity). q.index) e))

      pub live_there : is_live (entity x (held_of n w x)) (entities_of n w) ≡ true
      live_there = lt-ltb (place same_entity (entity x (held_of n w x)) (entities_of n w).live) (length (entities_of n w).live) (rw place_is place_within)

    -- a lookup with equal version finds
    pub found_at : (x v : ℕ) → x < n → 1 ≤ v → held_of n w x ≡ v → At (place_of n w x) ≡ found_of (entity x v) (entities_of n w)
    found_at x v hx hv e =
        rw (← e)
        (let h : 1 ≤ held_of n w x = omega arith in
        sym (ap (λ (b : Bool). pick_found b (place same_entity (entity x (held_of n w x)) (entities_of n w).live)) (live_there x hx h) ∙ ap At (place_is x hx h)))

    -- and finds nothing where no live entity has the index and the version
    pub found_nothing : (x v : ℕ) → (x < n → 1 ≤ v → held_of n w x ≡ v → ⊥) → Nothing ≡ found_of (entity x v) (entities_of n w)
    found_nothing x v f =
        let no =
        not_live (entity x v) (entities_of n w)
        (λ i hi e.
        let h : i < len_of w = omega (arith, length_live) in
        let q = sym (get_d_live i h) ∙ e in
        let ix : live_index_at w i ≡ x = ap (λ (u : Entity). u.index) q in
        let vx : live_version_at w i ≡ v = ap (λ (u : Entity). u.version) q in
        let t = s.linked.tied i h in
        f (rw ix at t.below) (rw vx at t.issued) (ap (held_of n w) (sym ix) ∙ t.agreed ∙ vx)) in
        sym (ap (λ (b : Bool). pick_found b (place same_entity (entity x v) (entities_of n w).live)) no)

    -- the version of a lookup is the model's
    pub version_is : (x : ℕ) → x < n → held_of n w x ≡ version_in x (entities_of n w).live
    version_is x hx =
        elim (dec_le 1 (held_of n w x)) [
          | yes h ↦ sym (version_at_law x (entities_of n w).live (place_of n w x) (place_within x hx h) (index_there x hx h) (first_there x hx h) ∙ version_there x hx h)
          | no h ↦
              let z : held_of n w x ≡ 0 = omega arith in
              z ∙ sym (version_none x (entities_of n w).live (λ i hi e. let t = looked_up i x hi e in omega (arith, t.1, t.2)))
        ]

-- what an answer says
pub found_live : (e : Entity) (s : Entities) (p : ℕ) → found_of e s ≡ At p → (is_live e s ≡ true) × (place same_entity e s.live ≡ p)
found_live e s p = go (is_live e s) refl
  where
    go : (b : Bool) → is_live e s ≡ b → pick_found b (place same_entity e s.live) ≡ At p → (is_live e s ≡ true) × (place same_entity e s.live ≡ p)
    go true q h = (q, cc)
    go false q h = absurd (let z : ◌≡◌ {A = ℕ} 0 1 = cc in omega arith)

pub found_dead : (e : Entity) (s : Entities) → found_of e s ≡ Nothing → is_live e s ≡ false
found_dead e s = go (is_live e s) refl
  where
    go : (b : Bool) → is_live e s ≡ b → pick_found b (place same_entity e s.live) ≡ Nothing → is_live e s ≡ false
    go true q h = absurd (let z : ◌≡◌ {A = ℕ} 0 1 = cc in omega arith)
    go false q h = q

-- a place that is found is in the live list, and has the index
pub found_place : (n : ℕ) (w : List ℕ) (x v p : ℕ) → found_of (entity x v) (entities_of n w) ≡ At p → (p < len_of w) × (live_index_at w p ≡ x)
found_place n w x v p f =
    let l = (entities_of n w).live in
    let q = found_live (entity x v) (entities_of n w) p f in
    let b = ltb-true (place same_entity (entity x v) l) (length l) q.0 in
    let h : p < len_of w = omega (arith, q.1, length_live n w) in
    let g : get_or l p no_entity ≡ entity x v = ap (λ (k : ℕ). get_or l k no_entity) (sym q.1) ∙ get_d_place same_entity entity_eq (entity x v) no_entity l b in
    (h, ap (λ (e : Entity). e.index) (sym (get_d_live n w p h) ∙ g))
