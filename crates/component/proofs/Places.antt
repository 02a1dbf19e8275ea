-- Where the model finds an entity among rows, and what that says of a search, an insertion and a removal. Assumes nothing.
use mathlib.Core.Path.{◌≡◌, sym, ap, ◌∙◌}
use mathlib.Core.Logic.{◌≢◌}
use mathlib.Core.Bool.{true, false, true≢false}
use mathlib.Core.List.{List, [], ◌∷◌, ◌++◌}
use Prim.Native.Nat.{ℕ, ◌≤◌, ◌<◌}
use native.Mathlib.Omega.{arith}
use native.Mathlib.Decide.{dec_lt}
use borrow.Author.Tests.{ltb-true, lt-ltb, le-ltb}
use lib.ListN.{length, get_or, length-map, get_or-map}
use Rattle.model.specs.Lists.{cut_at}
use Rattle.model.proofs.ListLaws.{get_d_place, place_first}
use Rattle.model.specs.Model.{Entity, SparseSet, same_entity, no_entity, no_row, keys, entity_of, at, held, insert_row, remove_row, swap_to, entity}
use Rattle.model.proofs.SparseSets.{entity_eq, entity_same}
use Rattle.words.specs.declared.Shape.{Shape}
use Rattle.words.specs.declared.Found.TheVariants as found
use Rattle.component.specs.SparseSet.{length_of, index_at, version_at, place_of, held_of, rows, ColumnSound}
use Rattle.component.specs.Stored.{Current, swap_rows, Absent, valued}
use Rattle.component.specs.Answers.{HeldAt, Finds}
use Rattle.component.proofs.Meaning.{length_rows, get_d_rows, rows_apart}

-- ---- the model's place of an entity

pub at_le : (e : Entity) (rs : SparseSet) (i : ℕ) → i < length rs → (get_or rs i no_row).entity ≡ e → at e rs ≤ i
at_le e rs i h q = place_first same_entity entity_same no_entity e (keys rs) i (rw (length-map rs entity_of) h) (get_or-map entity_of rs i no_row ∙ q)

pub at_entity : (e : Entity) (rs : SparseSet) → at e rs < length rs → (get_or rs (at e rs) no_row).entity ≡ e
at_entity e rs h =
    sym (get_or-map entity_of rs (at e rs) no_row)
    ∙ get_d_place same_entity entity_eq e no_entity (keys rs) (omega (arith, length-map rs entity_of))

module _ (e : Entity) (rs : SparseSet) where
  -- a row of the entity, and no earlier one
  pub held_first : (p : ℕ) → p < length rs → (get_or rs p no_row).entity ≡ e → ((i : ℕ) → i < p → (get_or rs i no_row).entity ≢ e) → p ≡ at e rs
  held_first p h q f =
      elim (dec_lt (at e rs) p) [
        | yes l ↦ absurd (f (at e rs) l (at_entity e rs (omega arith)))
        | no l ↦ omega (arith, at_le e rs p h q)
      ]

  pub held_some : (i : ℕ) → i < length rs → (get_or rs i no_row).entity ≡ e → held e rs ≡ true
  held_some i h q = lt-ltb (at e rs) (length rs) (omega (arith, at_le e rs i h q))

  pub held_none : ((i : ℕ) → i < length rs → (get_or rs i no_row).entity ≢ e) → held e rs ≡ false
  held_none f =
      elim (dec_lt (at e rs) (length rs)) [
        | yes l ↦ absurd (f (at e rs) l (at_entity e rs l))
        | no l ↦ le-ltb (at e rs) (length rs) (omega arith)
      ]

-- ---- a search in sound words

module _ (z : Shape) (w : List ℕ) (s : ColumnSound z w) (x v : ℕ) where
  -- a row that is the entity's
  of_entity : (i : ℕ) → i < length_of w → (get_or (rows z w) i no_row).entity ≡ entity x v → (index_at w i ≡ x) × (version_at w i ≡ v)
  of_entity i h q =
      let r = ap entity_of (get_d_rows z w i h) in (
        ap (λ (d : Entity). d.index) (sym r ∙ q),
        ap (λ (d : Entity). d.version) (sym r ∙ q),
      )

  pub finds_at : x < z.capacity → 1 ≤ v → held_of z w x ≡ v → Finds z (entity x v) (rows z w) (found.At (place_of z w x))
  finds_at hx hv e =
      let L = s.linked in
      let h : 1 ≤ held_of z w x = omega arith in
      let k = place_of z w x in
      let p : k < length_of w = L.inside x hx h in
      let b : index_at w k ≡ x = L.back x hx h in
      let c : version_at w k ≡ v = sym (L.tied k p).agreed ∙ ap (held_of z w) b ∙ e in
      let i : k < length (rows z w) = omega (arith, length_rows z w) in
      let q : (get_or (rows z w) k no_row).entity ≡ entity x v = ap entity_of (get_d_rows z w k p) ∙ (λ j. entity (b j) (c j)) in
      record {
        holds = held_some (entity x v) (rows z w) k i q;
        place =
            held_first (entity x v) (rows z w) k i q
            (λ j hj y. rows_apart z w s j k (omega arith) p (omega arith) ((of_entity j (omega arith) y).0 ∙ sym b));
        inside = i;
        below = omega (arith, L.room);
      }

  -- a row of the entity would have its index held
  finds_none : ((i : ℕ) → i < length_of w → index_at w i ≡ x → version_at w i ≡ v → ⊥) → Finds z (entity x v) (rows z w) found.Nothing
  finds_none f =
      held_none (entity x v) (rows z w)
      (λ i hi q. let h : i < length_of w = omega (arith, length_rows z w) in let y = of_entity i h q in f i h y.0 y.1)

  pub finds_beyond : z.capacity ≤ x → Finds z (entity x v) (rows z w) found.Nothing
  finds_beyond h = finds_none (λ i hi ei ev. omega (arith, (s.linked.tied i hi).below))

  pub finds_unissued : v ≡ 0 → Finds z (entity x v) (rows z w) found.Nothing
  finds_unissued h = finds_none (λ i hi ei ev. omega (arith, (s.linked.tied i hi).issued))

  pub finds_nothing : (held_of z w x ≡ v → ⊥) → Finds z (entity x v) (rows z w) found.Nothing
  finds_nothing ne = finds_none (λ i hi ei ev. ne (ap (held_of z w) (sym ei) ∙ (s.linked.tied i hi).agreed ∙ ev))

  -- where it was found
  pub held_at : (p : ℕ) → HeldAt z (entity x v) (rows z w) p → (p < length_of w) × (index_at w p ≡ x) × (version_at w p ≡ v)
  held_at p f =
      let h : p < length_of w = omega (arith, f.inside, length_rows z w) in
      let q = ap (λ (i : ℕ). (get_or (rows z w) i no_row).entity) f.place ∙ at_entity (entity x v) (rows z w) (ltb-true _ _ f.holds) in
      let r = of_entity p h q in
      (h, r.0, r.1)

-- ---- the model's operations, where a search found the entity at p and where it found none

module _ (z : Shape) (e : Entity) (rs : SparseSet) where
  module _ (p : ℕ) (f : HeldAt z e rs p) where
    pub insert_held : (v : ℕ) → valued p v rs ≡ insert_row e v rs
    insert_held v =
        let q : (get_or rs p no_row).entity ≡ e = ap (λ (i : ℕ). (get_or rs i no_row).entity) f.place ∙ at_entity e rs (ltb-true _ _ f.holds) in
        rw (f.holds, q, f.place)

    pub remove_held : cut_at no_row p rs ≡ remove_row e rs
    remove_held = rw (f.holds, f.place)

    pub swap_held : (c : ℕ) → swap_rows p c rs ≡ swap_to e c rs
    swap_held c = ap (λ (i : ℕ). swap_rows i c rs) f.place

  pub insert_free : held e rs ≡ false → (v : ℕ) → rs ++ (record { entity = e; value = v } ∷ []) ≡ insert_row e v rs
  insert_free f v = rw f

-- an entity that is not held, while its index has no other version
pub absent : (x v : ℕ) (rs : SparseSet) → Current x v rs → held (entity x v) rs ≡ false → Absent x rs
absent x v rs c f i hi q =
    let q' = c i hi q in
    true≢false (sym (held_some (entity x v) rs i hi (λ j. entity (q j) (q' j))) ∙ f)
