-- The loop that puts the staged components in, one kind after another. Assumes nothing.
use mathlib.Core.Path.{◌≡◌, refl, ap, sym, ◌∙◌, subst}
use mathlib.Core.List.{List, [], ◌∷◌, ◌++◌}
use Prim.Native.Nat.{ℕ, ◌+◌, ◌≤◌, ◌<◌}
use native.Mathlib.Omega.{arith}
use native.Mathlib.Numerals.{add-one}
use native.Mathlib.Decide.{dec_lt}
use borrow.Author.Tests.{ltb-true}
use lib.ListN.{length, get_or, set, take, length-set, length-append, get_or-append}
use lib.Seq.{get_or-set_same, get_or-set_other, set_out, take_all, take-suc, get_or_at}
use Rattle.model.specs.Model.{Entity, Row, Component, SparseSet, Storage, no_row, set_of, at, held, insert_row, insert_all, entity}
use Rattle.model.specs.Store.{Store, staged_kinds, on_storage}
use Rattle.model.specs.Sound.{In, no_component}
use Rattle.model.proofs.BoolLaws.{by-eq, cond_case}
use Rattle.component.specs.Stored.{Current}
use Rattle.memory.specs.Meaning.{meaning}
use Rattle.memory.specs.Arranged.{Becomes}
use Rattle.memory.proofs.Becomes.{stays}
use Rattle.world.specs.Insert.{Insertable, insert_one, inserted}
use Rattle.group.proofs.Storing.{becomes_then, capacity_kept}

-- ---- no other version of the index comes in

module _ (x v : ℕ) where
  current_insert : (val : ℕ) (rs : SparseSet) → Current x v rs → Current x v (insert_row (entity x v) val rs)
  current_insert val rs c =
      cond_case (Current x v) (held (entity x v) rs) _ _
      (λ t i h q.
      let p : at (entity x v) rs < length rs = ltb-true _ _ t in
      by-eq i (at (entity x v) rs)
      (λ e. rw (e, get_or-set_same rs (at (entity x v) rs) new no_row p))
      (λ ne.
      let o : get_or (set rs (at (entity x v) rs) new) i no_row ≡ get_or rs i no_row = get_or-set_other rs (at (entity x v) rs) i new no_row ne in
      ap (λ (r : Row). r.entity.version) o ∙ c i (omega (arith, length-set rs (at (entity x v) rs) new)) (sym (ap (λ (r : Row). r.entity.index) o) ∙ q)))
      (λ t i h q.
      elim (dec_lt i (length rs)) [
        | yes l ↦ let o : get_or (rs ++ (new ∷ [])) i no_row ≡ get_or rs i no_row = get_or-append rs (new ∷ []) no_row i l in ap (λ (r : Row). r.entity.version) o ∙ c i l (sym (ap (λ (r : Row). r.entity.index) o) ∙ q)
        | no l ↦ let e : i ≡ length rs = omega (arith, length-append rs (new ∷ [])) in ap (λ (r : Row). r.entity.version) (ap (λ (j : ℕ). get_or (rs ++ (new ∷ [])) j no_row) e ∙ get_or_at rs new [] no_row (length rs) refl)
      ])
    where
      new : Row
      new = record { entity = entity x v; value = val }

  current_all : (ps : List Component) (sets : List SparseSet) → ((k : ℕ) → Current x v (set_of sets k)) → (k : ℕ) → Current x v (set_of (insert_all (entity x v) ps sets) k)
  current_all [] sets c = c
  current_all (p ∷ ps) sets c =
      current_all ps (set sets p.kind (insert_row (entity x v) p.value (set_of sets p.kind)))
      (λ k.
      by-eq k p.kind
      (λ e.
      elim (dec_lt p.kind (length sets)) [
        | yes h ↦ rw (e, get_or-set_same sets p.kind (insert_row (entity x v) p.value (set_of sets p.kind)) [] h) (current_insert p.value (set_of sets p.kind) (c p.kind))
        | no h ↦ rw (set_out sets p.kind (insert_row (entity x v) p.value (set_of sets p.kind)) (omega arith)) (c k)
      ])
      (λ ne. rw (get_or-set_other sets p.kind k (insert_row (entity x v) p.value (set_of sets p.kind)) [] ne) (c k)))

-- one component more
insert_snoc : (e : Entity) (ps : List Component) (p : Component) (sets : List SparseSet)
    → insert_all e (ps ++ (p ∷ [])) sets ≡ set (insert_all e ps sets) p.kind (insert_row e p.value (set_of (insert_all e ps sets) p.kind))
insert_snoc e [] p sets = refl
insert_snoc e (q ∷ ps) p sets = insert_snoc e ps p (set sets q.kind (insert_row e q.value (set_of sets q.kind)))

-- ---- the loop

module _ (w₀ : List ℕ) (x v : ℕ) (I : Insertable w₀ x v) where
  abbrev staged : List Component
  staged = (meaning w₀).control.staged

  abbrev Done : List ℕ → List Component → Type 0
  Done w ps = Becomes w₀ w (on_storage (inserted (entity x v) ps) (meaning w₀))

  pub insert_none : Done w₀ []
  insert_none = stays I.arranged

  pub insert_all_law : (w : List ℕ) (i : ℕ) → length staged ≤ i → Done w (take i staged) → Done w staged
  insert_all_law w i h B = subst (Done w) (take_all i staged h) B

  pub insert_ask : (w : List ℕ) (ps : List Component) → Done w ps → Insertable w x v
  insert_ask w ps B =
      record {
        arranged = B.arranged;
        below = rw (capacity_kept w₀ w (inserted (entity x v) ps) B) I.below;
        version = I.version;
        current = λ k. subst (λ (m : Store). Current x v (set_of m.storage.sets k)) (sym B.means) (current_all x v ps (meaning w₀).storage.sets I.current k);
        known = subst (λ (m : Store). (k : ℕ) → In (staged_kinds m) k → In m.kinds k) (sym B.means) I.known;
      }

  pub insert_staged : (w : List ℕ) (ps : List Component) → Done w ps → (meaning w).control.staged ≡ staged
  insert_staged w ps B = ap (λ (m : Store). m.control.staged) B.means

  pub insert_turn : (w w' : List ℕ) (i : ℕ) → i < length staged → Done w (take i staged)
      → Becomes w w' (on_storage (insert_one (entity x v) (get_or (meaning w).control.staged i no_component)) (meaning w)) → Done w' (take (i + 1) staged)
  insert_turn w w' i h B C =
      let D = becomes_then w₀ w w' (inserted (entity x v) (take i staged)) (λ (s : Store). on_storage (insert_one (entity x v) (get_or s.control.staged i no_component)) s) B C in
      let e : take (i + 1) staged ≡ take i staged ++ (get_or staged i no_component ∷ []) = ap (λ (k : ℕ). take k staged) (add-one i) ∙ take-suc staged i no_component h in
      subst (Done w') (sym e)
      (subst (λ (l : List SparseSet). Becomes w₀ w' (on_storage (λ (s : Storage). record { sets = l; layout = s.layout }) (meaning w₀)))
      (sym (insert_snoc (entity x v) (take i staged) (get_or staged i no_component) (meaning w₀).storage.sets)) D)

  pub insert_count : (w : List ℕ) (ps : List Component) → Done w ps → (i : ℕ) → i < length staged → i < length (meaning w).control.staged
  insert_count w ps B i h = rw (insert_staged w ps B) h
