-- The walk downward moves an entity's rows, and keeps what it holds of each kind. Assumes nothing.
use mathlib.Core.Path.{◌≡◌, refl, ap, ap₂, sym, ◌∙◌, subst}
use mathlib.Core.Bool.{true, cond}
use mathlib.Core.List.{List, [], ◌∷◌, ◌++◌, reverse}
use Prim.Native.Nat.{ℕ, ◌-◌, ◌≤◌, ◌<◌}
use native.Mathlib.Omega.{arith}
use native.Mathlib.Nat.{zero-add}
use borrow.Author.Tests.{ltb-true, lt-ltb}
use lib.ListN.{length, get_or, set, length-map, get_or-map}
use lib.Seq.{get_or-set_same, lt-length-set}
use Rattle.model.proofs.ListLaws.{length_swap, count_swap, place_once}
use Rattle.model.specs.Model.{Entity, Row, SparseSet, Storage, same_entity, no_entity, no_row, mem, set_of, keys, entity_of, at, held, swap_to, ungroup}
use Rattle.model.specs.Commands.{taken_bytes, held_bytes}
use Rattle.model.specs.Sound.{cnt, key}
use Rattle.model.proofs.SparseSets.{keys_swap, set_of_map_on, entity_same}
use Rattle.model.proofs.BoolLaws.{cond_case}
use Rattle.model.proofs.Invariant.{Fit}
use Rattle.component.proofs.Places.{at_entity}
use Rattle.group.specs.declared.group_status.GroupStatus.{GroupStatus}
use Rattle.group.specs.declared.group_status.GroupStatus.TheVariants.{Incomplete, Ungrouped, Grouped}
use Rattle.group.specs.Flat.{located, status_at, ungroup_at, step_down, walk_down, delete_positions}
use Rattle.group.specs.Ready.{ReadyOut, ReadyDown}
use Rattle.group.proofs.Downward.{walk_ungroup, ready_remove}
use Rattle.command_take.proofs.Taking.{bytes_held}

module _ (v : ℕ) (e : Entity) where
  -- where the entity stands once, its place is that of its row
  once_at : (rs : SparseSet) (p : ℕ) → p < length rs → (get_or rs p no_row).entity ≡ e → cnt e (keys rs) ≤ 1 → at e rs ≡ p
  once_at rs p h q n = place_once same_entity entity_same no_entity e (keys rs) n p (rw (length-map rs entity_of) h) (get_or-map entity_of rs p no_row ∙ q)

  -- the rows of a kind after a step: the entity is there once at most, with the value that it had
  record Keeps (rs rs' : SparseSet) : Type 0 where
    pub once : cnt e (keys rs') ≤ 1
    pub bytes : taken_bytes v e rs' ≡ taken_bytes v e rs

  keeps_swap : (c : ℕ) (rs : SparseSet) → held e rs ≡ true → c < length rs → cnt e (keys rs) ≤ 1 → Keeps rs (swap_to e c rs)
  keeps_swap c rs h l n =
      let lt : at e rs < length rs = ltb-true _ _ h in
      let was : Row = get_or rs (at e rs) no_row in
      let here : get_or (swap_to e c rs) c no_row ≡ get_or rs (at e rs) no_row = get_or-set_same (set rs (at e rs) (get_or rs c no_row)) c (get_or rs (at e rs) no_row) no_row (lt-length-set rs (at e rs) (get_or rs c no_row) l) in
      let wide : length (swap_to e c rs) ≡ length rs = length_swap no_row (at e rs) c rs in
      let keyed : length (keys rs) ≡ length rs = length-map rs entity_of in
      let counted : cnt e (keys (swap_to e c rs)) ≡ cnt e (keys rs) =
      ap (cnt e) (keys_swap (at e rs) c rs) ∙ count_swap same_entity e no_entity (at e rs) c (keys rs) (omega arith) (omega arith) in
      let there : at e (swap_to e c rs) ≡ c = once_at (swap_to e c rs) c (omega arith) (ap (λ (r : Row). r.entity) here ∙ at_entity e rs lt) (omega arith) in
      record {
        once = omega arith;
        bytes =
            sym (bytes_held v e (swap_to e c rs) was.value (lt-ltb (at e (swap_to e c rs)) (length (swap_to e c rs)) (omega arith)) (sym (ap (λ (i : ℕ). (get_or (swap_to e c rs) i no_row).value) there ∙ ap (λ (r : Row). r.value) here)))
            ∙ bytes_held v e rs was.value h refl;
      }

  keeps_step : (t : GroupStatus) (g : ℕ) (s : Storage) → ReadyOut t e (located s.layout g) s.sets → ((k : ℕ) → cnt e (key s.sets k) ≤ 1) → (k : ℕ) → Keeps (set_of s.sets k) (set_of (step_down t e g s).sets k)
  unfolding ungroup_at
  keeps_step Incomplete g s r n k = record { once = n k; bytes = refl }
  keeps_step Ungrouped g s r n k = record { once = n k; bytes = refl }
  keeps_step (Grouped place) g s r n k =
      let ks : List ℕ = (located s.layout g).kinds in
      let c : ℕ = (located s.layout g).count - 1 in
      subst (Keeps (set_of s.sets k))
      (sym (set_of_map_on ks (swap_to e c) refl 0 s.sets k ∙ ap (λ (i : ℕ). cond (mem i ks) (swap_to e c (set_of s.sets k)) (set_of s.sets k)) (zero-add k)))
      (cond_case (Keeps (set_of s.sets k)) (mem k ks) _ _
      (λ i. keeps_swap c (set_of s.sets k) (r.1.holds k i) (r.1.room k i) (n k))
      (λ i. record { once = n k; bytes = refl }))

  keeps_walk : (ps : List ℕ) (s : Storage) → ReadyDown e ps s → ((k : ℕ) → cnt e (key s.sets k) ≤ 1) → (k : ℕ) → Keeps (set_of s.sets k) (set_of (walk_down e ps s).sets k)
  unfolding walk_down ReadyDown
  keeps_walk [] s r n k = record { once = n k; bytes = refl }
  keeps_walk (g ∷ ps) s r n k =
      let step = keeps_step (status_at e g s) g s r.0 n in
      let rest = keeps_walk ps (step_down (status_at e g s) e g s) r.1 (λ j. (step j).once) k in
      record { once = rest.once; bytes = rest.bytes ∙ (step k).bytes }

  held_same : (ks : List ℕ) (p q : Storage) → ((k : ℕ) → taken_bytes v e (set_of q.sets k) ≡ taken_bytes v e (set_of p.sets k)) → held_bytes v e ks q ≡ held_bytes v e ks p
  held_same [] p q h = refl
  held_same (k ∷ ks) p q h = ap₂ {C = List ℕ} (λ (a b : List ℕ). a ++ b) (h k) (held_same ks p q h)

  -- what the entity holds of the kinds of ks, once it has left the groups that have a kind of gone
  pub ungroup_held : (gone ks : List ℕ) (s : Storage) → Fit s → held_bytes v e ks (ungroup e gone s.sets s.layout) ≡ held_bytes v e ks s
  ungroup_held gone ks s f =
      let ps : List ℕ = reverse (delete_positions gone s.layout) in
      subst (λ (t : Storage). held_bytes v e ks t ≡ held_bytes v e ks s) (walk_ungroup e gone s f)
      (held_same ks s (walk_down e ps s) (λ k. (keeps_walk ps s (ready_remove e gone s f) (f.once e) k).bytes))
