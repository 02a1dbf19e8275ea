-- The loop over a group's kinds: an entity swapped to one place in each of their sparse sets. Assumes nothing.
use mathlib.Core.Path.{◌≡◌, refl, ap, sym, ◌∙◌, subst}
use mathlib.Core.Bool.{Bool, true, false, cond}
use mathlib.Core.List.{List, [], ◌∷◌, ◌++◌}
use Prim.Native.Nat.{ℕ, ◌+◌, ◌≤◌, ◌<◌}
use native.Mathlib.Omega.{arith}
use borrow.Author.Tests.{eq-eqb}
use lib.ListN.{length, get_or, set}
use Rattle.model.specs.Model.{Entity, SparseSet, Storage, mem, set_of, held, swap_to}
use Rattle.model.specs.Store.{on_set, on_storage, Store}
use Rattle.model.specs.Sound.{In, Distinct}
use Rattle.model.proofs.Shape.{plain}
use Rattle.model.proofs.KindLists.{in_left, not_both, distinct_apart}
use Rattle.words.specs.Part.{between}
use Rattle.words.proofs.Part.{between_none, between_split, between_more, between_in}
use Rattle.words.specs.Shape.{shape_of}
use Rattle.component.specs.Changes.{Only}
use Rattle.memory.specs.Header.{slot_of}
use Rattle.memory.specs.Meaning.{meaning}
use Rattle.memory.specs.Arranged.{Arranged, Becomes}
use Rattle.memory.proofs.Becomes.{stays, sets_wide}
use Rattle.kinds.specs.Kinds.{kind_set}
use Rattle.kinds.specs.Steps.{InSlot}
use Rattle.kinds.proofs.Slot.{known_small, known_slot, only_becomes}
use Rattle.group.specs.Ready.{Swappable}
use Rattle.group.specs.Metadata.{order_of, PlacesKnown}
use Rattle.group.specs.Places.{kind_no, SameLayout}
use Rattle.group.specs.Steps.{swap_kinds}
use Rattle.group.proofs.EachKind.{each_kind, each_append, set_of_each, each_kinds}
use Rattle.group.proofs.Storing.{SoFar, becomes_then, changed_so_far}
use Rattle.group.proofs.InWords.{order_part_once}

abbrev pub each_swap : Entity → ℕ → List ℕ → Storage → Storage
each_swap e c ks s = record { sets = each_kind (swap_to e c) ks s.sets; layout = s.layout }

-- the loop's invariant: the kinds before place p have had their swap
pub record Swapping (w₀ : List ℕ) (e : Entity) (start end c : ℕ) (w : List ℕ) (p : ℕ) : Type 0 where
  pub low : start ≤ p
  pub high : p ≤ end
  pub so_far : Becomes w₀ w (on_storage (each_swap e c (between start p (order_of (meaning w₀)))) (meaning w₀))

module _ {w₀ : List ℕ} {e : Entity} {start end c : ℕ} (A : Arranged w₀) (L : PlacesKnown (meaning w₀) start end) (R : Swappable e (between start end (order_of (meaning w₀))) c (meaning w₀).storage.sets) where
  pub swap_start : Swapping w₀ e start end c w₀ start
  swap_start =
      record {
        low = omega arith;
        high = L.rising;
        so_far =
            subst (λ (ks : List ℕ). Becomes w₀ w₀ (on_storage (each_swap e c ks) (meaning w₀))) (sym (between_none start (order_of (meaning w₀))))
            (stays A);
      }

  small : (p : ℕ) → start ≤ p → p ≤ end → (k : ℕ) → In (between start p (order_of (meaning w₀))) k → k < length (meaning w₀).storage.sets
  small p lo hi k i =
      let inside : In (between start end (order_of (meaning w₀))) k =
      subst (λ (l : List ℕ). In l k) (between_split start p end (order_of (meaning w₀)) lo hi) (in_left (between start p (order_of (meaning w₀))) (between p end (order_of (meaning w₀))) k i) in
      omega (arith, known_small w₀ A k (L.known k inside), sets_wide w₀)

  module _ {w : List ℕ} {p : ℕ} (S : Swapping w₀ e start end c w p) where
    module _ (lt : p < end) where
      abbrev k : ℕ
      k = get_or (order_of (meaning w₀)) p 0

      abbrev before : List ℕ
      before = between start p (order_of (meaning w₀))

      kind_is : get_or (order_of (meaning w)) p 0 ≡ k
      kind_is = ap (λ (m : Store). get_or (order_of m) p 0) S.so_far.means

      inside : In (between start end (order_of (meaning w₀))) k
      inside = between_in start end p (order_of (meaning w₀)) S.low lt L.within

      more : between start (p + 1) (order_of (meaning w₀)) ≡ before ++ (k ∷ [])
      more = between_more start p (order_of (meaning w₀)) S.low (omega (arith, L.within))

      fresh : mem k before ≡ false
      fresh = not_both before (k ∷ []) k (distinct_apart before (k ∷ []) (subst Distinct more (order_part_once w₀ A start (p + 1))) k) (rw (eq-eqb k k refl))

      same_set_law : set_of (meaning w).storage.sets k ≡ set_of (meaning w₀).storage.sets k
      same_set_law =
          ap (λ (m : Store). set_of m.storage.sets k) S.so_far.means
          ∙ set_of_each (swap_to e c) before (meaning w₀).storage.sets (order_part_once w₀ A start p) (small p S.low S.high) k
          ∙ ap (λ (b : Bool). cond b (swap_to e c (set_of (meaning w₀).storage.sets k)) (set_of (meaning w₀).storage.sets k)) fresh

      pub swap_there : p < length (order_of (meaning w))
      swap_there = let n : length (order_of (meaning w)) ≡ length (order_of (meaning w₀)) = ap (λ (m : Store). length (order_of m)) S.so_far.means in omega (arith, L.within)

      known : In (meaning w).kinds (kind_no w p)
      known = subst (λ (m : Store). In m.kinds (kind_no w p)) (sym S.so_far.means) (subst (In (meaning w₀).kinds) (sym kind_is) (L.known k inside))

      rows : kind_set w (kind_no w p) ≡ set_of (meaning w₀).storage.sets k
      rows = ap (set_of (meaning w).storage.sets) kind_is ∙ same_set_law

      pub swap_asks : (held e (kind_set w (kind_no w p)) ≡ true) × (c < length (kind_set w (kind_no w p)))
      swap_asks = rw rows (R.holds k inside, R.room k inside)

      pub swap_turn : {w' : List ℕ} → Only (shape_of w) (slot_of w (kind_no w p)) (swap_to e c) w w' → Swapping w₀ e start end c w' (p + 1)
      swap_turn {w'} o =
          let j : ℕ = kind_no w p in
          let at : InSlot w j (slot_of w j) = known_slot w S.so_far.arranged j known in
          let C : Becomes w w' (on_storage (on_set j (swap_to e c)) (meaning w)) = only_becomes w (shape_of w) j (slot_of w j) refl at w' (swap_to e c) S.so_far.arranged o in
          let was : List SparseSet = each_kind (swap_to e c) before (meaning w₀).storage.sets in
          let sets : set was j (swap_to e c (set_of was j)) ≡ each_kind (swap_to e c) (between start (p + 1) (order_of (meaning w₀))) (meaning w₀).storage.sets =
          ap (λ (x : ℕ). set was x (swap_to e c (set_of was x))) kind_is
          ∙ sym (ap (λ (ks : List ℕ). each_kind (swap_to e c) ks (meaning w₀).storage.sets) more ∙ each_append (swap_to e c) before (k ∷ []) (meaning w₀).storage.sets) in
          record {
            low = omega (arith, S.low);
            high = omega arith;
            so_far =
                subst (λ (ss : List SparseSet). Becomes w₀ w' (on_storage (λ (s : Storage). record { sets = ss; layout = s.layout }) (meaning w₀))) sets
                (becomes_then w₀ w w' (each_swap e c before) (on_storage (on_set j (swap_to e c))) S.so_far C);
          }

    pub swap_so_far : SoFar w₀ w
    swap_so_far = changed_so_far (each_swap e c (between start p (order_of (meaning w₀)))) S.so_far

    pub swap_same : SameLayout w₀ w
    swap_same = ap (λ (m : Store). plain m.storage.layout) S.so_far.means

    pub swap_done : end ≤ p → Becomes w₀ w (on_storage (swap_kinds e c (between start end (order_of (meaning w₀)))) (meaning w₀))
    swap_done h =
        let q : p ≡ end = omega (arith, S.high) in
        let B : Becomes w₀ w (on_storage (each_swap e c (between start end (order_of (meaning w₀)))) (meaning w₀)) =
        subst (λ (n : ℕ). Becomes w₀ w (on_storage (each_swap e c (between start n (order_of (meaning w₀)))) (meaning w₀))) q S.so_far in
        subst (λ (ss : List SparseSet). Becomes w₀ w (on_storage (λ (s : Storage). record { sets = ss; layout = s.layout }) (meaning w₀)))
        (each_kinds (swap_to e c) refl (between start end (order_of (meaning w₀))) (meaning w₀).storage.sets (order_part_once w₀ A start end) (small end L.rising (omega arith)))
        B
