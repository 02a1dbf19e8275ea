-- Whether an entity is inside a group: a lookup in the first new kind's sparse set, then one in each other's. Assumes nothing.
use mathlib.Core.Path.{◌≡◌, refl, ap, sym, ◌∙◌, subst}
use mathlib.Core.Bool.{Bool, true, false, ◌&&◌}
use mathlib.Core.List.{List, ◌∷◌}
use Prim.Native.Nat.{ℕ, zero, suc, ◌+◌, ◌-◌, ◌≤◌, ◌<◌}
use native.Mathlib.Omega.{arith}
use borrow.Author.Tests.{lt-ltb, le-ltb}
use lib.ListN.{get_or}
use Rattle.std.specs.List.{list_all, range_with_len}
use Rattle.model.specs.Model.{Entity, SparseSet, set_of, at, held, all_held}
use Rattle.model.specs.Sound.{In}
use Rattle.model.proofs.KindLists.{in_right}
use Rattle.model.proofs.BoolLaws.{bool_cases}
use Rattle.model.specs.Store.{Store}
use Rattle.words.specs.Part.{between}
use Rattle.words.proofs.Part.{between_none, between_split, between_step, between_in}
use Rattle.words.specs.declared.Shape.{Shape}
use Rattle.component.specs.Answers.{Finds}
use Rattle.words.specs.declared.Found.{Found}
use Rattle.words.specs.declared.Found.TheVariants.{At, Nothing}
use Rattle.group.specs.declared.group_status.GroupStatus.TheVariants.{Incomplete, Ungrouped, Grouped}
use Rattle.group.specs.Metadata.{order_of, PlacesKnown}
use Rattle.group.specs.Steps.{status_in}

-- ---- the kinds from start to end; the kind k is the one at place p

module _ {m : Store} {start end p k : ℕ} (L : PlacesKnown m start end) (lt : p < end) (q : k ≡ get_or (order_of m) p 0) where
  pub kind_known : start ≤ p → In m.kinds k
  kind_known le = subst (In m.kinds) (sym q) (L.known (get_or (order_of m) p 0) (between_in start end p (order_of m) le lt L.within))

  pub all_next : {b : Bool} (e : Entity) → held e (set_of m.storage.sets k) ≡ b → all_held e (between p end (order_of m)) m.storage.sets ≡ (b && all_held e (between (p + 1) end (order_of m)) m.storage.sets)
  all_next {b} e h =
      ap (λ (ks : List ℕ). all_held e ks m.storage.sets) (between_step p end (order_of m) lt L.within)
      ∙ ap (λ (t : Bool). t && all_held e (between (p + 1) end (order_of m)) m.storage.sets) (subst (λ (j : ℕ). held e (set_of m.storage.sets j) ≡ b) q h)

-- a later start
pub listed_later : {m : Store} {start p end : ℕ} → start ≤ p → p ≤ end → PlacesKnown m start end → PlacesKnown m p end
listed_later {m} {start} {p} {end} lo hi L =
    record {
      rising = hi;
      within = L.within;
      known = λ k i.
          L.known k (subst (λ (l : List ℕ). In l k) (between_split start p end (order_of m) lo hi) (in_right (between start p (order_of m)) (between p end (order_of m)) k i));
    }

pub all_end : (m : Store) (e : Entity) {p end : ℕ} → p ≡ end → all_held e (between p end (order_of m)) m.storage.sets ≡ true
all_end m e {p} {end} q = ap (λ (n : ℕ). all_held e (between n end (order_of m)) m.storage.sets) q ∙ ap (λ (ks : List ℕ). all_held e ks m.storage.sets) (between_none end (order_of m))

-- each of n places from start to end asked in turn
pub all_places : {m : Store} (e : Entity) (start end n : ℕ) → PlacesKnown m start end → end - start ≡ n
    → list_all (λ p. held e (set_of m.storage.sets (get_or (order_of m) p 0))) (range_with_len start n) ≡ all_held e (between start end (order_of m)) m.storage.sets
all_places {m} e start end zero L q = sym (all_end m e (omega (arith, L.rising)))
all_places {m} e start end (suc n) L q =
    let here : Bool = held e (set_of m.storage.sets (get_or (order_of m) start 0)) in
    ap (λ (b : Bool). here && b) (all_places e (start + 1) end n (listed_later (omega arith) (omega arith) L) (omega arith))
    ∙ sym (all_next L (omega arith) refl e refl)

-- ---- the status, of a group with new kinds from start to end

module _ {m : Store} {start end : ℕ} (e : Entity) (c : ℕ) (some : start < end) (L : PlacesKnown m start end) where
  abbrev k : ℕ
  k = get_or (order_of m) start 0

  abbrev sets : List SparseSet
  sets = m.storage.sets

  parts : between start end (order_of m) ≡ k ∷ between (start + 1) end (order_of m)
  parts = between_step start end (order_of m) some L.within

  pub status_others : all_held e (between (start + 1) end (order_of m)) sets ≡ false → Incomplete ≡ status_in e (between start end (order_of m)) c sets
  status_others h = rw parts (bool_cases (held e (set_of sets k)) (λ t. rw (t, h)) (λ t. rw t))

  -- r is what a lookup in the first new kind's sparse set found
  module _ (z : Shape) {j : ℕ} {r : Found} (q : j ≡ k) (F : Finds z e (set_of sets j) r) where
    first : (x : Found) → r ≡ x → Finds z e (set_of sets k) x
    first x t = subst (λ (i : ℕ). Finds z e (set_of sets i) x) q (subst (Finds z e (set_of sets j)) t F)

    pub status_first : r ≡ Nothing → Incomplete ≡ status_in e (between start end (order_of m)) c sets
    status_first z = rw (parts, first Nothing z)

    pub status_in_law : {p : ℕ} → r ≡ At p → all_held e (between (start + 1) end (order_of m)) sets ≡ true → p < c → Grouped p ≡ status_in e (between start end (order_of m)) c sets
    status_in_law {p} z a l = let h = first (At p) z in rw (parts, h.holds, a, lt-ltb (at e (set_of sets k)) c (omega (arith, h.place))) (ap Grouped h.place)

    pub status_out : {p : ℕ} → r ≡ At p → all_held e (between (start + 1) end (order_of m)) sets ≡ true → c ≤ p → Ungrouped ≡ status_in e (between start end (order_of m)) c sets
    status_out {p} z a l = let h = first (At p) z in rw (parts, h.holds, a, le-ltb (at e (set_of sets k)) c (omega (arith, h.place)))
