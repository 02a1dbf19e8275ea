-- The table of kinds, over functions: `kind_at` is the kind of a slot's column, `slot_of` the slot of a kind, 255 where it has none. The registered kinds
-- are those of the slots in use, and a kind's sparse set is its slot's. Assumes nothing.
use mathlib.Core.Path.{◌≡◌, refl, ap, sym, ◌∙◌, subst}
use mathlib.Core.Logic.{◌≢◌}
use mathlib.Core.Bool.{Bool, true, false, cond, true≢false}
use mathlib.Core.List.{List, []}
use Prim.Native.Nat.{ℕ, ◌≤◌, ◌<◌}
use native.Mathlib.Decide.{dec_le}
use native.Mathlib.Omega.{arith}
use borrow.Author.Tests.{lt-ltb, le-ltb}
use lib.Dec.{ltb}
use lib.ListN.{length, get_or, length-map, get_or-map, get_or-eq_default}
use Rattle.model.specs.Numbers.{MAX_KINDS}
use Rattle.words.specs.Offsets.{UNREGISTERED}
use Rattle.model.specs.Lists.{place}
use Rattle.model.proofs.ListLaws.{count_at_law, count_place, get_d_place}
use Rattle.model.specs.Model.{Entity, SparseSet, same_entity, no_entity, no_row, mem, set_of, entity_of, keys}
use Rattle.model.specs.Sound.{cnt, In, Distinct, ValueFits, KindsSound, SetsSound}
use Rattle.model.proofs.SparseSets.{entity_eq, entity_same}
use Rattle.model.proofs.Operations.{zero_fits}
use Rattle.words.specs.Table.{table}
use Rattle.model.proofs.BoolLaws.{by-eq}
use Rattle.words.proofs.Tables.{length_table, get_d_table, table_in, in_table, table_once}

-- the table and the columns' heads point to each other; there are fewer columns than 255
pub record TableLinks (reg : ℕ) (kind_at slot_of : ℕ → ℕ) : Type 0 where
  pub few : reg ≤ MAX_KINDS
  pub slot : (k : ℕ) → k < MAX_KINDS → slot_of k ≢ UNREGISTERED → slot_of k < reg
  pub back : (k : ℕ) → k < MAX_KINDS → slot_of k ≢ UNREGISTERED → kind_at (slot_of k) ≡ k
  pub small : (s : ℕ) → s < reg → kind_at s < MAX_KINDS
  pub own : (s : ℕ) → s < reg → slot_of (kind_at s) ≡ s

-- kind k's sparse set: its slot's rows, none where it has no slot
abbrev pub set_at : ℕ → (ℕ → ℕ) → (ℕ → SparseSet) → ℕ → SparseSet
set_at reg slot_of rows_at k = cond (ltb (slot_of k) reg) (rows_at (slot_of k)) []

-- what the columns must be: an entity once, live ones only, values of v bytes
pub record RowsOk (v : ℕ) (live : List Entity) (rows : SparseSet) : Type 0 where
  pub once : (x : Entity) → cnt x (keys rows) ≤ 1
  pub alive : (i : ℕ) → i < length rows → 1 ≤ cnt (get_or rows i no_row).entity live
  pub values : (i : ℕ) → ValueFits v (get_or rows i no_row).value

module _ (reg : ℕ) (kind_at slot_of : ℕ → ℕ) (T : TableLinks reg kind_at slot_of) where
  -- ---- the registered kinds

  pub registered_slot : (k : ℕ) → In (table reg kind_at) k → slot_of k < reg
  registered_slot k t = let q = in_table reg kind_at k t in omega (arith, q.1, T.own q.0 q.1, ap slot_of q.2)

  pub registered_small : (k : ℕ) → In (table reg kind_at) k → k < MAX_KINDS
  registered_small k t = let q = in_table reg kind_at k t in omega (arith, T.small q.0 q.1, q.2)

  pub slot_registered : (k : ℕ) → k < MAX_KINDS → slot_of k ≢ UNREGISTERED → In (table reg kind_at) k
  slot_registered k h n = table_in reg kind_at k (slot_of k) (T.slot k h n) (T.back k h n)

  pub registered_once : Distinct (table reg kind_at)
  registered_once = table_once reg kind_at (λ i j hi hj ne e. ne (sym (T.own i hi) ∙ ap slot_of e ∙ T.own j hj))

  pub kinds_sound : (most : ℕ) → reg ≤ most → KindsSound most (table reg kind_at)
  kinds_sound most h = record { few = omega (arith, length_table reg kind_at); once = registered_once; small = registered_small }

  -- ---- the sparse sets, of which each slot has one

  module _ (rows_at : ℕ → SparseSet) where
    abbrev sets : List SparseSet
    sets = table MAX_KINDS (set_at reg slot_of rows_at)

    pub set_slot : (k : ℕ) → In (table reg kind_at) k → set_of sets k ≡ rows_at (slot_of k)
    set_slot k t = get_d_table MAX_KINDS (set_at reg slot_of rows_at) k [] (registered_small k t) ∙ rw (lt-ltb (slot_of k) reg (registered_slot k t))

    pub slot_set : (s : ℕ) → s < reg → set_of sets (kind_at s) ≡ rows_at s
    slot_set s h = set_slot (kind_at s) (table_in reg kind_at (kind_at s) s h refl) ∙ ap rows_at (T.own s h)

    pub set_none : (k : ℕ) → mem k (table reg kind_at) ≡ false → set_of sets k ≡ []
    set_none k n =
        elim (dec_le MAX_KINDS k) [
          | yes h ↦ get_or-eq_default sets [] {n = k} (omega (arith, length_table MAX_KINDS (set_at reg slot_of rows_at)))
          | no h ↦ get_d_table MAX_KINDS (set_at reg slot_of rows_at) k [] (omega arith)
              ∙ by-eq (slot_of k) UNREGISTERED
              (λ e. rw (le-ltb (slot_of k) reg (omega (arith, T.few))))
              (λ ne. absurd (true≢false (sym (slot_registered k (omega arith) ne) ∙ n)))
        ]

    -- a property of every sparse set, from the slots'
    pub each_set : (P : SparseSet → Type 0) → P [] → ((s : ℕ) → s < reg → P (rows_at s)) → (k : ℕ) → P (set_of sets k)
    each_set P z f k = go (mem k (table reg kind_at)) refl
      where
        go : (b : Bool) → mem k (table reg kind_at) ≡ b → P (set_of sets k)
        go true t = subst P (sym (set_slot k t)) (f (slot_of k) (registered_slot k t))
        go false t = subst P (sym (set_none k t)) z

    pub sets_sound : (v : ℕ) (live : List Entity) → ((s : ℕ) → s < reg → RowsOk v live (rows_at s)) → SetsSound v (table reg kind_at) live sets
    sets_sound v live f =
        record {
          wide = length_table MAX_KINDS (set_at reg slot_of rows_at);
          bare = set_none;
          alive = λ x k.
              each_set (λ (r : SparseSet). 1 ≤ cnt x (keys r) → 1 ≤ cnt x live) (λ h. absurd (omega arith))
              (λ s h c.
              let p = count_place same_entity x (keys (rows_at s)) c in
              let i = place same_entity x (keys (rows_at s)) in
              let e : (get_or (rows_at s) i no_row).entity ≡ x = sym (get_or-map entity_of (rows_at s) i no_row) ∙ get_d_place same_entity entity_eq x no_entity (keys (rows_at s)) p in
              subst (λ (y : Entity). 1 ≤ cnt y live) e ((f s h).alive i (omega (arith, length-map (rows_at s) entity_of))))
              k;
          once = λ x k. each_set (λ (r : SparseSet). cnt x (keys r) ≤ 1) (omega arith) (λ s h. (f s h).once x) k;
          values = λ k j. each_set (λ (r : SparseSet). ValueFits v (get_or r j no_row).value) (zero_fits v) (λ s h. (f s h).values j) k;
        }

    pub sets_alive : {v : ℕ} (live : List Entity) → SetsSound v (table reg kind_at) live sets → (s : ℕ) → s < reg → (i : ℕ) → i < length (rows_at s) → 1 ≤ cnt (get_or (rows_at s) i no_row).entity live
    sets_alive live S s h i lt =
        let x = (get_or (rows_at s) i no_row).entity in
        let e : get_or (keys (rows_at s)) i no_entity ≡ x = get_or-map entity_of (rows_at s) i no_row in
        let c : 1 ≤ cnt x (keys (rows_at s)) = subst (λ (y : Entity). 1 ≤ cnt y (keys (rows_at s))) e (count_at_law same_entity entity_same no_entity (keys (rows_at s)) i (omega (arith, length-map (rows_at s) entity_of))) in
        S.alive x (kind_at s) (subst (λ (r : SparseSet). 1 ≤ cnt x (keys r)) (sym (slot_set s h)) c)
