-- A registered kind has a slot, whose column's rows are its sparse set; a change of that column is a change of the kind's sparse set. Assumes nothing.
use mathlib.Core.Path.{◌≡◌, refl, sym, ap, ◌∙◌, subst}
use mathlib.Core.Logic.{◌≢◌}
use mathlib.Core.Bool.{false}
use mathlib.Core.List.{List}
use Prim.Native.Nat.{ℕ, ◌+◌, ◌<◌}
use native.Mathlib.Omega.{arith}
use lib.ListN.{length, get_or}
use Rattle.model.specs.Numbers.{MAX_KINDS}
use Rattle.model.specs.Model.{SparseSet, mem}
use Rattle.model.specs.Store.{on_set, on_storage}
use Rattle.model.specs.Sound.{In}
use Rattle.model.proofs.BoolLaws.{not_true}
use Rattle.words.specs.Offsets.{ENTITIES, ROWS, UNREGISTERED}
use Rattle.words.specs.Table.{table}
use Rattle.words.proofs.Tables.{length_table, get_d_table, table_in, in_table}
use Rattle.words.specs.Shape.{column_start, shape_of}
use Rattle.words.specs.declared.Shape.{Shape}
use Rattle.component.specs.Columns.{rows_of}
use Rattle.component.specs.Changes.{Lent, Only}
use Rattle.component.proofs.Parts.{lent, get_d_column}
use Rattle.memory.specs.Header.{kind_capacity_of, registered_of, slot_of}
use Rattle.memory.specs.Meaning.{kind_at, kinds_in, set_at, meaning}
use Rattle.memory.specs.Arranged.{Arranged, Becomes}
use Rattle.memory.proofs.Frames.{long}
use Rattle.memory.proofs.Becomes.{set_at_law, set_in_law, one_becomes}
use Rattle.kinds.specs.Kinds.{kind_set}
use Rattle.kinds.specs.Steps.{InSlot, head_word}

-- ---- the table of kinds

module _ (w : List ℕ) (A : Arranged w) where
  pub slot_known : (k : ℕ) → k < MAX_KINDS → slot_of w k ≢ UNREGISTERED → In (meaning w).kinds k
  unfolding meaning kinds_in
  slot_known k h ne = table_in (registered_of w) (kind_at w) k (slot_of w k) (A.table.slot k h ne) (A.table.back k h ne)

  pub known_slot : (k : ℕ) → In (meaning w).kinds k → InSlot w k (slot_of w k)
  unfolding meaning kinds_in
  known_slot k i =
      let p = in_table (registered_of w) (kind_at w) k i in
      let e : slot_of w k ≡ p.0 = ap (slot_of w) (sym p.2) ∙ A.table.own p.0 p.1 in
      let small : k < MAX_KINDS = subst (λ (j : ℕ). j < MAX_KINDS) p.2 (A.table.small p.0 p.1) in
      let real : slot_of w k < registered_of w = rw e p.1 in
      let kind : kind_at w (slot_of w k) ≡ k = ap (kind_at w) e ∙ p.2 in
      record {
        is = refl;
        real = real;
        kind = kind;
        lent = lent (shape_of w) (kind_capacity_of w) (slot_of w k) w A.columns (omega (arith, A.table.few));
        rows = set_in_law w A k small ∙ ap (set_at w) (sym kind) ∙ set_at_law w A (slot_of w k) real;
      }

  pub known_small : (k : ℕ) → In (meaning w).kinds k → k < MAX_KINDS
  known_small k i = let s = known_slot k i in subst (λ (j : ℕ). j < MAX_KINDS) s.kind (A.table.small (slot_of w k) s.real)

  pub unknown : (k : ℕ) → k < MAX_KINDS → slot_of w k ≡ UNREGISTERED → mem k (meaning w).kinds ≡ false
  unknown k h e = not_true (mem k (meaning w).kinds) (λ i. omega (arith, (known_slot k i).real, A.table.few, A.limits.most_kinds))

  pub header_long : (i : ℕ) → i < ENTITIES → i < length w
  header_long i h = omega (arith, long w A)

-- a kind's slot is its place in the order of registration, so that words with the same kinds have it alike
pub slot_alike : (w v : List ℕ) → Arranged w → Arranged v → (meaning w).kinds ≡ (meaning v).kinds → (k : ℕ) → In (meaning v).kinds k → slot_of w k ≡ slot_of v k
unfolding meaning kinds_in
slot_alike w v A B e k i =
    let s = slot_of v k in
    let K = known_slot v B k i in
    let kinds : table (registered_of w) (kind_at w) ≡ table (registered_of v) (kind_at v) = e in
    let many : registered_of w ≡ registered_of v = sym (length_table (registered_of w) (kind_at w)) ∙ ap (λ (l : List ℕ). length l) kinds ∙ length_table (registered_of v) (kind_at v) in
    let real : s < registered_of w = omega (arith, many, K.real) in
    let kind : kind_at w s ≡ k = sym (get_d_table (registered_of w) (kind_at w) s 0 real) ∙ ap (λ (l : List ℕ). get_or l s 0) kinds ∙ get_d_table (registered_of v) (kind_at v) s 0 K.real ∙ K.kind in
    sym (ap (slot_of w) kind) ∙ A.table.own s real

-- ---- what a function on a slot says, of the kind

module _ (w : List ℕ) (z : Shape) (k s : ℕ) (e : z ≡ shape_of w) (at : InSlot w k s) where
  pub lent_at : Lent z s w
  lent_at = rw e at.lent

  pub rows_at : rows_of z s w ≡ kind_set w k
  rows_at = rw e (sym at.rows)

  pub only_becomes : (w' : List ℕ) (f : SparseSet → SparseSet) → Arranged w → Only z s f w w' → Becomes w w' (on_storage (on_set k f) (meaning w))
  only_becomes w' f A o =
      let few : s < kind_capacity_of w = omega (arith, at.real, A.table.few) in
      subst (λ (j : ℕ). Becomes w w' (on_storage (on_set j f) (meaning w))) at.kind
      (one_becomes w w' A s at.real f ((rw e at o) (kind_capacity_of w) few A.columns))

  -- word i of the column's head, where the code reads it
  pub head_at_law : (i : ℕ) → i < ROWS → get_or w (column_start z s + i) 0 ≡ head_word w k i
  head_at_law i h = sym (get_d_column z s i w (omega arith)) ∙ rw (e, at.is)
