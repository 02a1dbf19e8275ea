-- The parts of a snapshot: one entity, one index after another, the whole. Assumes nothing.
use mathlib.Core.Path.{◌≡◌, refl, ap, sym, ◌∙◌}
use mathlib.Core.List.{List, [], ◌∷◌, ◌++◌, append_assoc, append-nil}
use Prim.Native.Nat.{ℕ, zero, suc, ◌+◌, ◌*◌, ◌-◌, ◌/◌, ◌≤◌, ◌<◌}
use native.Mathlib.Omega.{arith}
use native.Mathlib.Numerals.{add-one}
use native.Mathlib.Nat.{div-eq_of_eq-mul_right}
use lib.ListN.{length, set, length-append}
use lib.Seq.{sets}
use Rattle.model.specs.Model.{SparseSet, Component, entity}
use Rattle.model.specs.Store.{Store, bytes_of}
use Rattle.model.specs.Snapshot.{Entry, components_of, live_version, entry_of, entries, component_bytes, entry_bytes, flat, listing, snapshot}
use Rattle.model.proofs.Lengths.{bytes_of_length}
use Rattle.model.proofs.ListLaws.{set_before}
use Rattle.memory.specs.Meaning.{meaning}
use Rattle.snapshot.specs.Wrote.{entry_for, index_bytes, WrittenUntil}
use Rattle.snapshot.proofs.Writing.{writing_start, writing_turn, writing_last}

-- ---- one entity, with values of v bytes

bytes_length : (v : ℕ) (ps : List Component) → length (component_bytes v ps) ≡ (1 + v) * length ps
bytes_length v [] = omega arith
bytes_length v (p ∷ ps) = omega (arith, length-append (bytes_of v p.value) (component_bytes v ps), bytes_of_length v p.value, bytes_length v ps)

pub entry_length : (v : ℕ) (t : Entry) → length (entry_bytes v t) ≡ 9 + (1 + v) * length t.components
entry_length v t =
    omega (
      arith,
      length-append (bytes_of 4 t.entity.index) (bytes_of 4 t.entity.version ++ (length t.components ∷ component_bytes v t.components)),
      length-append (bytes_of 4 t.entity.version) (length t.components ∷ component_bytes v t.components),
      bytes_of_length 4 t.entity.index,
      bytes_of_length 4 t.entity.version,
      bytes_length v t.components,
    )

-- the number of components, from the place after their bytes
pub entry_count : {o o' : List ℕ} {p r : ℕ} (v : ℕ) (ps : List Component) → WrittenUntil o o' p r (component_bytes v ps) → (r - p) / (1 + v) ≡ length ps
entry_count v ps w = div-eq_of_eq-mul_right (omega arith) (omega (arith, w.next, bytes_length v ps))

-- the count is stored last
pub entry_written : {o o₁ o₂ o₃ o₄ : List ℕ} {p r n : ℕ} (v : ℕ) (t : Entry) → o₁ ≡ sets o p (bytes_of 4 t.entity.index) → o₂ ≡ sets o₁ (p + 4) (bytes_of 4 t.entity.version)
    → WrittenUntil o₂ o₃ (p + 9) r (component_bytes v t.components) → o₄ ≡ set o₃ (p + 8) n → n ≡ length t.components → WrittenUntil o o₄ p r (entry_bytes v t)
entry_written {o} {o₁} {o₂} {o₃} {o₄} {p} {r} {n} v t a b d c m =
    let cs = component_bytes v t.components in
    let l = bytes_of 4 t.entity.index in
    let h = bytes_of 4 t.entity.version in
    let k = length t.components in
    let w₁ : WrittenUntil o o₁ p (p + 4) l = record { bytes = a; next = omega (arith, bytes_of_length 4 t.entity.index) } in
    let w₂ : WrittenUntil o₁ o₂ (p + 4) (p + 8) h = record { bytes = b; next = omega (arith, bytes_of_length 4 t.entity.version) } in
    let w₃ : WrittenUntil o₂ (set o₂ (p + 8) k) (p + 8) (p + 9) (k ∷ []) = record { bytes = refl; next = omega arith } in
    let w₄ : WrittenUntil (set o₂ (p + 8) k) o₄ (p + 9) r cs = record { bytes = c ∙ rw (m, d.bytes) (set_before cs o₂ (p + 8) (p + 9) k (omega arith)); next = d.next } in
    let g₁ = writing_turn l (h ++ (k ∷ cs)) (writing_start o p (entry_bytes v t)) refl w₁ in
    let g₂ = writing_turn h (k ∷ cs) g₁ refl w₂ in
    let g₃ = writing_turn (k ∷ []) cs g₂ refl w₃ in
    writing_last g₃ w₄

-- ---- one index

an_entry : (v i m : ℕ) (ss : List SparseSet) → 1 ≤ m → flat v (entry_of m i ss) ≡ entry_bytes v (record { entity = entity i m; components = components_of (entity i m) 0 ss })
an_entry v i zero ss h = absurd (omega arith)
an_entry v i (suc m) ss h = append-nil (entry_bytes v (record { entity = entity i (suc m); components = components_of (entity i (suc m)) 0 ss }))

module _ (v : ℕ) (w : List ℕ) (i m : ℕ) (is : m ≡ live_version i (meaning w).entities.live) where
  pub index_some : (m ≡ 0 → ⊥) → index_bytes v w i ≡ entry_bytes v (entry_for w i m)
  index_some h = rw (← is) (an_entry v i m (meaning w).storage.sets (omega arith))

-- ---- one index after another

pub flat_append : (v : ℕ) (ts us : List Entry) → flat v (ts ++ us) ≡ flat v ts ++ flat v us
flat_append v [] us = refl
flat_append v (t ∷ ts) us = ap (λ (l : List ℕ). entry_bytes v t ++ l) (flat_append v ts us) ∙ sym (append_assoc (entry_bytes v t) (flat v ts) (flat v us))

module _ (v : ℕ) (w : List ℕ) where
  abbrev m : Store
  m = meaning w

  -- what stands in the snapshot from index i on
  abbrev pub from : ℕ → List ℕ
  from i = flat v (entries i (m.entities.issued - i) m.entities.live m.storage.sets)

  pub from_turn : (i : ℕ) → i < m.entities.issued → from i ≡ index_bytes v w i ++ from (i + 1)
  from_turn i h =
      let e : m.entities.issued - i ≡ suc (m.entities.issued - (i + 1)) = omega arith in
      ap (λ (n : ℕ). flat v (entries i n m.entities.live m.storage.sets)) e
      ∙ flat_append v (entry_of (live_version i m.entities.live) i m.storage.sets) (entries (suc i) (m.entities.issued - (i + 1)) m.entities.live m.storage.sets)
      ∙ ap (λ (j : ℕ). index_bytes v w i ++ flat v (entries j (m.entities.issued - (i + 1)) m.entities.live m.storage.sets)) (sym (add-one i))

  pub from_none : (i : ℕ) → m.entities.issued ≤ i → from i ≡ []
  from_none i h =
      let e : m.entities.issued - i ≡ 0 = omega arith in
      ap (λ (n : ℕ). flat v (entries i n m.entities.live m.storage.sets)) e

  pub from_start : flat v (listing m) ≡ from 0
  from_start =
      let e : m.entities.issued - 0 ≡ m.entities.issued = omega arith in
      ap (λ (n : ℕ). flat v (entries 0 n m.entities.live m.storage.sets)) (sym e)

-- ---- the whole

module _ (s : Store) (v : ℕ) (width : v ≡ s.settings.value_bytes) where
  pub snapshot_length : length (snapshot s) ≡ 4 + length (flat v (listing s))
  unfolding snapshot
  snapshot_length =
      rw width (omega (arith, length-append (bytes_of 4 (length s.entities.live)) (flat s.settings.value_bytes (listing s)), bytes_of_length 4 (length s.entities.live)))

  pub snapshot_written : {o o₁ o₂ : List ℕ} {r : ℕ} (n : ℕ) → n ≡ length s.entities.live → o₁ ≡ sets o 0 (bytes_of 4 n) → WrittenUntil o₁ o₂ 4 r (flat v (listing s)) → WrittenUntil o o₂ 0 r (snapshot s)
  unfolding snapshot
  snapshot_written {o} {o₁} n e q u =
      let l = bytes_of 4 (length s.entities.live) in
      let f : WrittenUntil o o₁ 0 4 l = record { bytes = q ∙ rw e; next = omega (arith, bytes_of_length 4 (length s.entities.live)) } in
      let whole : snapshot s ≡ l ++ flat v (listing s) = rw width refl in
      writing_last (writing_turn l (flat v (listing s)) (writing_start o 0 (snapshot s)) whole f) u
