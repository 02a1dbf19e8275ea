-- That the snapshot's bytes determine its entries. Assumes nothing.
use mathlib.Core.Path.{◌≡◌, refl, ap₂}
use mathlib.Core.List.{List, [], ◌∷◌, ◌++◌, head-eq_of_cons-eq, tail-eq_of_cons-eq, nil≢cons, cons≢nil}
use Prim.Native.Nat.{ℕ, ◌^◌, ◌<◌}
use lib.ListN.{length}
use Rattle.model.specs.Store.{bytes_of}
use Rattle.model.specs.Snapshot.{Entry, component_bytes, entry_bytes, flat}
use Rattle.model.proofs.Encoding.{bytes_of_inj, FitComponents, storage_inj}

pub record FitEntry (v : ℕ) (t : Entry) : Type 0 where
  pub index : t.entity.index < 256 ^ 4
  pub version : t.entity.version < 256 ^ 4
  pub components : FitComponents v t.components

pub entry_inj : (v : ℕ) (t u : Entry) (r s : List ℕ) → FitEntry v t → FitEntry v u → entry_bytes v t ++ r ≡ entry_bytes v u ++ s → (t ≡ u) × (r ≡ s)
entry_inj v t u r s ft fu e =
    let a = bytes_of_inj 4 t.entity.index u.entity.index (bytes_of 4 t.entity.version ++ (length t.components ∷ (component_bytes v t.components ++ r))) (bytes_of 4 u.entity.version ++ (length u.components ∷ (component_bytes v u.components ++ s))) ft.index fu.index e in
    let b = bytes_of_inj 4 t.entity.version u.entity.version (length t.components ∷ (component_bytes v t.components ++ r)) (length u.components ∷ (component_bytes v u.components ++ s)) ft.version fu.version a.1 in
    let c = storage_inj v t.components u.components r s ft.components fu.components (head-eq_of_cons-eq b.1) (tail-eq_of_cons-eq b.1) in
    ((λ i. record { entity = record { index = a.0 i; version = b.0 i }; components = c.0 i }), c.1)

abbrev pub FitEntries : ℕ → List Entry → Type 0
FitEntries v [] = Unit {0}
FitEntries v (t ∷ ts) = FitEntry v t × FitEntries v ts

pub flat_inj : (v : ℕ) (ts us : List Entry) → FitEntries v ts → FitEntries v us → flat v ts ≡ flat v us → ts ≡ us
flat_inj v [] [] ft fu e = refl
flat_inj v [] (u ∷ us) ft fu e = absurd (nil≢cons e)
flat_inj v (t ∷ ts) [] ft fu e = absurd (cons≢nil e)
flat_inj v (t ∷ ts) (u ∷ us) ft fu e =
    let h = entry_inj v t u (flat v ts) (flat v us) ft.0 fu.0 e in
    ap₂ {C = List Entry} (λ x xs. x ∷ xs) h.0 (flat_inj v ts us ft.1 fu.1 h.1)
