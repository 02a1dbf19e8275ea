-- Numbers in bytes and back; and that the snapshot's bytes determine an entry's components. Assumes nothing.
use mathlib.Core.Path.{◌≡◌, refl, ap₂, sym, ◌∙◌}
use mathlib.Core.List.{List, [], ◌∷◌, ◌++◌, append_assoc, head-eq_of_cons-eq, tail-eq_of_cons-eq}
use Prim.Native.Nat.{ℕ, zero, suc, ◌/◌, ◌%◌, ◌^◌, ◌<◌}
use native.Mathlib.Omega.{arith}
use native.Mathlib.Nat.{pow-suc, div-lt_iff_lt-mul}
use lib.Dec.{lit<}
use lib.ListN.{length}
use Rattle.model.specs.Model.{Component}
use Rattle.model.specs.Store.{bytes_of, number, Bytes}
use Rattle.model.specs.Snapshot.{component_bytes}
use Rattle.model.specs.Sound.{ValueFits}

-- a number of n bytes is the number of its bytes
pub number_bytes : (n x : ℕ) → x < 256 ^ n → number (bytes_of n x) ≡ x
number_bytes zero x h = omega (arith, h)
number_bytes (suc n) x h =
    let q : x / 256 < 256 ^ n = (div-lt_iff_lt-mul (lit< tt)).1 (rw pow-suc at h) in
    rw (number_bytes n (x / 256) q) (omega arith)

pub bytes_of_law : (n x : ℕ) → Bytes (bytes_of n x)
bytes_of_law zero x = tt
bytes_of_law (suc n) x = (omega arith, bytes_of_law n (x / 256))

pub bytes_append : (a b : List ℕ) → Bytes a → Bytes b → Bytes (a ++ b)
bytes_append [] b h i = i
bytes_append (x ∷ a) b h i = (h.0, bytes_append a b h.1 i)

-- a number of n bytes is read back, and so is what follows it
pub bytes_of_inj : (n x y : ℕ) (r s : List ℕ) → x < 256 ^ n → y < 256 ^ n → bytes_of n x ++ r ≡ bytes_of n y ++ s → (x ≡ y) × (r ≡ s)
bytes_of_inj zero x y r s hx hy e = (omega (arith, hx, hy), e)
bytes_of_inj (suc n) x y r s hx hy e =
    let m : x % 256 ≡ y % 256 = head-eq_of_cons-eq e in
    let hx' : x / 256 < 256 ^ n = (div-lt_iff_lt-mul (lit< tt)).1 (rw pow-suc at hx) in
    let hy' : y / 256 < 256 ^ n = (div-lt_iff_lt-mul (lit< tt)).1 (rw pow-suc at hy) in
    let t = bytes_of_inj n (x / 256) (y / 256) r s hx' hy' (tail-eq_of_cons-eq e) in
    let q : x / 256 ≡ y / 256 = t.0 in
    (omega arith, t.1)

-- the values are of v bytes
abbrev pub FitComponents : ℕ → List Component → Type 0
FitComponents v [] = Unit {0}
FitComponents v (p ∷ ps) = ValueFits v p.value × FitComponents v ps

pub storage_inj : (v : ℕ) (ps qs : List Component) (r s : List ℕ) → FitComponents v ps → FitComponents v qs → length ps ≡ length qs → component_bytes v ps ++ r ≡ component_bytes v qs ++ s → (ps ≡ qs) × (r ≡ s)
storage_inj v [] [] r s fp fq l e = (refl, e)
storage_inj v [] (q ∷ qs) r s fp fq l e = absurd (omega arith)
storage_inj v (p ∷ ps) [] r s fp fq l e = absurd (omega arith)
storage_inj v (p ∷ ps) (q ∷ qs) r s fp fq l e =
    let k : p.kind ≡ q.kind = head-eq_of_cons-eq e in
    let e' = sym (append_assoc (bytes_of v p.value) (component_bytes v ps) r) ∙ tail-eq_of_cons-eq e ∙ append_assoc (bytes_of v q.value) (component_bytes v qs) s in
    let x = bytes_of_inj v p.value q.value (component_bytes v ps ++ r) (component_bytes v qs ++ s) fp.0 fq.0 e' in
    let t = storage_inj v ps qs r s fp.1 fq.1 (omega arith) x.1 in
    let h : p ≡ q = λ i. record { kind = k i; value = x.0 i } in
    (ap₂ {C = List Component} (λ y ys. y ∷ ys) h t.0, t.1)
