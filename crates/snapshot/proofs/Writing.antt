-- Bytes written one run after another: what is left to write is the rest. Assumes nothing.
use mathlib.Core.Path.{◌≡◌, refl, ap, sym, ◌∙◌}
use mathlib.Core.List.{List, [], ◌++◌}
use Prim.Native.Nat.{ℕ, ◌+◌, ◌≤◌}
use native.Mathlib.Omega.{arith}
use lib.ListN.{length, length-append}
use lib.Seq.{sets, length-sets}
use Rattle.model.proofs.ListLaws.{sets_join}
use Rattle.snapshot.specs.Wrote.{WrittenUntil}

-- all is to stand at `at` of o₀; what is written so far left o, with the rest to come at p
pub record Writing (o₀ : List ℕ) (at : ℕ) (all o : List ℕ) (p : ℕ) (rest : List ℕ) : Type 0 where
  pub bytes : sets o₀ at all ≡ sets o p rest
  pub place : p + length rest ≡ at + length all
  pub size : length o ≡ length o₀

pub writing_start : (o : List ℕ) (at : ℕ) (all : List ℕ) → Writing o at all o at all
writing_start o at all = record { bytes = refl; place = refl; size = refl }

pub writing_turn : {o₀ all o o' rest : List ℕ} {at p p' : ℕ} (a rest' : List ℕ) → Writing o₀ at all o p rest → rest ≡ a ++ rest' → WrittenUntil o o' p p' a → Writing o₀ at all o' p' rest'
writing_turn {o = o} {rest = rest} {p = p} a rest' g e v =
    let z : length rest ≡ length a + length rest' = ap (λ (l : List ℕ). length l) e ∙ length-append a rest' in
    rw (v.bytes, v.next)
    (record {
      bytes = g.bytes ∙ ap (λ (l : List ℕ). sets o p l) e ∙ sym (sets_join o p a rest');
      place = omega (arith, z, g.place);
      size = length-sets o p a ∙ g.size;
    })

-- the last run
pub writing_last : {o₀ all o o' rest : List ℕ} {at p p' : ℕ} → Writing o₀ at all o p rest → WrittenUntil o o' p p' rest → WrittenUntil o₀ o' at p' all
writing_last {rest = rest} g v = record { bytes = v.bytes ∙ sym g.bytes; next = omega (arith, v.next, g.place) }

-- nothing is left
pub writing_end : {o₀ all o rest : List ℕ} {at p : ℕ} → Writing o₀ at all o p rest → rest ≡ [] → WrittenUntil o₀ o at p all
writing_end {o = o} {rest = rest} {p = p} g e =
    let z : length rest ≡ 0 = ap (λ (l : List ℕ). length l) e in
    record { bytes = sym (g.bytes ∙ ap (λ (l : List ℕ). sets o p l) e); next = omega (arith, z, g.place) }

-- there is room for a run
pub writing_room : {o₀ all o rest : List ℕ} {at p : ℕ} (a rest' : List ℕ) → Writing o₀ at all o p rest → rest ≡ a ++ rest' → at + length all ≤ length o₀ → p + length a ≤ length o
writing_room {rest = rest} a rest' g e h =
    let z : length rest ≡ length a + length rest' = ap (λ (l : List ℕ). length l) e ∙ length-append a rest' in
    omega (arith, z, g.place, g.size)
