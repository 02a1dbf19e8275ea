-- The answer of TAKE: the 0 byte, then the bytes of what was held. Assumes nothing.
use mathlib.Core.Path.{◌≡◌, ap, ◌∙◌}
use mathlib.Core.List.{List, [], ◌∷◌}
use Prim.Native.Nat.{ℕ, ◌+◌, ◌*◌, ◌≤◌}
use native.Mathlib.Omega.{arith}
use lib.ListN.{length, length-map}
use lib.Seq.{sets}
use Rattle.model.specs.Model.{Entity, kind_of}
use Rattle.model.specs.Store.{Store, staged_kinds}
use Rattle.model.specs.Commands.{TAKE, held_bytes, answer_length}
use Rattle.model.proofs.Lengths.{held_length}
use Rattle.model.proofs.ListLaws.{sets_join}
use Rattle.command.specs.Acted.{Written}

-- TAKE: the bytes after the 0 byte, and how many they are
pub taken_written : (o o₁ o' held : List ℕ) (at n : ℕ) → o₁ ≡ sets o at (0 ∷ []) → o' ≡ sets o₁ (at + 1) held → n ≡ length held → Written o o' at (1 + n) (0 ∷ held)
taken_written o o₁ o' held at n b q h = record { bytes = q ∙ ap (λ (l : List ℕ). sets l (at + 1) held) b ∙ sets_join o at (0 ∷ []) held; count = omega arith }

-- they have room where the accepted answer has
pub held_room : (at total : ℕ) (e : Entity) (s : Store) → at + answer_length (TAKE e) s ≤ total → at + 1 + length (held_bytes s.settings.value_bytes e (staged_kinds s) s.storage) ≤ total
held_room at total e s h =
    let q : length (held_bytes s.settings.value_bytes e (staged_kinds s) s.storage) ≡ (1 + s.settings.value_bytes) * length s.control.staged =
    held_length s.settings.value_bytes e (staged_kinds s) s.storage ∙ ap (λ (n : ℕ). (1 + s.settings.value_bytes) * n) (length-map s.control.staged kind_of) in
    omega (arith, q)
