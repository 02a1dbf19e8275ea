-- A step of a start: all kinds of the table freed at once. Assumes nothing.
use mathlib.Core.Path.{◌≡◌, sym, ap, ◌∙◌}
use mathlib.Core.List.{List}
use Prim.Native.Nat.{ℕ, ◌≤◌}
use native.Mathlib.Omega.{arith}
use lib.ListN.{length, get_or, replicate, get_or-replicate}
use lib.Seq.{get_or-take}
use Rattle.model.specs.Numbers.{MAX_KINDS}
use Rattle.words.specs.Offsets.{TABLE, STAGED_KINDS, UNREGISTERED}
use Rattle.words.proofs.Part.{patch, get_d_between, patch_front, patch_between, patch_rest, patch_length}
use Rattle.memory.specs.Fresh.{TableCleared}

pub tabled : (w ys : List ℕ) → STAGED_KINDS ≤ length w → length ys ≡ MAX_KINDS → ys ≡ replicate MAX_KINDS UNREGISTERED → TableCleared w MAX_KINDS (patch TABLE STAGED_KINDS w ys)
tabled w ys h l q =
    let v = patch TABLE STAGED_KINDS w ys in
    record {
      size = patch_length TABLE STAGED_KINDS w ys (omega arith) h l;
      free = λ k hk.
          sym (get_d_between TABLE STAGED_KINDS k v 0 (omega arith))
          ∙ ap (λ (x : List ℕ). get_or x k 0) (patch_between TABLE STAGED_KINDS w ys (omega arith) h l ∙ q)
          ∙ get_or-replicate MAX_KINDS k UNREGISTERED 0 hk;
      low = λ i hi.
          sym (get_or-take TABLE v i 0 hi) ∙ ap (λ (x : List ℕ). get_or x i 0) (patch_front TABLE STAGED_KINDS w ys (omega arith) h l) ∙ get_or-take TABLE w i 0 hi;
      rest = patch_rest TABLE STAGED_KINDS w ys (omega arith) h l;
    }
