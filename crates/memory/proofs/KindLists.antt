-- The staged kinds and the excluded ones in the words. Assumes nothing.
use mathlib.Core.Path.{◌≡◌, ◌∙◌}
use mathlib.Core.List.{List}
use Prim.Native.Nat.{ℕ, ◌+◌}
use native.Mathlib.Omega.{arith}
use lib.ListN.{length}
use Rattle.model.specs.Model.{kind_of}
use Rattle.model.specs.Store.{staged_kinds}
use Rattle.words.specs.Offsets.{EXCLUDED_KINDS, EXCLUDED_LEN, STAGED_KINDS, STAGED_LEN}
use Rattle.words.specs.Part.{between}
use Rattle.words.proofs.Tables.{length_table, words_table, map_table}
use Rattle.memory.specs.Header.{staged_len, excluded_len, excluded_at}
use Rattle.memory.specs.Meaning.{staged_at, staged_in, excluded_in, meaning}
use Rattle.memory.specs.Arranged.{Arranged}
use Rattle.memory.specs.KindLists.{KeptAt}
use Rattle.memory.proofs.Frames.{long}

module _ (w : List ℕ) where
  pub staged_length : length (meaning w).control.staged ≡ staged_len w
  unfolding meaning staged_in
  staged_length = length_table (staged_len w) (staged_at w)

  pub excluded_length : length (meaning w).control.excluded ≡ excluded_len w
  unfolding meaning excluded_in
  excluded_length = length_table (excluded_len w) (excluded_at w)

  module _ (A : Arranged w) where
    pub staged_kinds_law : staged_kinds (meaning w) ≡ between STAGED_KINDS (STAGED_KINDS + staged_len w) w
    unfolding meaning staged_in
    staged_kinds_law = map_table kind_of (staged_len w) (staged_at w) ∙ words_table w STAGED_KINDS (staged_len w) (omega (arith, A.staged, long w A))

    pub excluded_kinds : (meaning w).control.excluded ≡ between EXCLUDED_KINDS (EXCLUDED_KINDS + excluded_len w) w
    unfolding meaning excluded_in
    excluded_kinds = words_table w EXCLUDED_KINDS (excluded_len w) (omega (arith, A.excluded, long w A))

pub staged_kept : KeptAt STAGED_LEN STAGED_KINDS staged_kinds (λ s. length s.control.staged)
staged_kept =
    record {
      counted = λ w A. staged_length w;
      few = λ w A. A.staged;
      read = λ w A. staged_kinds_law w A;
      before = omega arith;
      inside = omega arith;
      known = λ s S. S.staged.known;
    }

pub excluded_kept : KeptAt EXCLUDED_LEN EXCLUDED_KINDS (λ s. s.control.excluded) (λ s. length s.control.excluded)
excluded_kept =
    record {
      counted = λ w A. excluded_length w;
      few = λ w A. A.excluded;
      read = λ w A. excluded_kinds w A;
      before = omega arith;
      inside = omega arith;
      known = λ s S. S.excluded.known;
    }
