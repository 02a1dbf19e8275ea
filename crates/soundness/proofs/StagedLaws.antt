-- The staged and the excluded list, as tables of words: their kinds are a part of the words. Assumes nothing.
use mathlib.Core.Path.{◌≡◌, ◌∙◌}
use mathlib.Core.List.{List, map}
use Prim.Native.Nat.{ℕ, ◌≤◌}
use native.Mathlib.Decide.{dec_le}
use native.Mathlib.Omega.{arith}
use lib.ListN.{get_or-eq_default}
use Rattle.model.specs.Numbers.{LIST_CAPACITY}
use Rattle.model.specs.Model.{Component, kind_of}
use Rattle.model.specs.Sound.{In, Distinct, ValueFits, no_component, StagedSound}
use Rattle.model.proofs.Operations.{zero_fits}
use Rattle.words.specs.Table.{table}
use Rattle.words.proofs.Tables.{length_table, get_d_table, map_table}

pub staged_sound : (v : ℕ) (kinds : List ℕ) (n : ℕ) (f : ℕ → Component) (l : List ℕ) → table n (λ i. kind_of (f i)) ≡ l
    → n ≤ LIST_CAPACITY → Distinct l → ((k : ℕ) → In l k → In kinds k) → ((i : ℕ) → ValueFits v (f i).value) → StagedSound v kinds (table n f)
staged_sound v kinds n f l e few once known values =
    let m : map kind_of (table n f) ≡ l = map_table kind_of n f ∙ e in
    record {
      few = omega (arith, length_table n f);
      once = rw m once;
      known = rw m known;
      values = λ j.
          elim (dec_le n j) [
            | yes h ↦ rw (get_or-eq_default (table n f) no_component {n = j} (omega (arith, length_table n f))) (zero_fits v)
            | no h ↦ rw (get_d_table n f j no_component (omega arith)) (values j)
          ];
    }
