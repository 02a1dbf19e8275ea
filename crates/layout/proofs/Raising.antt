-- Numbers that are all raised by one, and a part of an array that is. Assumes nothing.
use mathlib.Core.Path.{◌≡◌, ap, ◌∙◌}
use mathlib.Core.List.{List, ◌++◌}
use Prim.Native.Nat.{ℕ, ◌+◌, ◌-◌, ◌≤◌, ◌<◌}
use native.Mathlib.Omega.{arith}
use lib.ListN.{length, get_or, take, drop, length-append, length-drop}
use lib.Seq.{length-take-le, get_or-take}
use Rattle.std.proofs.lemmas.List.{get_or_append_left, get_or-append_right}
use Rattle.words.specs.Part.{between}
use Rattle.words.proofs.Part.{patch, get_d_between, length_between}
use Rattle.layout.specs.Grow.{Raised, RaiseAsk}

-- the numbers before i are raised, those from i on are as they were
pub record Raising (d₀ : List ℕ) (by : ℕ) (d : List ℕ) (i : ℕ) : Type 0 where
  pub size : length d ≡ length d₀
  pub done : (j : ℕ) → j < i → get_or d j 0 ≡ get_or d₀ j 0 + by
  pub rest : (j : ℕ) → i ≤ j → get_or d j 0 ≡ get_or d₀ j 0

-- ---- a part that is raised for itself

-- each number of the part stays a byte, since it does in the whole
pub part_asked : (d : List ℕ) (a e by : ℕ) → a ≤ e → RaiseAsk d a e by → RaiseAsk (between a e d) 0 (length (between a e d)) by
part_asked d a e by o ask =
    let long : length (between a e d) ≡ e - a = length_between a e d ask.within in
    record {
      within = omega arith;
      fits = λ i low high.
          let there : get_or (between a e d) i 0 ≡ get_or d (a + i) 0 = get_d_between a e i d 0 (omega arith) in
          omega (arith, there, ask.fits (a + i) (omega arith) (omega arith));
    }

-- the whole with the raised part in the part's place
pub whole_raised : (d r : List ℕ) (a e by : ℕ) → a ≤ e → e ≤ length d → Raised (between a e d) 0 (length (between a e d)) by r → Raised d a e by (patch a e d r)
whole_raised d r a e by o l R =
    let long : length (between a e d) ≡ e - a = length_between a e d l in
    let rest = drop (e - a) (drop a d) in
    let front : length (take a d) ≡ a = length-take-le a d (omega arith) in
    let part : length r ≡ e - a = R.size ∙ long in
    record {
      size = omega (arith, length-append (take a d) (r ++ rest), length-append r rest, length-drop (e - a) (drop a d), length-drop a d);
      before = λ i h. get_or_append_left (take a d) (r ++ rest) 0 i (omega arith) ∙ get_or-take a d i 0 h;
      inside = λ i low high.
          let there : a + (i - a) ≡ i = omega arith in
          get_or-append_right (take a d) (r ++ rest) a i 0 front low ∙ get_or_append_left r rest 0 (i - a) (omega arith) ∙ R.inside (i - a) (omega arith) (omega arith)
          ∙ ap (λ (x : ℕ). x + by) (get_d_between a e (i - a) d 0 (omega arith) ∙ ap (λ (k : ℕ). get_or d k 0) there);
    }
