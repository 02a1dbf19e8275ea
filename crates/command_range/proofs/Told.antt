-- What RANGE tells and leaves, by the range that was found. Assumes nothing.
use mathlib.Core.Path.{◌≡◌, ap, sym, ◌∙◌}
use mathlib.Core.Bool.{true, false}
use mathlib.Core.List.{List, [], ◌∷◌, ◌++◌}
use Prim.Native.Nat.{ℕ, ◌+◌, ◌≤◌, ◌<◌}
use native.Mathlib.Omega.{arith}
use borrow.Author.Tests.{lt-ltb}
use lib.ListN.{length}
use lib.Seq.{sets}
use Rattle.model.specs.Model.{Range, none, found, range_for, range_under}
use Rattle.model.specs.Sound.{StoreSound}
use Rattle.model.specs.Store.{Store, bytes_of, staged_kinds, with_control, empty_both}
use Rattle.model.specs.Commands.{RANGE, range_bytes, accepted}
use Rattle.model.specs.Run.{accepts, does}
use Rattle.model.proofs.Bounds.{range_bounded}
use Rattle.model.proofs.Rules.{one_under}
use Rattle.model.proofs.Outcomes.{range_does}
use Rattle.model.proofs.ListLaws.{sets_join}

-- the model's range of the hand without the bar, by the store's rule
abbrev pub range_told : Store → Range
range_told s = range_under s.settings.newer (staged_kinds s) s.control.excluded s.storage

-- by the older rule it is 01's; by the newer too, where one kind at most is excluded, and none where more are
pub told_older : (s : Store) → s.settings.newer ≡ false → {q : Range} → q ≡ range_for (staged_kinds s) s.control.excluded s.storage → q ≡ range_told s
told_older s o e = rw o e

pub told_none : (s : Store) → s.settings.newer ≡ true → 1 < length s.control.excluded → none ≡ range_told s
told_none s n h = rw (n, lt-ltb 1 (length s.control.excluded) h)

pub told_one : (s : Store) → length s.control.excluded ≤ 1 → {q : Range} → q ≡ range_for (staged_kinds s) s.control.excluded s.storage → q ≡ range_told s
told_one s h e = e ∙ sym (one_under s.settings.newer (staged_kinds s) s.control.excluded s.storage h)

pub range_told_law : (s : Store) {q : Range} → q ≡ range_told s → does RANGE s ≡ accepts (with_control s (empty_both s.control)) (range_bytes q)
unfolding accepted
range_told_law s e = range_does s ∙ ap (λ (r : Range). accepts (with_control s (empty_both s.control)) (range_bytes r)) (sym e)

-- start and end fit a word
pub range_fits : (s : Store) → StoreSound s → (a b : ℕ) → found a b ≡ range_told s → (a < 4294967296) × (b < 4294967296)
range_fits s S a b e =
    let h = range_bounded s S s.settings.newer (staged_kinds s) s.control.excluded a b (sym e) in
    (omega (arith, h.0, h.1, S.limits), omega (arith, h.1, S.limits))

-- the two bytes, then start, then end
pub range_bytes_law : (o : List ℕ) {o₁ o₂ o' : List ℕ} (at f a b : ℕ) → o₁ ≡ sets o at (0 ∷ f ∷ []) → o₂ ≡ sets o₁ (at + 2) (bytes_of 4 a) → o' ≡ sets o₂ (at + 6) (bytes_of 4 b) → o' ≡ sets o at (0 ∷ f ∷ bytes_of 4 a ++ bytes_of 4 b)
range_bytes_law o at f a b p q r =
    r
    ∙ ap (λ (l : List ℕ). sets l (at + 6) (bytes_of 4 b)) (q ∙ ap (λ (l : List ℕ). sets l (at + 2) (bytes_of 4 a)) p ∙ sets_join o at (0 ∷ f ∷ []) (bytes_of 4 a))
    ∙ sets_join o at (0 ∷ f ∷ bytes_of 4 a) (bytes_of 4 b)
