-- What a word holds after a run of stores. Assumes nothing.
use mathlib.Core.Path.{◌≡◌, refl, ◌∙◌}
use mathlib.Core.Logic.{◌≢◌}
use mathlib.Core.List.{List, [], ◌∷◌}
use Prim.Native.Nat.{ℕ, zero, suc, ◌<◌}
use native.Mathlib.Omega.{arith}
use lib.ListN.{length, get_or, set, drop, length-set}
use lib.Seq.{get_or-set_same, get_or-set_other, drop-set-lt}
use Rattle.words.specs.Stores.{stores}

-- no store of the run is at j
abbrev pub Misses : List (ℕ × ℕ) → ℕ → Type 0
Misses [] j = Unit {0}
Misses (s ∷ ss) j = (j ≢ s.0) × Misses ss j

pub length_stores : (w : List ℕ) (ss : List (ℕ × ℕ)) → length (stores w ss) ≡ length w
length_stores w [] = refl
length_stores w (s ∷ ss) = length_stores (set w s.0 s.1) ss ∙ length-set w s.0 s.1

-- where no store is, the word is as it was
pub miss : (w : List ℕ) (ss : List (ℕ × ℕ)) (j : ℕ) → Misses ss j → get_or (stores w ss) j 0 ≡ get_or w j 0
miss w [] j m = refl
miss w (s ∷ ss) j m = miss (set w s.0 s.1) ss j m.1 ∙ get_or-set_other w s.0 j s.1 0 m.0

-- store k of the run puts v at i, and no later one is at i
abbrev pub Hits : List (ℕ × ℕ) → ℕ → ℕ → ℕ → Type 0
Hits [] k i v = ⊥
Hits (s ∷ ss) zero i v = (i ≡ s.0) × (v ≡ s.1) × Misses ss i
Hits (s ∷ ss) (suc k) i v = Hits ss k i v

-- the last store at a place is what it holds
pub hit : (w : List ℕ) (ss : List (ℕ × ℕ)) (k i v : ℕ) → Hits ss k i v → i < length w → get_or (stores w ss) i 0 ≡ v
hit w [] k i v m h = absurd m
hit w (s ∷ ss) zero i v m h =
    miss (set w s.0 s.1) ss i m.2
    ∙ rw (m.0, m.1) (get_or-set_same w s.0 s.1 0 (rw m.0 at h))
hit w (s ∷ ss) (suc k) i v m h = hit (set w s.0 s.1) ss k i v m (omega (arith, length-set w s.0 s.1))

-- each store of the run is below k
abbrev pub StoresBelow : ℕ → List (ℕ × ℕ) → Type 0
StoresBelow k [] = Unit {0}
StoresBelow k (s ∷ ss) = (s.0 < k) × StoresBelow k ss

pub drop_stores : (k : ℕ) (w : List ℕ) (ss : List (ℕ × ℕ)) → StoresBelow k ss → drop k (stores w ss) ≡ drop k w
drop_stores k w [] b = refl
drop_stores k w (s ∷ ss) b = drop_stores k (set w s.0 s.1) ss b.1 ∙ drop-set-lt k w s.0 s.1 b.0
