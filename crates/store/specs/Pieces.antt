-- A tape that is fed in pieces, as over a line. Said beside the contracts, for the theorem of proofs/Pieces.antt. Assumes nothing.
use Rattle.std.specs.Prelude.{List, ◌++◌, ℕ, take, drop}
use Rattle.run.specs.declared.Ran.{Ran}
use Rattle.store.specs.Entries.{Runs}
use Rattle.store.specs.Theorems.{together}

-- the tape t, fed run after run, each with a buffer of its own, takes the words w to w'; r and bytes are what the runs answer together
pub data Fed : List ℕ → List ℕ → List ℕ → Ran → List ℕ → Type 0 where
  -- the last run, or the only one
  last : {w w' t o o' : List ℕ} {r : Ran} → Runs w w' t o o' r → Fed w t w' r (take r.written o')
  -- a run that was given t of the tape, wherever it is cut, and stopped by whatever number; u is yet to come, and is fed from the byte where it stopped
  piece : {w w₁ w' t o o₁ bytes : List ℕ} {a r : Ran} (u : List ℕ) → Runs w w₁ t o o₁ a → Fed w₁ (drop a.read (t ++ u)) w' r bytes
      → Fed w (t ++ u) w' (together a r) (take a.written o₁ ++ bytes)
