-- A run leaves sound words sound. Assumes nothing.
use Rattle.std.proofs.Common.{ℕ, Bool, true, false, List}
use Rattle.words.specs.Decides.{Decides}
use Rattle.memory.specs.Arranged.{Sound}
use Rattle.run.specs.declared.Ran.{Ran}
use Rattle.store.specs.Entries.{RunLeaves, Runs}
use Rattle.flips.specs.Trial.{Keeps}

left : (w w' t : List ℕ) (room : ℕ) (sound : Bool) → Decides sound (Sound w) → RunLeaves sound t room w w' → Keeps w w'
left w w' t room true d l S = l.0
left w w' t room false d l S = absurd (d S)

pub kept : {w w' t o o' : List ℕ} {r : Ran} → Runs w w' t o o' r → Keeps w w'
kept {w} {w'} {t} {o} h = left w w' t _ h.sound h.decides h.leaves
