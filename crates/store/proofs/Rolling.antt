-- What the entry *roll* promises, from what its branches show. Assumes nothing.
use mathlib.Core.List.{List}
use Prim.Native.Nat.{ℕ, ◌≤◌, ◌<◌}
use lib.ListN.{length}
use Rattle.model.specs.Snapshot.{snapshot}
use Rattle.model.specs.Entries.{roll}
use Rattle.model.specs.Numbers.{UNSOUND, NOROOM}
use Rattle.memory.specs.Meaning.{meaning}
use Rattle.memory.specs.Arranged.{Sound}
use Rattle.snapshot.specs.Wrote.{WrittenUntil}
use Rattle.snapshot.proofs.Rolled.{roll_short, roll_fits}
use Rattle.store.specs.Entries.{Rolls}
use Rattle.store.proofs.Emitting.{unsound_emits, refuses_over, writes_over}

pub refused_roll : (w o : List ℕ) → (Sound w → ⊥) → Rolls w o o (record { number = UNSOUND; written = 0 })
refused_roll w o d = unsound_emits w o (roll (length o) (meaning w)) d

pub short_roll : (w o : List ℕ) → Sound w → length o < length (snapshot (meaning w)) → Rolls w o o (record { number = NOROOM; written = 0 })
short_roll w o S h = refuses_over w o NOROOM (roll (length o) (meaning w)) S (roll_short (length o) (meaning w) h)

pub written_roll : (w o o' : List ℕ) (n : ℕ) → Sound w → length (snapshot (meaning w)) ≤ length o → WrittenUntil o o' 0 n (snapshot (meaning w)) → Rolls w o o' (record { number = 0; written = n })
written_roll w o o' n S h W = writes_over w o o' (snapshot (meaning w)) n (roll (length o) (meaning w)) S (roll_fits (length o) (meaning w) h) h W
