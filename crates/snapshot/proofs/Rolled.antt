-- The model's *roll* by the length of the snapshot: refused where there is less room, else the snapshot. Assumes nothing.
use mathlib.Core.Path.{◌≡◌}
use Prim.Native.Nat.{ℕ, ◌≤◌, ◌<◌}
use borrow.Author.Tests.{lt-ltb, le-ltb}
use lib.ListN.{length}
use Rattle.model.specs.Store.{Store}
use Rattle.model.specs.Snapshot.{snapshot}
use Rattle.model.specs.Entries.{refuses_emit, writes, roll}
use Rattle.model.specs.Numbers.{NOROOM}

pub roll_short : (room : ℕ) (s : Store) → room < length (snapshot s) → roll room s ≡ refuses_emit NOROOM
unfolding roll
roll_short room s h = rw (lt-ltb room (length (snapshot s)) h)

pub roll_fits : (room : ℕ) (s : Store) → length (snapshot s) ≤ room → roll room s ≡ writes (snapshot s)
unfolding roll
roll_fits room s h = rw (le-ltb room (length (snapshot s)) h)
