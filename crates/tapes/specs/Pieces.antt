-- A tape that is run in pieces: "A run of the tape from `read` on goes on where this one stopped" (bindings/c/yirbarn.h). Assumes nothing.
use Rattle.std.specs.Prelude.{◌++◌, ◌+◌}
use Rattle.model.specs.Run.{Ran}

-- two runs as one: the second leaves the store and has the stop, the counts are added, and the second's answers stand behind the first's
abbrev pub in_turn : Ran → Ran → Ran
in_turn a b = record { store = b.store; stop = b.stop; commands = a.commands + b.commands; read = a.read + b.read; bytes = a.bytes ++ b.bytes }
