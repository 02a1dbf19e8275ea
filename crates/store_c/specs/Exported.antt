-- What *run* gives C: a struct with C's layout. Assumes nothing.
use Rattle.run.specs.declared.Ran.{Ran}
use Rattle.store_c.specs.declared.ExportedRan.{ExportedRan}

-- run's answer, with C's layout
abbrev pub as_ran : ExportedRan → Ran
as_ran r = record { stop = r.stop; commands = r.commands; read = r.read; written = r.written }
