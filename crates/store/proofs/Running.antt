-- What the entry *run* promises, from what its two branches show. Assumes nothing.
use mathlib.Core.Path.{sym, ◌≡◌, refl}
use mathlib.Core.Bool.{true, false}
use mathlib.Core.List.{List}
use Prim.Native.Nat.{ℕ}
use lib.ListN.{length}
use Rattle.model.specs.Numbers.{UNSOUND}
use Rattle.model.specs.Store.{Bytes, words_needed}
use Rattle.model.specs.Run.{run}
use Rattle.words.proofs.Offsets.{column_start_needed}
use Rattle.words.specs.Shape.{column_start, shape_of}
use Rattle.memory.specs.Header.{capacity_of, kind_capacity_of, value_bytes_of}
use Rattle.memory.specs.Meaning.{meaning}
use Rattle.memory.specs.Arranged.{Sound}
use Rattle.run.specs.Stepping.{Completed}
use Rattle.run.specs.declared.Ran.{Ran}
use Rattle.store.specs.Entries.{Runs}

-- the words needed, of the store and of the header
pub needed_of : (w : List ℕ) → words_needed (meaning w).settings.capacity (meaning w).settings.kind_capacity (meaning w).settings.value_bytes ≡ column_start (shape_of w) (kind_capacity_of w)
unfolding meaning
needed_of w = sym (column_start_needed (capacity_of w) (kind_capacity_of w) (value_bytes_of w))

pub refused_run : (w t o : List ℕ) → (Sound w → ⊥) → Bytes t → Runs w w t o o (record { stop = UNSOUND; commands = 0; read = 0; written = 0 })
refused_run w t o d b =
    record {
      sound = false;
      decides = d;
      answered = record { stop = refl; commands = refl; read = refl; written = refl; bytes = refl };
      means = refl;
      leaves = refl;
      size = refl;
      past = refl;
      tape = b;
    }

pub completed_run : (w w' t o o' : List ℕ) (r : Ran) → Sound w → Bytes t → Completed w w' t o o' r (run t (length o) (meaning w)) → Runs w w' t o o' r
completed_run w w' t o o' r S b C =
    record {
      sound = true;
      decides = S;
      answered = record { stop = C.stop; commands = C.commands; read = C.read; written = C.written; bytes = C.bytes };
      means = C.becomes.means;
      leaves = (C.sound, C.each);
      size = C.becomes.size;
      past = rw (needed_of w) C.becomes.past;
      tape = b;
    }
