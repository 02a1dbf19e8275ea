-- What the program `tape` does to a reader and a writer, where their bytes are known. Assumes nothing.
use Rattle.std.specs.Prelude.{◌≡◌, List, ℕ, ◌<◌, ◌≤◌, length, take, drop, Option, Some, IfSome}
use Rattle.std.specs.Io.KnownBytes.{Keeps, Appends, Consumes}
use Rattle.tape.specs.declared.Failure.{Failure}
use Rattle.tape.specs.declared.Failure.TheVariants.{Input, Output}
use Rattle.tape.specs.Output.{output}

-- the tape is the reader's next bytes, 16,384 at most, and the rest are left; the writer takes its output
abbrev pub Played : Option (List ℕ) → Option (List ℕ) → Option (List ℕ) → Option (List ℕ) → Type 0
Played read left old new = IfSome read (λ xs. Appends old new (output (take 16384 xs)) × (left ≡ Some (drop 16384 xs)))

-- the writer took a front part of the bytes b, and not all of them
abbrev pub CutShort : Option (List ℕ) → Option (List ℕ) → List ℕ → Type 0
CutShort old new b = (n : ℕ) × (n < length b) × Appends old new (take n b)

-- after a failed read nothing is written, and 16,384 bytes at most are gone from the reader; after a failed write the writer took a front part of the
-- output, and the tape is gone from the reader as where none fails
abbrev pub Unanswered : Failure → Option (List ℕ) → Option (List ℕ) → Option (List ℕ) → Option (List ℕ) → Type 0
Unanswered (Input e) read left old new = Keeps old new × ((bs : List ℕ) × (length bs ≤ 16384) × Consumes read left bs)
Unanswered (Output e) read left old new = IfSome read (λ xs. CutShort old new (output (take 16384 xs)) × (left ≡ Some (drop 16384 xs)))
