-- What reads may answer, and what they leave of a reader's bytes, where those are known. Assumes nothing.
use Rattle.std.specs.Prelude.{◌≡◌, ℕ, ◌≤◌, List, length, take, drop, Result, Ok, Err, Option, Some, IfSome}
use Rattle.std.specs.Io.KnownBytes.{Consumes}

-- no more bytes than there was room for, unless it failed
abbrev pub Came : {E : Type 0} → Result ℕ E → ℕ → Type 0
Came (Ok n) room = n ≤ room
Came (Err e) room = Unit {0}

-- n bytes at the front of the buffer's bytes b are the reader's next, as many as there was room for or it had left, and the rest are still left
abbrev pub Taken : Option (List ℕ) → Option (List ℕ) → List ℕ → ℕ → Type 0
Taken old new b n = IfSome old (λ xs. (take n b ≡ take (length b) xs) × (new ≡ Some (drop (length b) xs)))

-- a read failed: those before it took bytes that stand at the front of the buffer's bytes b, and no more
abbrev pub Lost : Option (List ℕ) → Option (List ℕ) → List ℕ → Type 0
Lost old new b = (n : ℕ) × (n ≤ length b) × Consumes old new (take n b)
