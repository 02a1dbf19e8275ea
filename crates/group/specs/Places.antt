-- The kinds of the layout in force by their places, and what a walk leaves of the layout. Assumes nothing.
use Rattle.std.specs.Prelude.{◌≡◌, List, map, ℕ, get_or}
use Rattle.model.specs.Model.{zero_count}
use Rattle.memory.specs.Meaning.{meaning}
use Rattle.group.specs.Metadata.{order_of}

-- the kind at place p of the layout's
abbrev pub kind_no : List ℕ → ℕ → ℕ
kind_no w p = get_or (order_of (meaning w)) p 0

-- the layout is as it was, but for its counts
abbrev pub SameLayout : List ℕ → List ℕ → Type 0
SameLayout w w' = map (map zero_count) (meaning w').storage.layout ≡ map (map zero_count) (meaning w).storage.layout
