-- The staged components and the excluded kinds: what the functions on them answer and do, in the model's terms. Assumes nothing.
use Rattle.std.specs.Prelude.{[], ◌∷◌, ◌++◌, ℕ}
use Rattle.model.specs.Model.{Component}
use Rattle.model.specs.Store.{Store, with_control, with_staged, with_excluded}
use Rattle.values.specs.Values.{value_of}
use Rattle.control.specs.declared.staged.Component.{Component as Answer}

-- the answered component, its value having d words, as the model has it
abbrev pub component_of : ℕ → Answer → Component
component_of d r = record { kind = r.kind; value = value_of d r.value }

-- HOLD: "into the hand"
abbrev pub staging : ℕ → ℕ → Store → Store
staging k v s = with_control s (with_staged s.control (s.control.staged ++ (record { kind = k; value = v } ∷ [])))

-- BAR: "into the bar"
abbrev pub excluding : ℕ → Store → Store
excluding k s = with_control s (with_excluded s.control (s.control.excluded ++ (k ∷ [])))
