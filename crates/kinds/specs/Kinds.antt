-- A kind's sparse set by way of the table of kinds, and what a change of it leaves. Assumes nothing.
use Rattle.std.specs.Prelude.{◌≡◌, Option, List, [], map, ℕ, suc}
use Rattle.model.specs.Model.{Entity, SparseSet, Storage, set_of, remove_row}
use Rattle.model.specs.Store.{on_set, on_storage}
use Rattle.words.specs.Shape.{shape_of}
use Rattle.words.specs.declared.Found.{Found}
use Rattle.words.specs.declared.Found.TheVariants as found
use Rattle.values.specs.declared.Value.{Value}
use Rattle.component.specs.Answers.{Gives}
use Rattle.memory.specs.Header.{slot_of}
use Rattle.memory.specs.Meaning.{own_at, meaning}
use Rattle.memory.specs.Arranged.{Becomes}

-- kind k's sparse set in the store that the words mean
abbrev pub kind_set : List ℕ → ℕ → SparseSet
kind_set w k = set_of (meaning w).storage.sets k

-- 01: a kind's "own (the one whose ring has it; a kind in no group has none)", as the head of its column says it
abbrev pub OwnGroup : List ℕ → ℕ → Found → Type 0
OwnGroup w k (found.At g) = own_at w (slot_of w k) ≡ suc g
OwnGroup w k found.Nothing = own_at w (slot_of w k) ≡ 0

-- 01: "Removal puts the last row in the gap", in kind k's sparse set, and the answer
pub record RemovesKind (w w' : List ℕ) (k : ℕ) (e : Entity) (r : Option Value) : Type 0 where
  pub becomes : Becomes w w' (on_storage (on_set k (remove_row e)) (meaning w))
  pub gives : Gives (shape_of w).stride e (kind_set w k) r

-- 01, WIPE: "all parts go", as far as the sparse sets are concerned
abbrev pub emptied : Storage → Storage
emptied s = record { sets = map (λ (c : SparseSet). []) s.sets; layout = s.layout }
