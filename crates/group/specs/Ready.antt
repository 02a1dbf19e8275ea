-- What the steps of a walk need of the sparse sets, following the walk. Assumes nothing.
use Rattle.std.specs.Prelude.{◌≡◌, Bool, true, false, List, [], ◌∷◌, ℕ, ◌-◌, ◌≤◌, ◌<◌, ltb, length}
use Rattle.model.specs.Model.{Entity, SparseSet, Storage, set_of, at, held}
use Rattle.model.specs.Sound.{In}
use Rattle.group.specs.declared.group_status.GroupStatus.{GroupStatus}
use Rattle.group.specs.declared.group_status.GroupStatus.TheVariants.{Incomplete, Ungrouped, Grouped}
use Rattle.group.specs.Flat.{Located, located, status_at, step_up, skip_after, walk_up, step_down}

-- the entity can be swapped to place c in every sparse set of ks
pub record Swappable (e : Entity) (ks : List ℕ) (c : ℕ) (sets : List SparseSet) : Type 0 where
  pub holds : (k : ℕ) → In ks k → held e (set_of sets k) ≡ true
  pub room : (k : ℕ) → In ks k → c < length (set_of sets k)

-- the entity stands at place p in every sparse set of ks
abbrev pub StandsAt : Entity → List ℕ → ℕ → List SparseSet → Type 0
StandsAt e ks p sets = (k : ℕ) → In ks k → at e (set_of sets k) ≡ p

-- A where the test holds, else B
abbrev pub Either : Bool → Type 0 → Type 0 → Type 0
Either true A B = A
Either false A B = B

-- what entering a group needs: an entity that is to enter can be swapped to the place equal to the count
abbrev pub ReadyIn : GroupStatus → Entity → Located → List SparseSet → Type 0
ReadyIn Incomplete e l sets = Unit {0}
ReadyIn Ungrouped e l sets = Swappable e l.kinds l.count sets
ReadyIn (Grouped place) e l sets = Unit {0}

-- what a walk upward over the groups at ps needs: each step that is not skipped, in the storage that the steps before it leave. Groups below skip
-- are those of a family that was left at a missing kind.
unfoldable pub ReadyUp : Entity → ℕ → List ℕ → Storage → Type 0
ReadyUp e skip [] s = Unit {0}
ReadyUp e skip (g ∷ ps) s =
    Either (ltb g skip)
    (ReadyUp e skip ps s)
    (ReadyIn (status_at e g s) e (located s.layout g) s.sets × ReadyUp e (skip_after (status_at e g s) (located s.layout g).top skip) ps (step_up (status_at e g s) e g s))

-- what leaving a group needs: an entity inside can be swapped to the last counted place, and stands at one place in all of the group's sparse sets
abbrev pub ReadyOut : GroupStatus → Entity → Located → List SparseSet → Type 0
ReadyOut Incomplete e l sets = Unit {0}
ReadyOut Ungrouped e l sets = Unit {0}
ReadyOut (Grouped place) e l sets = (1 ≤ l.count) × Swappable e l.kinds (l.count - 1) sets × StandsAt e l.kinds place sets

-- what a walk downward over the groups at ps needs: each step, in the storage that the steps before it leave
unfoldable pub ReadyDown : Entity → List ℕ → Storage → Type 0
ReadyDown e [] s = Unit {0}
ReadyDown e (g ∷ ps) s =
    ReadyOut (status_at e g s) e (located s.layout g) s.sets × ReadyDown e ps (step_down (status_at e g s) e g s)

-- what walks upward over the groups at ps need, each of the entities in turn
unfoldable pub ReadyEach : List Entity → List ℕ → Storage → Type 0
ReadyEach [] ps s = Unit {0}
ReadyEach (e ∷ es) ps s = ReadyUp e 0 ps s × ReadyEach es ps (walk_up e 0 ps s)
