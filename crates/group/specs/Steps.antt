-- What the steps of the walks find and leave. Assumes nothing.
use Rattle.std.specs.Prelude.{◌≡◌, true, cond, List, ℕ, ◌<◌, ltb}
use Rattle.model.specs.Model.{Entity, SparseSet, Storage, set_of, at, head_kind, all_held, on_kinds, swap_to, groups_of}
use Rattle.model.specs.Store.{on_storage}
use Rattle.masks.specs.Masks.{bits_of, has, common_of, skipping}
use Rattle.memory.specs.Meaning.{meaning}
use Rattle.memory.specs.Arranged.{Becomes}
use Rattle.group.specs.declared.group_status.GroupStatus.{GroupStatus}
use Rattle.group.specs.declared.group_status.GroupStatus.TheVariants.{Incomplete, Ungrouped, Grouped}
use Rattle.group.specs.Flat.{located, status_at, step_up}

-- status_of, of a group with these new kinds and this count
abbrev pub status_in : Entity → List ℕ → ℕ → List SparseSet → GroupStatus
status_in e new c sets =
    let place = at e (set_of sets (head_kind new)) in
    let inside = cond (ltb place c) (Grouped place) Ungrouped in
    cond (all_held e new sets) inside Incomplete

-- the entity swapped to place c in the sparse sets of ks: "in every column of the group"
abbrev pub swap_kinds : Entity → ℕ → List ℕ → Storage → Storage
swap_kinds e c ks s = record { sets = on_kinds ks (swap_to e c) s.sets; layout = s.layout }

-- the positions are groups of the layout
abbrev pub Below : List ℕ → Storage → Type 0
Below ps s = (g : ℕ) → has g ps ≡ true → g < groups_of s.layout

-- the positions left after group g: "At the first group with a ring kind missing, the rest of that family is skipped."
abbrev pub left_after : GroupStatus → ℕ → ℕ → List ℕ → List ℕ
left_after Incomplete g top ps = common_of ps (skipping 64 g top)
left_after Ungrouped g top ps = ps
left_after (Grouped place) g top ps = ps

-- a step upward at group g: the storage as the model has it, and the mask that is left of rest
pub record StepsUp (w w' : List ℕ) (e : Entity) (g rest left : ℕ) : Type 0 where
  pub becomes : Becomes w w' (on_storage (step_up (status_at e g (meaning w).storage) e g) (meaning w))
  pub remains : bits_of 64 left ≡ left_after (status_at e g (meaning w).storage) g (located (meaning w).storage.layout g).top (bits_of 64 rest)
