-- The groups of the layout numbered in order, and the walks over their positions as the code makes them. Assumes nothing.
use Rattle.std.specs.Prelude.{Bool, cond, List, [], ◌∷◌, ◌++◌, ℕ, zero, suc, ◌+◌, ◌-◌, ltb, length, get_or}
use Rattle.model.specs.Model.{Entity, SparseSet, Group, Family, Storage, meets, set_of, at, on_kinds, swap_to, all_held, head_kind, kinds_of, groups_of}
use Rattle.masks.specs.Masks.{up_from, keep_if}
use Rattle.group.specs.declared.group_status.GroupStatus.{GroupStatus}
use Rattle.group.specs.declared.group_status.GroupStatus.TheVariants.{Incomplete, Ungrouped, Grouped}

-- ---- the groups in order

-- the group at a position of the layout: its kinds, those of them that the next smaller group lacks (01: its ring), its count, and where its
-- family's groups begin and end
pub record Located : Type 0 where
  pub kinds : List ℕ
  pub new_kinds : List ℕ
  pub count : ℕ
  pub first : ℕ
  pub top : ℕ

abbrev pub nowhere : Located
nowhere = record { kinds = []; new_kinds = []; count = 0; first = 0; top = 0 }

-- a family's groups, smallest first; acc are the kinds of the group before
abbrev pub family_groups : ℕ → ℕ → List ℕ → Family → List Located
family_groups first top acc [] = []
family_groups first top acc (r ∷ rs) =
    record { kinds = acc ++ r.new_kinds; new_kinds = r.new_kinds; count = r.count; first = first; top = top }
    ∷ family_groups first top (acc ++ r.new_kinds) rs

-- the groups of the families, one family after another, numbered from p
abbrev pub group_list : ℕ → List Family → List Located
group_list p [] = []
group_list p (f ∷ fs) = family_groups p (p + length f) [] f ++ group_list (p + length f) fs

abbrev pub located : List Family → ℕ → Located
located fs g = get_or (group_list 0 fs) g nowhere

abbrev pub with_count : ℕ → Group → Group
with_count c r = record { new_kinds = r.new_kinds; count = c }

-- c for the count of the family's group at g
abbrev pub set_in : ℕ → ℕ → Family → Family
set_in g c [] = []
set_in zero c (r ∷ rs) = with_count c r ∷ rs
set_in (suc g) c (r ∷ rs) = r ∷ set_in g c rs

-- c for the count of the layout's group at g
abbrev pub set_count : ℕ → ℕ → List Family → List Family
set_count g c [] = []
set_count g c (f ∷ fs) =
    let here = set_in g c f ∷ fs in
    let later = f ∷ set_count (g - length f) c fs in
    cond (ltb g (length f)) here later

-- ---- one group

-- Incomplete where a new kind is missing; else Grouped, with the entity's place in the first new kind's sparse set, where that is below the count
abbrev pub status_of : Entity → Located → List SparseSet → GroupStatus
status_of e l sets =
    let place = at e (set_of sets (head_kind l.new_kinds)) in
    let inside = cond (ltb place l.count) (Grouped place) Ungrouped in
    cond (all_held e l.new_kinds sets) inside Incomplete

abbrev pub status_at : Entity → ℕ → Storage → GroupStatus
status_at e g s = status_of e (located s.layout g) s.sets

-- swapped to place c, "in every column of the group", and n for the count
abbrev pub moved_to : Entity → ℕ → ℕ → ℕ → Storage → Storage
moved_to e g c n s = record { sets = on_kinds (located s.layout g).kinds (swap_to e c) s.sets; layout = set_count g n s.layout }

-- "swapped to the place equal to the count, in every column of the group, and the count grows"
unfoldable pub group_at : Entity → ℕ → Storage → Storage
group_at e g s = let l = located s.layout g in moved_to e g l.count (l.count + 1) s

-- "swapped to the last counted place and the count falls"
unfoldable pub ungroup_at : Entity → ℕ → Storage → Storage
ungroup_at e g s = let l = located s.layout g in moved_to e g (l.count - 1) (l.count - 1) s

-- ---- the walks

abbrev pub step_up : GroupStatus → Entity → ℕ → Storage → Storage
step_up Incomplete e g s = s
step_up Ungrouped e g s = group_at e g s
step_up (Grouped place) e g s = s

-- "At the first group with a ring kind missing, the rest of that family is skipped."
abbrev pub skip_after : GroupStatus → ℕ → ℕ → ℕ
skip_after Incomplete top skip = top
skip_after Ungrouped top skip = skip
skip_after (Grouped place) top skip = skip

-- upward over the positions, rising; those below skip are passed over
unfoldable pub walk_up : Entity → ℕ → List ℕ → Storage → Storage
walk_up e skip [] s = s
walk_up e skip (g ∷ ps) s =
    let t = status_at e g s in
    let passed = walk_up e skip ps s in
    let on = walk_up e (skip_after t (located s.layout g).top skip) ps (step_up t e g s) in
    cond (ltb g skip) passed on

-- each of the entities in turn, over the same positions
unfoldable pub walk_each : List Entity → List ℕ → Storage → Storage
walk_each [] ps s = s
walk_each (e ∷ es) ps s = walk_each es ps (walk_up e 0 ps s)

abbrev pub step_down : GroupStatus → Entity → ℕ → Storage → Storage
step_down Incomplete e g s = s
step_down Ungrouped e g s = s
step_down (Grouped place) e g s = ungroup_at e g s

-- downward over the positions, falling
unfoldable pub walk_down : Entity → List ℕ → Storage → Storage
walk_down e [] s = s
walk_down e (g ∷ ps) s = walk_down e ps (step_down (status_at e g s) e g s)

-- ---- the positions of a walk

-- a family's groups, smallest first, each as its family and its kinds; acc are the kinds of the group before
abbrev pub family_members : Family → List ℕ → Family → List (Family × List ℕ)
family_members f acc [] = []
family_members f acc (r ∷ rs) = (f, acc ++ r.new_kinds) ∷ family_members f (acc ++ r.new_kinds) rs

-- those of the families, one family after another
abbrev pub members : List Family → List (Family × List ℕ)
members [] = []
members (f ∷ fs) = family_members f [] f ++ members fs

-- the numbers of those that pass the test, counted from p, rising
unfoldable pub passing : (Family → List ℕ → Bool) → ℕ → List (Family × List ℕ) → List ℕ
passing t p [] = []
passing t p (m ∷ ms) = keep_if (t m.0 m.1) p (passing t (suc p) ms)

-- the positions of the groups that pass a test of their family and their kinds, where the first group is numbered p
abbrev pub positions_where : (Family → List ℕ → Bool) → ℕ → List Family → List ℕ
positions_where t p fs = passing t p (members fs)

-- "the touched families' groups": those of the families that have a kind of ks
abbrev pub insert_positions : List ℕ → List Family → List ℕ
insert_positions ks fs = positions_where (λ f js. meets ks (kinds_of f)) 0 fs

abbrev pub all_positions : List Family → List ℕ
all_positions fs = up_from 0 (groups_of fs)

-- "the groups from each removed kind's own to the family's largest": those that have a kind of gone
abbrev pub delete_positions : List ℕ → List Family → List ℕ
delete_positions gone fs = positions_where (λ f ks. meets gone ks) 0 fs
